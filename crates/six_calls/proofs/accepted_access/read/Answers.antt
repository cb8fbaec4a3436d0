-- `read`: no such width, then outside the window; done, the image stays and what the registers read is told.
use Rattle.basics.proofs.Prelude.{refl}
use Rattle.rules.specs.Access.{read_at}
use Rattle.six_calls.proofs.accepted_access.Aims.{no_width_lem, no_place, read_done}
use Rattle.rules.specs.Device as device
use Rattle.calls.specs.Calls as asked
use Rattle.six_calls.proofs.accepted_access.read.Goals as goal

pub returns-in_default : goal.returns-in_default
unfolding read_at
returns-in_default c = let a = c.args in
    no_width_lem c.requires a.base a.size a.address a.width c.width_of.ensures (asked.read a.base a.size a.address a.width) device.read refl c.in_default.is

pub returns-in_default-locate : goal.returns-in_default-locate
unfolding read_at
returns-in_default-locate c = let a = c.args in
    no_place c.requires a.base a.size a.address a.width c.width_of.ensures (asked.read a.base a.size a.address a.width) device.read refl c.in-Some.is c.locate.ensures.0 c.in_default-locate.is

pub returns-in-Byte : goal.returns-in-Byte
unfolding read_at
returns-in-Byte c = let a = c.args in
    read_done c.requires a.base a.size a.address a.width c.width_of.ensures c.in-Some.is c.locate.ensures.0 c.in-Some-locate.is c.read_byte.result (rw c.in-Byte.is c.read_byte.ensures)

pub returns-in-Word : goal.returns-in-Word
unfolding read_at
returns-in-Word c = let a = c.args in
    read_done c.requires a.base a.size a.address a.width c.width_of.ensures c.in-Some.is c.locate.ensures.0 c.in-Some-locate.is c.read_word.result (rw c.in-Word.is c.read_word.ensures)

pub returns-in-Dword : goal.returns-in-Dword
unfolding read_at
returns-in-Dword c = let a = c.args in
    read_done c.requires a.base a.size a.address a.width c.width_of.ensures c.in-Some.is c.locate.ensures.0 c.in-Some-locate.is c.read_dword.result (rw c.in-Dword.is c.read_dword.ensures)

pub returns-in-Qword : goal.returns-in-Qword
unfolding read_at
returns-in-Qword c = let a = c.args in
    read_done c.requires a.base a.size a.address a.width c.width_of.ensures c.in-Some.is c.locate.ensures.0 c.in-Some-locate.is c.read_qword.result (rw c.in-Qword.is c.read_qword.ensures)
