-- `write`: no such width, then outside the window; done, the image is that of the device after the write.
use Rattle.basics.proofs.Prelude.{refl, rules}
use Rattle.six_calls.proofs.accepted_access.{Aims.no_width_lem, Aims.no_place, Aims.write_done, Reaching.byte_low, Reaching.word_low, Reaching.dword_low}
use Rattle.rules.specs.Device as device
use Rattle.calls.specs.Calls as asked
use Rattle.six_calls.proofs.accepted_access.write.Goals as goal

pub returns-in_default : goal.returns-in_default
returns-in_default c = let a = c.args in
    no_width_lem c.requires a.base a.size a.address a.width c.width_of.ensures (asked.write a.base a.size a.address a.width a.value) (λ w o. device.write w o a.value) refl c.in_default.is

pub returns-in_default-locate : goal.returns-in_default-locate
returns-in_default-locate c = let a = c.args in
    no_place c.requires a.base a.size a.address a.width c.width_of.ensures (asked.write a.base a.size a.address a.width a.value) (λ w o. device.write w o a.value) refl c.in-Some.is c.locate.ensures.0 c.in_default-locate.is

pub returns-in-Byte : goal.returns-in-Byte
returns-in-Byte c = let a = c.args in
    write_done c.requires a.base a.size a.address a.width c.width_of.ensures c.in-Some.is c.locate.ensures.0 c.in-Some-locate.is a.value (search rules) (rw c.in-Byte.is (byte_low _ a.value c.half-low.ensures c.byte_of.ensures c.write_byte.ensures.1))

pub returns-in-Word : goal.returns-in-Word
returns-in-Word c = let a = c.args in
    write_done c.requires a.base a.size a.address a.width c.width_of.ensures c.in-Some.is c.locate.ensures.0 c.in-Some-locate.is a.value (search rules) (rw c.in-Word.is (word_low _ a.value c.half-low.ensures c.write_word.ensures.1))

pub returns-in-Dword : goal.returns-in-Dword
returns-in-Dword c = let a = c.args in
    write_done c.requires a.base a.size a.address a.width c.width_of.ensures c.in-Some.is c.locate.ensures.0 c.in-Some-locate.is a.value (search rules) (rw c.in-Dword.is (dword_low _ a.value c.half-low.ensures c.write_dword.ensures.1))

pub returns-in-Qword : goal.returns-in-Qword
returns-in-Qword c = let a = c.args in
    write_done c.requires a.base a.size a.address a.width c.width_of.ensures c.in-Some.is c.locate.ensures.0 c.in-Some-locate.is a.value (search rules) (rw c.in-Qword.is c.write_qword.ensures.1)
