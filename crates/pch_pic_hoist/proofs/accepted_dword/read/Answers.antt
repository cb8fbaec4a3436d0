-- `read`: no such width, then outside the window, then no aligned Dword; done, the image stays and what the registers read is told.
use Rattle.basics.proofs.Prelude.{refl, sym, ◌∙◌, false}
use Rattle.rules.specs.Access.{read_at}
use Rattle.images.specs.Image.{decode}
use Rattle.device.specs.map.Views.{width_view}
use Rattle.six_calls.proofs.accepted_access.Aims.{read_done}
use Rattle.pch_pic_hoist.proofs.accepted_dword.{Ends.aligned_dword_lem, Ends.read_unaligned, Ends.read_passes, Ends.width_first, Ends.place_first, Ends.judged_as}
use Rattle.rules.specs.Device as device
use Rattle.calls.specs.Calls as asked
use Rattle.pch_pic_hoist.proofs.accepted_dword.read.Goals as goal

pub returns-in_default : goal.returns-in_default
returns-in_default c = let a = c.args in
    width_first c.requires false a.base a.size a.address a.width c.width_of.ensures (asked.read a.base a.size a.address a.width) device.read refl c.in_default.is

pub returns-in_default-locate : goal.returns-in_default-locate
returns-in_default-locate c = let a = c.args in
    place_first c.requires false a.base a.size a.address a.width c.width_of.ensures (asked.read a.base a.size a.address a.width) device.read refl c.in-Some.is c.locate.ensures.0 c.in_default-locate.is

pub returns-then-not-is_aligned_dword : goal.returns-then-not-is_aligned_dword
returns-then-not-is_aligned_dword c = let a = c.args in
    judged_as c.requires false a.base a.size a.address a.width c.width_of.ensures (asked.read a.base a.size a.address a.width) device.read refl c.in-Some.is c.locate.ensures.0 c.in-Some-locate.is
    (read_unaligned false (decode a.image.now) (width_view c.in-Some.known) c.in-Some-locate.offset (sym c.is_aligned_dword.ensures ∙ c.if-not-is_aligned_dword.true))

pub returns : goal.returns
unfolding read_at
returns c = let a = c.args in
    let f = sym c.is_aligned_dword.ensures ∙ c.if-not-is_aligned_dword.false in
    read_done c.requires a.base a.size a.address a.width c.width_of.ensures c.in-Some.is c.locate.ensures.0 c.in-Some-locate.is c.read_dword.result
    (rw (aligned_dword_lem (width_view c.in-Some.known) c.in-Some-locate.offset f).0 c.read_dword.ensures)
    ∙ judged_as c.requires false a.base a.size a.address a.width c.width_of.ensures (asked.read a.base a.size a.address a.width) device.read refl c.in-Some.is c.locate.ensures.0 c.in-Some-locate.is
    (read_passes false (decode a.image.now) (width_view c.in-Some.known) c.in-Some-locate.offset f)
