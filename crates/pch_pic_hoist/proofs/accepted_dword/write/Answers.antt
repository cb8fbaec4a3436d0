-- `write`: no such width, then outside the window, then no aligned Dword, then a write that is not for this guest; done, the image is that of the device after the write.
use Rattle.basics.proofs.Prelude.{refl, sym, ◌∙◌, rules}
use Rattle.images.specs.Image.{decode, numbers_in}
use Rattle.device.specs.map.Views.{width_view}
use Rattle.fields.proofs.inplace.Passing.{here}
use Rattle.six_calls.proofs.accepted_access.{Aims.write_done, Reaching.dword_low}
use Rattle.pch_pic_hoist.proofs.accepted_dword.Ends.{aligned_dword_lem, write_unaligned, write_unfit, write_passes, width_first, place_first, judged_as}
use Rattle.rules.specs.Device as device
use Rattle.calls.specs.Calls as asked
use Rattle.pch_pic_hoist.proofs.accepted_dword.write.Goals as goal

pub returns-in_default : goal.returns-in_default
returns-in_default c = let a = c.args in
    width_first c.requires a.running a.base a.size a.address a.width c.width_of.ensures (asked.write a.base a.size a.address a.width a.value) (λ x o. device.write x o a.value) refl c.in_default.is

pub returns-in_default-locate : goal.returns-in_default-locate
returns-in_default-locate c = let a = c.args in
    place_first c.requires a.running a.base a.size a.address a.width c.width_of.ensures (asked.write a.base a.size a.address a.width a.value) (λ x o. device.write x o a.value) refl c.in-Some.is c.locate.ensures.0
    c.in_default-locate.is

pub returns-then-not-is_aligned_dword : goal.returns-then-not-is_aligned_dword
returns-then-not-is_aligned_dword c = let a = c.args in
    judged_as c.requires a.running a.base a.size a.address a.width c.width_of.ensures (asked.write a.base a.size a.address a.width a.value) (λ x o. device.write x o a.value) refl c.in-Some.is c.locate.ensures.0
    c.in-Some-locate.is
    (write_unaligned a.running (decode a.image.now) (width_view c.in-Some.known) c.in-Some-locate.offset a.value (sym c.is_aligned_dword.ensures ∙ c.if-not-is_aligned_dword.true))

pub returns-then-forbidden : goal.returns-then-forbidden
returns-then-forbidden c = let a = c.args in
    let d = decode a.image.now in
    judged_as c.requires a.running a.base a.size a.address a.width c.width_of.ensures (asked.write a.base a.size a.address a.width a.value) (λ x o. device.write x o a.value) refl c.in-Some.is c.locate.ensures.0
    c.in-Some-locate.is
    (write_unfit a.running d (width_view c.in-Some.known) c.in-Some-locate.offset a.value (sym c.is_aligned_dword.ensures ∙ c.if-not-is_aligned_dword.false)
    (sym (c.forbidden.ensures d (numbers_in a.image.now) (here c.requires)) ∙ c.if-forbidden.true))

pub returns : goal.returns
returns c = let a = c.args in
    let d = decode a.image.now in
    let f = sym c.is_aligned_dword.ensures ∙ c.if-not-is_aligned_dword.false in
    write_done c.requires a.base a.size a.address a.width c.width_of.ensures c.in-Some.is c.locate.ensures.0 c.in-Some-locate.is a.value (search rules)
    (rw (aligned_dword_lem (width_view c.in-Some.known) c.in-Some-locate.offset f).0 (dword_low _ a.value c.half.ensures c.write_dword-lost.ensures.1))
    ∙ judged_as c.requires a.running a.base a.size a.address a.width c.width_of.ensures (asked.write a.base a.size a.address a.width a.value) (λ x o. device.write x o a.value) refl c.in-Some.is c.locate.ensures.0
    c.in-Some-locate.is
    (write_passes a.running d (width_view c.in-Some.known) c.in-Some-locate.offset a.value f (sym (c.forbidden.ensures d (numbers_in a.image.now) (here c.requires)) ∙ c.if-forbidden.false))
