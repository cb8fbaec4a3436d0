-- `write`: each refusal leaves where 01's order puts it; done, the image is that of the device after the write.
use Rattle.basics.proofs.Prelude.{refl, rules}
use Rattle.answer.proofs.refusals.Ends.{by_exit}
use Rattle.six_calls.proofs.accepted_access.Aims.{no_width_lem, no_place, write_done}
use Rattle.rules.specs.Device as device
use Rattle.calls.specs.Calls as asked
use Rattle.pch_pic_table.proofs.tested_access.write.Goals as goal

pub returns-in_err-form : goal.returns-in_err-form
returns-in_err-form c = let a = c.args in
    by_exit (asked.write a.base a.size a.address a.width a.value) a.image.now refl c.from_residual.result c.from_residual.ensures.1 c.in_err-form.ensures

pub returns-in_default : goal.returns-in_default
returns-in_default c = let a = c.args in
    no_width_lem c.in_ok-form.ensures a.base a.size a.address a.width c.width_of.ensures (asked.write a.base a.size a.address a.width a.value) (λ w o. device.write w o a.value) refl
    c.in_default.is

pub returns-in_default-locate : goal.returns-in_default-locate
returns-in_default-locate c = let a = c.args in
    no_place c.in_ok-form.ensures a.base a.size a.address a.width c.width_of.ensures (asked.write a.base a.size a.address a.width a.value) (λ w o. device.write w o a.value) refl
    c.in-Some.is c.locate.ensures.0 c.in_default-locate.is

pub returns : goal.returns
returns c = let a = c.args in
    write_done c.in_ok-form.ensures a.base a.size a.address a.width c.width_of.ensures c.in-Some.is c.locate.ensures.0 c.in-Some-locate.is a.value (search rules)
    c.write_access-dropped.ensures.1
