-- `read`: each refusal leaves where 01's order puts it; done, the image stays and what the registers read is told.
use Rattle.basics.proofs.Prelude.{refl}
use Rattle.answer.proofs.refusals.Ends.{by_exit}
use Rattle.six_calls.proofs.accepted_access.Aims.{no_width_lem, no_place, read_done}
use Rattle.rules.specs.Device as device
use Rattle.calls.specs.Calls as asked
use Rattle.pch_pic_table.proofs.tested_access.read.Goals as goal

pub returns-in_err-form : goal.returns-in_err-form
returns-in_err-form c = let a = c.args in
    by_exit (asked.read a.base a.size a.address a.width) a.image.now refl c.from_residual.result c.from_residual.ensures.1 c.in_err-form.ensures

pub returns-in_default : goal.returns-in_default
returns-in_default c = let a = c.args in
    no_width_lem c.in_ok-form.ensures a.base a.size a.address a.width c.width_of.ensures (asked.read a.base a.size a.address a.width) device.read refl c.in_default.is

pub returns-in_default-locate : goal.returns-in_default-locate
returns-in_default-locate c = let a = c.args in
    no_place c.in_ok-form.ensures a.base a.size a.address a.width c.width_of.ensures (asked.read a.base a.size a.address a.width) device.read refl
    c.in-Some.is c.locate.ensures.0 c.in_default-locate.is

pub returns : goal.returns
returns c = let a = c.args in
    read_done c.in_ok-form.ensures a.base a.size a.address a.width c.width_of.ensures c.in-Some.is c.locate.ensures.0 c.in-Some-locate.is
    c.read_access-value.result c.read_access-value.ensures
