-- `waiting`: the image is refused where 01's order puts it; accepted, the set is told.
use Rattle.six_calls.proofs.who_waits.Telling.{waits_refused, waits_told}
use Rattle.six_calls.proofs.who_waits.waiting.Goals as goal

pub returns-in_err-form : goal.returns-in_err-form
returns-in_err-form c = waits_refused c.args.image.now c.from_residual.result c.from_residual.ensures.1 c.in_err-form.ensures

pub returns : goal.returns
returns c = waits_told c.args.image.now c.in_ok-form.ensures c.set_of.ensures
