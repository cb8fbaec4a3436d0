-- `poll_tested`: the image is refused where 01's order puts it; accepted, the call goes on.
use Rattle.basics.proofs.Prelude.{refl}
use Rattle.answer.proofs.refusals.Ends.{by_exit}
use Rattle.calls.specs.Calls as asked
use Rattle.six_calls.proofs.tested_input.poll_tested.Goals as goal

pub returns-in_err-form : goal.returns-in_err-form
returns-in_err-form c = let a = c.args in by_exit (asked.poll a.input) a.image.now refl c.from_residual.result c.from_residual.ensures.1 c.in_err-form.ensures
