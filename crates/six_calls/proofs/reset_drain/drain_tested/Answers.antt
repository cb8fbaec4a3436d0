-- `drain_tested`: refused for the image alone; done, the oldest events are drained into the front of the buffer.
use Rattle.basics.proofs.Prelude.{refl, rules}
use Rattle.fields.proofs.inplace.Passing.{long, few}
use Rattle.answer.proofs.refusals.Ends.{by_exit}
use Rattle.six_calls.proofs.reset_drain.Whole.{drain_done}
use Rattle.calls.specs.Calls as asked
use Rattle.six_calls.proofs.reset_drain.drain_tested.Goals as goal

pub returns-in_err-form : goal.returns-in_err-form
returns-in_err-form c = let a = c.args in by_exit (asked.drain a.events.now 0) a.image.now refl c.from_residual.result c.from_residual.ensures.1 c.in_err-form.ensures

pub drain-count-requires : goal.drain-count-requires
drain-count-requires c = (long c.in_ok-form.ensures, few c.in_ok-form.ensures)

pub returns : goal.returns
returns c = drain_done c.in_ok-form.ensures c.args.events.now (search rules) c.drain-count.ensures
