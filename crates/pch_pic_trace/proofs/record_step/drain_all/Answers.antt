-- `drain_all`: what a drain of sixty-four bytes' room gives is what the record's call gives.
use Rattle.basics.proofs.Prelude.{◌≡◌, arith, rules}
use Rattle.rules.specs.Device.{some}
use Rattle.calls.specs.Calls.{ending}
use Rattle.fields.proofs.inplace.Passing.{long, few}
use Rattle.six_calls.proofs.reset_drain.Whole.{drain_done}
use Rattle.trace.specs.record_bytes.Shown.{record_view}
use Rattle.pch_pic_trace.proofs.record_step.{Stepping.four_each, Stepping.drain_steps}
use Rattle.calls.specs.Calls as request
use Rattle.pch_pic_trace.proofs.record_step.drain_all.Goals as goal
use Rattle.pch_pic_trace.proofs.record_step.drain_all.Goals.{After-drain-count}

-- it has drained
done : (d : After-drain-count) → record { number = 0; value = some d.drain-count.result; image = d.drain-count.new.image; events = d.drain-count.new.out } ≡ ending (request.drain d.args.out.now 0) d.args.image.now
done d = drain_done d.requires.passed d.args.out.now (search rules) d.drain-count.ensures

pub drain-count-requires : goal.drain-count-requires
drain-count-requires c = let p = c.requires.passed in (long p, few p)

pub overflow_mul-result : goal.overflow_mul-result
overflow_mul-result c = omega (arith, four_each c.requires.passed (record_view c.args.r) c.requires.drain c.args.out.now c.requires.room (done (goal.at.overflow_mul-result c).After-drain-count))

pub returns : goal.returns
returns c = drain_steps c.requires.passed (record_view c.args.r) c.requires.drain c.args.out.now c.requires.room (done (goal.at.returns c).After-drain-count) c.args.answer.now c.requires.answer c.put_answer.ensures
