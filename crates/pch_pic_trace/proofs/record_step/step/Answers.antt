-- `step`: a drain has its sixty-four bytes of the events; any other record leaves them.
use Rattle.basics.proofs.Prelude.{arith}
use Rattle.trace.specs.record_bytes.Shown.{record_view}
use Rattle.pch_pic_trace.proofs.record_step.{Stepping.widened, Stepping.call_steps, Stepping.good_kind}
use Rattle.pch_pic_trace.proofs.record_step.step.Goals as goal

pub returns-then-r-eq-DRAIN : goal.returns-then-r-eq-DRAIN
returns-then-r-eq-DRAIN c =
    let a = c.args in
    let d = c.if-r-eq-DRAIN.true in
    widened (record_view a.r) a.image.now a.events.now (rw d at c.requires.room) (rw d at c.drain_all.ensures.room) c.drain_all.ensures

pub call-told-requires : goal.call-told-requires
call-told-requires c = let k = good_kind (record_view c.args.r) c.requires.good in
    record { passed = c.requires.passed; some = k.0; other = omega arith }

pub returns : goal.returns
returns c = call_steps c.args.image.now (record_view c.args.r) c.args.answer.now c.requires.answer c.call-told.ensures c.tell.ensures.1 c.args.events.now
