-- `first_bad`: the record at hand is judged, or all have been.
use Rattle.basics.proofs.Prelude.{ap, not, arith}
use Rattle.trace.proofs.Whole.{told_here, told_later, told_none}
use Rattle.trace.proofs.first_bad.Goals as goal

pub returns-then-not-is_good : goal.returns-then-not-is_good
returns-then-not-is_good c =
    let l = c.loop-k in
    told_here c.args.trace.now c.args.first c.args.records l.k l.invariant (omega arith) c.record_at.ensures c.is_good.ensures (ap not c.if-not-is_good.true)

pub loop-k-preserved : goal.loop-k-preserved
loop-k-preserved c =
    let l = c.loop-k in
    told_later c.args.trace.now c.args.first c.args.records l.k l.invariant (omega arith) c.record_at.ensures c.is_good.ensures (ap not c.if-not-is_good.false)

pub returns : goal.returns
returns c = let l = c.loop-k in told_none c.args.trace.now c.args.first c.args.records l.k l.invariant (omega arith)
