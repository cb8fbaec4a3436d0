-- `count_drains`: of the records looked at so far so many drain.
use Rattle.basics.proofs.Prelude.{◌∙◌, arith}
use Rattle.trace.specs.record_bytes.Shown.{record_view}
use Rattle.pch_pic_trace.proofs.play_records.Counting.{none_counted, one_counted, other_counted, few_counted}
use Rattle.pch_pic_trace.proofs.play_records.count_drains.Goals as goal
use Rattle.pch_pic_trace.proofs.play_records.count_drains.Goals.{then-r-eq-DRAIN, else-r-eq-DRAIN}

pub loop-k-init : goal.loop-k-init
loop-k-init c = none_counted c.args.trace.now

pub overflow_add-drains : goal.overflow_add-drains
overflow_add-drains c = omega (arith, few_counted c.args.trace.now c.loop-k.k 0)

pub loop-k-preserved : goal.loop-k-preserved
loop-k-preserved c =
    let l = c.loop-k in
    let r = record_view c.record_at-r.result in
    elim c.if-r-eq-DRAIN.branch [
      | then-r-eq-DRAIN w ↦ w.drains-is ∙ one_counted c.args.trace.now c.args.first l.k c.requires.place l.invariant r c.record_at-r.ensures w.if-r-eq-DRAIN.true
      | else-r-eq-DRAIN w ↦ w.drains-is ∙ other_counted c.args.trace.now c.args.first l.k c.requires.place l.invariant r c.record_at-r.ensures w.if-r-eq-DRAIN.false
    ]
