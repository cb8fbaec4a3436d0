-- `enter`: the inputs that wait are those that `pending` tells of, and the lowest of them goes into service.
use Rattle.basics.proofs.Prelude.{◌<◌, count_trailing_zeros, rules, first_below}
use Rattle.lines.proofs.enter_leave.{Moving.enter_none, Moving.enter_some}
use Rattle.lines.proofs.enter_leave.enter.Goals as goal
use Rattle.lines.proofs.enter_leave.enter.Goals.{Else-waiting-eq0}

irq_below : (c : Else-waiting-eq0) → count_trailing_zeros 64 c.pending-waiting.result < 64
irq_below c = first_below c.pending-waiting.result (search rules) c.if-waiting-eq0.false

pub returns-then-waiting-eq0 : goal.returns-then-waiting-eq0
returns-then-waiting-eq0 c = let p = c in
    let w = p in
    let r = w in
    let q = r in
    let a = q.args in
    enter_none a.image.now a.set r.irr.ensures w.mask.ensures q.isr-isr.ensures p.pending-waiting.ensures c.if-waiting-eq0.true

pub returns : goal.returns
returns c = let v = c in
    let s = v in
    let t = s in
    let p = t in
    let w = p in
    let r = w in
    let q = r in
    let a = q.args in
    enter_some a.image.now a.set r.irr.ensures w.mask.ensures q.isr-isr.ensures p.pending-waiting.ensures (search rules) t.if-waiting-eq0.false (irq_below (goal.at.returns c).Else-waiting-eq0) s.put_isr.ensures c.vector.ensures
