-- `leave_one`: an input is in service where `served` tells of one.
use Rattle.basics.proofs.Prelude.{rules}
use Rattle.lines.proofs.enter_leave.{Moving.leave_one_none, Moving.leave_one_done}
use Rattle.lines.proofs.enter_leave.leave_one.Goals as goal

pub returns-then-served-eq0 : goal.returns-then-served-eq0
returns-then-served-eq0 c = let p = c in
    let q = p in
    let s = q in
    leave_one_none s.args.image.now s.args.irq s.requires.1 q.isr-isr.ensures p.served.ensures c.if-served-eq0.true

pub returns : goal.returns
returns c = let v = c in
    let t = v in
    let e = t in
    let p = e in
    let q = p in
    let s = q in
    leave_one_done s.args.image.now s.args.irq s.requires.1 q.isr-isr.ensures p.served.ensures (search rules) e.if-served-eq0.false t.put_isr.ensures c.vector.ensures
