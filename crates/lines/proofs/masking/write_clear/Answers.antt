-- `write_clear`: the latches are stored, and then the inputs leave, where any of them is in service.
use Rattle.basics.proofs.Prelude.{arith, rules}
use Rattle.lines.proofs.masking.{Stages.leave_none, Stages.clear_done}
use Rattle.lines.proofs.masking.write_clear.Goals as goal

pub returns-then-served-eq0 : goal.returns-then-served-eq0
returns-then-served-eq0 c =
    let v = c in
    let q = v in
    let p = q in
    let r = p in
    let a = r.args in
    (omega arith, clear_done a.image.now r.irr-irr.ensures a.bits (search rules) p.put_irr.ensures (leave_none p.put_irr.new.image a.bits q.isr-isr.ensures v.served.ensures c.if-served-eq0.true))

pub returns : goal.returns
returns c =
    let l = c in
    let p = l in
    let r = p in
    let a = r.args in
    (omega (arith, l.leave.ensures.0), clear_done a.image.now r.irr-irr.ensures a.bits (search rules) p.put_irr.ensures l.leave.ensures.1)
