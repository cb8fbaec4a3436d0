-- `write_mask`: its two stages, one after the other, are the rule's.
use Rattle.basics.proofs.Prelude.{arith, rules}
use Rattle.device.specs.state.View.{answer_value}
use Rattle.lines.proofs.masking.{Stages.leave_none, Stages.mask_done, Stages.mask_stays}
use Rattle.lines.proofs.masking.write_mask.Goals as goal

pub returns-then-served-eq0 : goal.returns-then-served-eq0
returns-then-served-eq0 c =
    let v = c in
    let q = v in
    let o = q in
    let e = o in
    let p = e in
    let r = p in
    let w = r in
    let a = w.args in (
      omega (arith, o.offer_entered-first.ensures.0),
      mask_stays a.image.now a.high a.val w.mask-old.ensures r.replace_u32-new.ensures (search rules) (search rules) (answer_value e.enter-entered.result)
          p.put_mask.ensures e.enter-entered.ensures o.offer_entered-first.ensures.1 (leave_none o.offer_entered-first.new.image _ q.isr-isr.ensures v.served.ensures c.if-served-eq0.true),
    )

pub returns : goal.returns
returns c =
    let l = c in
    let q = l in
    let o = q in
    let e = o in
    let p = e in
    let r = p in
    let w = r in
    let a = w.args in (
      omega (arith, l.leave.ensures.0, o.offer_entered-first.ensures.0),
      mask_done a.image.now a.high a.val w.mask-old.ensures r.replace_u32-new.ensures (search rules) (search rules) (answer_value e.enter-entered.result)
          p.put_mask.ensures e.enter-entered.ensures o.offer_entered-first.ensures.1 l.leave.ensures.1,
    )
