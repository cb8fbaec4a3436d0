-- `leave`: those in service are those that `served` tells of.
use Rattle.basics.proofs.Prelude.{rules}
use Rattle.lines.proofs.masking.Stages.{leave_done}
use Rattle.lines.proofs.masking.leave.Goals as goal

pub returns : goal.returns
returns c = let o = c in
    let p = o in
    let t = p in
    let s = t in
    (o.offer_each.ensures.0, leave_done s.args.image.now s.args.set s.requires.1 p.served.ensures (search rules) t.put_isr.ensures o.offer_each.ensures.1)
