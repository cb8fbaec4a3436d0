-- `lower`: the latch is stored, and then the input leaves.
use Rattle.device.specs.state.View.{answer_value}
use Rattle.lines.proofs.service.Calling.{lower_done}
use Rattle.lines.proofs.service.lower.Goals as goal

pub returns : goal.returns
returns c = let e = c in
    let p = e in
    let r = p in
    let s = r in
    lower_done s.args.image.now r.irr-irr.ensures s.args.irq s.requires.1 (answer_value e.leave_one.result) p.put_irr.ensures e.leave_one.ensures
