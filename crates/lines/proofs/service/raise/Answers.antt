-- `raise`: the latch is stored, and then it is polled.
use Rattle.device.specs.state.View.{answer_value}
use Rattle.lines.proofs.service.Calling.{raise_done}
use Rattle.lines.proofs.service.raise.Goals as goal

pub returns : goal.returns
returns c = let e = c in
    let p = e in
    let r = p in
    let s = r in
    raise_done s.args.image.now r.irr-irr.ensures s.args.irq s.requires.1 (answer_value e.enter.result) p.put_irr.ensures e.enter.ensures
