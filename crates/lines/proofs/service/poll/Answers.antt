-- `poll`: the set of one input.
use Rattle.device.specs.state.View.{answer_value}
use Rattle.lines.proofs.service.Calling.{poll_done}
use Rattle.lines.proofs.service.poll.Goals as goal

pub returns : goal.returns
returns c = let e = c in
    let s = e in
    poll_done s.args.irq s.requires.1 (answer_value e.enter.result) e.enter.ensures
