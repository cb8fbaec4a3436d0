-- `pending_vector` is a poll: the mask is the bit of the one input.
use Rattle.basics.proofs.Prelude.{subst, rules}
use Rattle.device.specs.state.View.{lines_view}
use Rattle.port.specs.irq_level.Moves.{Answers}
use Rattle.port.proofs.irq_level.Turns.{poll_is}
use Rattle.port.proofs.irq_level.pending_vector.Goals as goal

pub returns : goal.returns
returns c =
    let a = c.args in
    subst (Answers c.update_irq.result) (poll_is a.vectors.now a.irq (search rules) (lines_view a.lines)) c.update_irq.ensures
