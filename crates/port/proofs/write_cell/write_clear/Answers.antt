-- `write_clear` is right since the engine's lines and ring are put into the state.
use Rattle.basics.proofs.Prelude.{as_half}
use Rattle.rules.specs.Core.{clear, moved}
use Rattle.port.proofs.write_cell.Acted.{writes_moved}
use Rattle.port.proofs.write_cell.write_clear.Goals as goal

pub returns : goal.returns
unfolding moved
returns c =
    let a = c in
    writes_moved a.args.state a.requires c.clear_irq-moved.result (clear (as_half a.args.high a.args.val))
    (rw c.in_half-mask.ensures at c.clear_irq-moved.ensures)
