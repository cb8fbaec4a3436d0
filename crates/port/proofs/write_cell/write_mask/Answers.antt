-- `write_mask` is right since the engine's lines and ring are put into the state.
use Rattle.rules.specs.Core.{set_mask, moved}
use Rattle.port.proofs.write_cell.Acted.{writes_moved}
use Rattle.port.proofs.write_cell.write_mask.Goals as goal

pub returns : goal.returns
unfolding moved
returns c =
    let a = c in
    writes_moved a.args.state a.requires c.update_int_mask-moved.result (set_mask a.args.high a.args.val) c.update_int_mask-moved.ensures
