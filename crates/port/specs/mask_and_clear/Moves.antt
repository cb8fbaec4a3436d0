-- What the moves that offer events promise, in the rules' terms: the lines after, and the events offered.
use Rattle.std.specs.Prelude.{◌≡◌}
use Rattle.rules.specs.Lines.{Turn}
use Rattle.rules.specs.Ring as ring
use Rattle.device.specs.state.View.{lines_view}
use Rattle.port.specs.events_for_mask.Offers.{Offers}
use Rattle.port.specs.declared.mask_and_clear.Moved.{Moved}

-- a move that offers its events
pub record Moves (m : Moved) (before : ring.Ring) (t : Turn) : Type 0 where
  pub lines : lines_view m.lines ≡ t.after
  pub offers : Offers m.ring m.dropped before t.made
