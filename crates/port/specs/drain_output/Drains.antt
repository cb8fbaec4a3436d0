-- What a drain promises, in the rules' terms: the ring after, how many events came out, and their pairs in the buffer.
use Rattle.std.specs.Prelude.{◌≡◌, List, ◌++◌, ℕ, ◌+◌, ◌*◌, ◌/◌, length, drop, set, Option, Some, None}
use Rattle.rules.specs.Ring as ring
use Rattle.rules.specs.Ring.{drawn, flag, pairs_of}
use Rattle.device.specs.declared.state.PchPicOutputEvent.{PchPicOutputEvent}
use Rattle.device.specs.state.View.{WellRing, ring_view}
use Rattle.port.specs.declared.drain_output.Drained.{Drained}

-- an event as a pair at its place; nothing where there is none
abbrev pub pair_put : List ℕ → ℕ → Option PchPicOutputEvent → List ℕ
pair_put l i None = l
pair_put l i (Some e) = set (set l (2 * i) e.vector) (2 * i + 1) (flag e.asserted)

-- a drain into a buffer: what the ring draws for the room that there is, as pairs in front, and every other byte as it was
pub record Drains (r : Drained) (before : ring.Ring) (entry exit : List ℕ) : Type 0 where
  pub well_ring : WellRing r.ring
  pub ring : ring_view r.ring ≡ (drawn before (length entry / 2)).after
  pub count : r.count ≡ length (drawn before (length entry / 2)).drained
  pub pairs : exit ≡ pairs_of (drawn before (length entry / 2)).drained ++ drop (2 * r.count) entry
