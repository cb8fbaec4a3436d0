-- The order of making (02, C-19): every event that calls make, with its position in that order and with what becomes of it. The ring alone decides that, and
-- no number is asked for.
use Rattle.std.specs.Prelude.{cond, List, [], ◌∷◌, ◌++◌, ℕ, suc, ◌+◌, ltb, length}
use Rattle.rules.specs.Lines.{Made}
use Rattle.rules.specs.Ring.{capacity, Ring, ring_run}
use Rattle.rules.specs.Device.{Device, Call, offers, step}
use Rattle.images.specs.Form.{decided}

-- what becomes of an event that is made: it is returned, or it is offered and the ring keeps it or drops it (01, Inputs; 01, The ring)
pub data Fate : Type 0 where
  is_returned is_kept is_dropped : Fate
  deriving Discrete as Fate-discrete

-- an event made: its position in the order of making, the first of a history at 0, and what became of it (02, C-19)
pub record Placed : Type 0 where
  pub position : ℕ
  pub event : Made
  pub fate : Fate

-- what becomes of an event that finds the ring r: offered, it is kept if it finds fewer than 16 waiting, and else dropped (01, The ring; 02, C-19)
abbrev pub fate_at : Ring → Made → Fate
fate_at r m = cond m.offered (cond (ltb (length r.waiting) capacity) is_kept is_dropped) is_returned

-- the ring that it leaves, which the next one finds (01, Inputs: in the order of making)
abbrev pub ring_past : Ring → Made → Ring
ring_past r m = (ring_run r (offers (m ∷ []))).after

-- events in the order of making, from position p on, of which the first finds the ring r (02, C-19)
unfoldable pub placed : ℕ → Ring → List Made → List Placed
placed p r [] = []
placed p r (m ∷ ms) = record { position = p; event = m; fate = fate_at r m } ∷ placed (suc p) (ring_past r m) ms

-- the events that calls make, one after another (02, C-19: positions run through the whole history)
unfoldable pub placed_from : ℕ → Device → List Call → List Placed
placed_from p d [] = []
placed_from p d (c ∷ cs) =
    let one = step d c in
    placed p d.ring one.made ++ placed_from (p + length one.made) one.after cs

-- all events of a history of calls that begins with the device d
abbrev pub events_made : Device → List Call → List Placed
events_made d cs = placed_from 0 d cs

-- those of them that have a fate, in the order of making
abbrev pub with_fate : Fate → List Placed → List Placed
with_fate f [] = []
with_fate f (x ∷ xs) = cond (decided (Fate-discrete f x.fate)) (x ∷ with_fate f xs) (with_fate f xs)
