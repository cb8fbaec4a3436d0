-- The fields of a device as the functions of this module name them.
use Rattle.std.specs.Prelude.{◌≡◌, ℕ, ◌≤◌, Bool, List, [], ◌∷◌, length}
use Rattle.rules.specs.Ring.{capacity, stop, Event, Ring, RingAct, offer, offered, dropped_by}
use Rattle.rules.specs.Device.{reset}
use Rattle.images.specs.Image.{ring_body}
use Rattle.fields.specs.inplace.Held.{with_ring}

abbrev pub event : ℕ → Bool → Event
event v a = record { vector = v; asserted = a }

-- one event, offered
abbrev pub offering : ℕ → Bool → List RingAct
offering v a = offer (event v a) ∷ []

-- body 4 alone: of whatever ring it spells, it spells after the ring with the event offered, and n were dropped
abbrev pub RingOffered : List ℕ → List ℕ → ℕ → Event → Type 0
RingOffered i j n e = (r : Ring) → length r.waiting ≤ capacity → r.drops ≤ stop → i ≡ ring_body (with_ring reset r)
    → (j ≡ ring_body (with_ring reset (offered r e))) × (n ≡ length (dropped_by r (offer e)))
