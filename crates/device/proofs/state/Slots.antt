-- The slots of the ring as a list of events, and how many they are.
use Rattle.basics.proofs.Prelude.{◌≡◌, refl, ap, Bool, List, ℕ, zero, suc, length}
use Rattle.rules.specs.Ring.{Event}
use Rattle.device.specs.{state.View.slots, state.View.ring_view, declared.state.Ring.Ring}
use Rattle.rules.specs.Ring as rules-ring

abbrev pub ev : ℕ → Bool → Event
ev v a = record { vector = v; asserted = a }

abbrev pub ring_of : List Event → ℕ → rules-ring.Ring
ring_of es n = record { waiting = es; drops = n }

module _ (vs : List ℕ) (fs : List Bool) where
  pub slots_length : (h n : ℕ) → length (slots vs fs h n) ≡ n
  unfolding slots
  slots_length h zero = refl
  slots_length h (suc n) = ap suc (slots_length (suc h) n)

-- as many wait as the length says
pub waiting_length : (r : Ring) → length (ring_view r).waiting ≡ r.output_len
waiting_length r = slots_length r.output_vectors r.output_asserted r.output_head r.output_len
