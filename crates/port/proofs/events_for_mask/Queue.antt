-- The loop that offers an event for each input of a mask, lowest first.
use Rattle.basics.proofs.Prelude.{◌≡◌, refl, sym, ap, ◌∙◌, Bool, true, cond, List, [], ◌∷◌, ◌++◌, map, append-nil, append_assoc, ℕ, suc, ◌+◌, ◌^◌, ◌<◌, ◌≤◌, arith, length, get_or, on, inputs, only, without, no_input_lem}
use Rattle.rules.specs.{Lines.Made, Lines.event, Device.offers}
use Rattle.laws.proofs.laws.Losses.{from_few}
use Rattle.device.specs.{state.View.WellRing, state.View.ring_view, declared.state.Ring.Ring}
use Rattle.port.specs.{declared.push.Pushed.Pushed, push.Pushes.Pushes, events_for_mask.Offers.Offers, events_for_mask.Offers.events_of}
use Rattle.port.proofs.events_for_mask.Offering.{offers_as, none_offered, one_at_most, one_offered, offered_then}
use Rattle.rules.specs.Ring as ring

-- what holds at each turn: what was offered so far and what is left are all; and what was dropped and what is left are 64 at most
pub record Queueing (vs : List ℕ) (a : Bool) (before : ring.Ring) (all : ℕ) (r : Ring) (n x : ℕ) : Type 0 where
  pub sofar : List Made
  pub offers : Offers r n before sofar
  pub rest : sofar ++ events_of vs x a ≡ events_of vs all a
  pub few : n + length (inputs (on x)) ≤ 64
  pub below : x < 2 ^ 64

pub queue_start : (vs : List ℕ) (a : Bool) (r : Ring) (x : ℕ) → WellRing r → x < 2 ^ 64 → Queueing vs a (ring_view r) x r 0 x
unfolding offers
queue_start vs a r x well h = record { sofar = []; offers = none_offered r [] well refl; rest = refl; few = omega (arith, from_few 0 64 (on x)); below = h }

-- one input less is left
pub queue_less : (x n y : ℕ) → inputs (on x) ≡ n ∷ inputs (on (without x (only n))) → y ≡ without x (only n) → length (inputs (on y)) < length (inputs (on x))
queue_less x n y first left =
    let e : length (inputs (on x)) ≡ suc (length (inputs (on (without x (only n))))) = ap length first in
    let f : length (inputs (on y)) ≡ length (inputs (on (without x (only n)))) = ap (λ (z : ℕ). length (inputs (on z))) left in
    omega arith

module _ {vs : List ℕ} {a : Bool} {before : ring.Ring} {all : ℕ} {r : Ring} {k x : ℕ} (q : Queueing vs a before all r k x) where
  pub queue_step : (p : Pushed) (m : ℕ) {n y : ℕ} → inputs (on x) ≡ n ∷ inputs (on (without x (only n))) → Pushes p (ring_view r) (record { vector = get_or vs n 0; asserted = a }) → m ≡ cond p.kept 0 1
      → y ≡ without x (only n) → y < 2 ^ 64 → Queueing vs a before all p.ring (k + m) y
  unfolding offers
  queue_step p m {n} {y} first pushes lost left below =
      let one : List Made = event vs true a n ∷ [] in
      record {
        sofar = q.sofar ++ one;
        offers = offered_then q.sofar one q.offers (one_offered p (ring_view r) m _ one pushes lost refl);
        rest = append_assoc q.sofar one (events_of vs y a)
            ∙ ap (λ (l : List Made). q.sofar ++ l) (ap (λ (z : ℕ). one ++ events_of vs z a) left ∙ sym (ap (map (event vs true a)) first))
            ∙ q.rest;
        few = omega (arith, q.few, one_at_most p.kept lost, queue_less x n y first left);
        below = below;
      }

  pub queue_done : x ≡ 0 → Offers r k before (events_of vs all a)
  queue_done z = offers_as (sym (append-nil q.sofar) ∙ ap (λ (ns : List ℕ). q.sofar ++ map (event vs true a) ns) (sym (no_input_lem x z)) ∙ q.rest) q.offers
