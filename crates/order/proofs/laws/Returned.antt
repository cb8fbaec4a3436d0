-- The event that a call returns has the number of its position: a level or poll call makes at most one event, and has its number in its value; no other call
-- returns any.
use Rattle.basics.proofs.Prelude.{◌≡◌, refl, sym, ap, ◌∙◌, Bool, true, List, [], ◌∷◌, map, ℕ, ◌+◌, ◌*◌, ◌/◌, ◌%◌, ◌^◌, arith, length}
use Rattle.rules.specs.{Lines.Made, Ring.Ring, Core.turns, Access.Width}
use Rattle.rules.specs.Device.{Device, WellFormed, Call, level, poll, read, write, drain, acts_of, step}
use Rattle.rules.specs.Numbering.{Numbers, returned_with, value_with}
use Rattle.histories.{specs.Demands.as_event, specs.Demands.returned_in, proofs.laws.WellFormed.ByteEvents, proofs.laws.WellFormed.step_events}
use Rattle.histories.proofs.exported.laws.Readings.{Single, nothing, one, level_single, poll_single, write_returns}
use Rattle.order.specs.{Fates.is_returned, Fates.Placed, Fates.placed, Fates.with_fate, Numbered.all_from, Numbered.in_value, Numbered.returned_of}
use Rattle.order.proofs.laws.{Standing.Stands, Fates.returned_ones}

-- at most one event, whose vector is a byte, beside its number
single_numbered : (start p : ℕ) (r : Ring) (s : Numbers) → Stands start p r s → (b : Bool) (ms : List Made) → Single b ms → ByteEvents ms
    → in_value b (returned_with s ms) ≡ all_from start (with_fate is_returned (placed p r ms))
unfolding placed
single_numbered start p r s h b ms nothing e = refl
single_numbered start p r s h b ms (one m o a) e =
    let v = m.vector + 2 ^ 16 * s.next in
    let low : v % 256 ≡ m.vector = omega (arith, e 0) in
    let high : v / 2 ^ 16 ≡ s.next = omega (arith, e 0) in
    rw o (λ i. record { event = record { vector = low i; asserted = sym a i }; number = (high ∙ h.next) i } ∷ [])

none_mapped : {A B : Type 0} (f : A → B) (xs : List A) → map f xs ≡ [] → xs ≡ []
none_mapped f [] e = refl
none_mapped f (x ∷ xs) e = absurd (let z : ◌≡◌ {A = ℕ} (length (map f (x ∷ xs))) 0 = ap length e in omega arith)

-- events of which none is returned
none_numbered : (start p : ℕ) (r : Ring) (ms : List Made) → returned_in ms ≡ [] → [] ≡ all_from start (with_fate is_returned (placed p r ms))
none_numbered start p r ms e = ap (all_from start) (sym (none_mapped (λ (x : Placed). as_event x.event) (with_fate is_returned (placed p r ms)) (returned_ones p r ms ∙ e)))

-- a read and a drain make none
read_returns : (d : Device) (w : Width) (o : ℕ) → returned_in (step d (read w o)).made ≡ []
unfolding step acts_of turns returned_in
read_returns d w o = refl

drain_returns : (d : Device) (k : ℕ) → returned_in (step d (drain k)).made ≡ []
unfolding step acts_of turns returned_in
drain_returns d k = refl

pub call_returns : (start p : ℕ) (d : Device) → WellFormed d → (s : Numbers) → Stands start p d.ring s → (c : Call)
    → returned_of d s c ≡ all_from start (with_fate is_returned (placed p d.ring (step d c).made))
unfolding value_with
call_returns start p d w s h (level n b) = single_numbered start p d.ring s h b (step d (level n b)).made (level_single d n b) (step_events d (level n b) w)
call_returns start p d w s h (poll n) = single_numbered start p d.ring s h true (step d (poll n)).made (poll_single d n) (step_events d (poll n) w)
call_returns start p d w s h (read x o) = none_numbered start p d.ring (step d (read x o)).made (read_returns d x o)
call_returns start p d w s h (write x o v) = none_numbered start p d.ring (step d (write x o v)).made (write_returns d x o v)
call_returns start p d w s h (drain k) = none_numbered start p d.ring (step d (drain k)).made (drain_returns d k)
