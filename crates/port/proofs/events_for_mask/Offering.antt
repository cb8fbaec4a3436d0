-- Events offered to a ring and how many of them it drops: none, one that is pushed, and one list after another.
use Rattle.basics.proofs.Prelude.{◌≡◌, refl, sym, ap, ap₂, subst, ◌∙◌, Bool, true, false, cond, List, [], ◌∷◌, ◌++◌, ℕ, ◌+◌, ◌≤◌, arith, ltb, length, on}
use Rattle.rules.specs.{Lines.Made, Lines.event, Ring.capacity, Ring.Event, Ring.RingAct, Ring.Drawn, Ring.offer, Ring.dropped, Ring.ring_step, Ring.ring_run, Device.offers, Device.lost}
use Rattle.rules.proofs.laws.{Acts.offers_append, Rings.run_append}
use Rattle.laws.proofs.laws.Losses.{lost_append, lost_few, events_few}
use Rattle.device.specs.{state.View.WellRing, state.View.ring_view, declared.state.Ring.Ring}
use Rattle.port.specs.{declared.push.Pushed.Pushed, push.Pushes.Pushes, events_for_mask.Offers.Offers, events_for_mask.Offers.events_of}
use Rattle.rules.specs.Ring as ring

pub offers_as : {r : Ring} {n : ℕ} {before : ring.Ring} {ms ns : List Made} → ms ≡ ns → Offers r n before ms → Offers r n before ns
offers_as {r} {n} {before} e o = subst (Offers r n before) e o

-- nothing is offered
pub none_offered : (r : Ring) (ms : List Made) → WellRing r → offers ms ≡ [] → Offers r 0 (ring_view r) ms
unfolding ring_run dropped
none_offered r ms well e = record {
  well = well;
  ring = sym (ap (λ (xs : List RingAct). (ring_run (ring_view r) xs).after) e);
  dropped = sym (ap (λ (xs : List RingAct). length (dropped (ring_view r) xs)) e);
}

-- one event at most is lost with a push
pub one_at_most : (b : Bool) {n : ℕ} → n ≡ cond b 0 1 → n ≤ 1
one_at_most true e = omega arith
one_at_most false e = omega arith

-- one event is pushed, and lost if it is not kept
pub one_offered : (p : Pushed) (before : ring.Ring) (n : ℕ) (e : Event) (ms : List Made) → Pushes p before e → n ≡ cond p.kept 0 1 → offers ms ≡ offer e ∷ [] → Offers p.ring n before ms
unfolding ring_run ring_step dropped
one_offered p before n e ms pushes q f = record {
  well = pushes.is.well;
  ring = pushes.is.shows ∙ sym (ap (λ (xs : List RingAct). (ring_run before xs).after) f);
  dropped = q ∙ ap (λ (b : Bool). cond b 0 1) pushes.kept ∙ counted (ltb (length before.waiting) capacity) ∙ sym (ap (λ (xs : List RingAct). length (dropped before xs)) f);
}
  where
    counted : (b : Bool) → cond b 0 1 ≡ length (cond b [] (e ∷ []) ++ [])
    counted true = refl
    counted false = refl

-- of the events of inputs at most 64 are dropped
pub events_lost : {r : Ring} {n : ℕ} {before : ring.Ring} (vs : List ℕ) (m : ℕ) (a : Bool) → Offers r n before (events_of vs m a) → n ≤ 64
events_lost {before = before} vs m a o = omega (arith, o.dropped, lost_few before (events_of vs m a), events_few (event vs true a) (on m))

-- some events and then others: the losses add up
pub offered_then : {r s : Ring} {n k : ℕ} {before : ring.Ring} (ms ns : List Made) → Offers r n before ms → Offers s k (ring_view r) ns → Offers s (n + k) before (ms ++ ns)
offered_then {before} ms ns p q = record {
  well = q.well;
  ring =
      q.ring ∙ ap (λ (b : ring.Ring). (ring_run b (offers ns)).after) p.ring
      ∙ sym (ap (λ (xs : List RingAct). (ring_run before xs).after) (offers_append ms ns) ∙ ap (λ (d : Drawn). d.after) (run_append before (offers ms) (offers ns)));
  dropped = ap₂ (λ (a b : ℕ). a + b) p.dropped (q.dropped ∙ ap (λ (b : ring.Ring). lost b ns) p.ring) ∙ sym (lost_append before ms ns);
}
