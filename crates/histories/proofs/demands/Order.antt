-- Demand 3, order: an offered event that finds fewer than 16 waiting is drained after those and before any later one; else it is dropped and counted.
-- What waited and what was kept since is what was drained since and what waits (Draining), so the place that an event finds is its place among the
-- drained.
use Rattle.basics.proofs.Prelude.{◌≡◌, sym, ap, ◌∙◌, ◌⊎◌, inl, inr, true, cond, List, [], ◌∷◌, ◌++◌, append_assoc, ℕ, ◌+◌, ◌<◌, ◌≤◌, min, arith, ltb, length, get_or, ltb-true, ltb-false, test}
use Rattle.rules.specs.{Lines.Made, Ring.Event, Ring.RingAct, Ring.Drawn, Ring.offer, Ring.offered, Ring.ring_step, Ring.ring_run, Ring.kept, Ring.dropped}
use Rattle.rules.specs.{Device.Device, Device.Call, Device.offers, Device.draws, Device.step, History.history}
use Rattle.rules.proofs.laws.{Rings.offered_full, Rings.run_append, Rings.fifo, Rings.drops_run, Acts.offers_append}
use Rattle.histories.specs.Demands.{as_event, found_by, FindsRoom, FindsNone, ring_acts}
use Rattle.histories.proofs.laws.Draining.{offers_drain, kept_place, history_ring}

-- ---- room

-- however many wait, an event finds room or none
pub room_or_none : (k : ℕ) → FindsRoom k ⊎ FindsNone k
room_or_none k = test (ltb k 16) (λ t. inl (omega (arith, ltb-true k 16 t))) (λ t. inr (omega (arith, ltb-false k 16 t)))

-- the one below 16, the other from 16 on
pub room_is_less : (k : ℕ) → FindsRoom k → k < 16
room_is_less k h = omega (arith, h)

pub none_is_more : (k : ℕ) → FindsNone k → 16 ≤ k
none_is_more k h = omega (arith, h)

-- ---- one event

-- the device d meets the call c, which makes the event m and offers it: before m it makes `earlier`, after m `rest`
module _ (d : Device) (c : Call) (earlier : List Made) (m : Made) (rest : List Made)
    (made : (step d c).made ≡ earlier ++ (m ∷ rest)) (is_offered : m.offered ≡ true) where
  offers_are : (after : List Made) → offers (earlier ++ (m ∷ after)) ≡ offers earlier ++ (offer (as_event m) ∷ offers after)
  unfolding offers
  offers_are after = offers_append earlier (m ∷ after) ∙ ap (λ b. offers earlier ++ cond b (offer (as_event m) ∷ offers after) (offers after)) is_offered

  -- what the ring does from the offer of m on
  abbrev since : List Call → List RingAct
  since later = offers rest ++ (draws c ++ ring_acts (step d c).after later)

  drained_since : (later : List Call) → (history d (c ∷ later)).drained ≡ (ring_run (offered (found_by d earlier) (as_event m)) (since later)).drained
  unfolding ring_acts ring_run ring_step
  drained_since later =
      let after = draws c ++ ring_acts (step d c).after later in
      let xs = offer (as_event m) ∷ since later in
      let acts = ap (λ os. os ++ after) (ap offers made ∙ offers_are rest) ∙ append_assoc (offers earlier) (offer (as_event m) ∷ offers rest) after in
      ap (λ (t : Drawn). t.drained) (history_ring d (c ∷ later) ∙ ap (ring_run d.ring) acts ∙ run_append d.ring (offers earlier) xs)
      ∙ ap (λ es. es ++ (ring_run (found_by d earlier) xs).drained) (offers_drain d.ring earlier)

  -- 'An offered event that finds k waiting is, if k is below 16, the (k+1)th drained from then, once so many are': place 0 is the first. Drained from then
  -- on is all that c and the calls after it drain, each with any room.
  pub drained_in_turn : (k : ℕ) → length (found_by d earlier).waiting ≡ k → k < 16
      → (later : List Call) → k < length (history d (c ∷ later)).drained → (x : Event) → get_or (history d (c ∷ later)).drained k x ≡ as_event m
  drained_in_turn k e h later g x =
      rw (← e, drained_since later)
      (kept_place (found_by d earlier) (as_event m) (since later) x (omega (arith, room_is_less k h, e)) (rw (← e, drained_since later) at g))

  -- 'else dropped and counted up to 01's stop': the next event finds what m found, but the count one higher, up to the stop
  pub else_dropped : (k : ℕ) → length (found_by d earlier).waiting ≡ k → 16 ≤ k
      → found_by d (earlier ++ (m ∷ [])) ≡ record { waiting = (found_by d earlier).waiting; drops = min ((found_by d earlier).drops + 1) 4294967295 }
  unfolding offers ring_run ring_step
  else_dropped k e h =
      ap (λ os. (ring_run d.ring os).after) (offers_are []) ∙ ap (λ (t : Drawn). t.after) (run_append d.ring (offers earlier) (offer (as_event m) ∷ []))
      ∙ offered_full (found_by d earlier) (as_event m) (omega (arith, none_is_more k h, e))

-- ---- all events

-- what waited at first, and what was kept of the offered events in the order of making, is what was drained and what waits at last
pub first_in_first_out : (d : Device) (cs : List Call)
    → d.ring.waiting ++ kept d.ring (ring_acts d cs) ≡ (history d cs).drained ++ (history d cs).after.ring.waiting
first_in_first_out d cs = fifo d.ring (ring_acts d cs) ∙ ap (λ (t : Drawn). t.drained ++ t.after.waiting) (sym (history_ring d cs))

-- the drop count is the number of the events dropped, up to the stop
pub drops_counted : (d : Device) (cs : List Call) → d.ring.drops ≤ 4294967295
    → (history d cs).after.ring.drops ≡ min (d.ring.drops + length (dropped d.ring (ring_acts d cs))) 4294967295
drops_counted d cs h = ap (λ (t : Drawn). t.after.drops) (history_ring d cs) ∙ drops_run d.ring (ring_acts d cs) h
