-- Demand 3 of exported calls, its last words: an offered event that finds 16 waiting is itself the dropped one. The image that its call leaves has the ring that the event found, with it and those
-- offered after it counted up to the stop.
use Rattle.basics.proofs.Prelude.{◌≡◌, refl, sym, ap, ◌∙◌, true, false, cond, List, [], ◌∷◌, ◌++◌, append-nil, ℕ, ◌+◌, suc, ◌≤◌, min, arith, length, test}
use Rattle.rules.specs.{Core.turns, Lines.Made, Ring.Ring, Ring.Drawn, Ring.offer, Ring.offered, Ring.ring_step, Ring.ring_run, Device.Device, Device.Call, Device.offers, Device.draws, Device.acts_of, Device.acted, Device.step, History.history}
use Rattle.rules.proofs.laws.{Rings.offered_full, Rings.run_append, Rings.drops_run, Acts.offers_append}
use Rattle.images.specs.Image.{decode}
use Rattle.calls.specs.Calls.{asked_by}
use Rattle.histories.specs.Demands.{as_event, found_by, FindsNone, left_full}
use Rattle.histories.specs.exported.Exported.{Exported, Underway, is_done, is_load, call_of, left_by, carried_on, carried_through, NoLoads, done_call, done_calls, in_image, Faithful}
use Rattle.histories.proofs.{demands.Order.none_is_more, laws.WellFormed.history_well, exported.laws.Chains.handed, exported.demands.FromCalls.image_holds_device, exported.demands.FromCalls.image_holds_history}
use Rattle.rules.specs.Device as call

-- ---- a full ring

-- it stays as it is, and counts what it is offered
full_stays : (r : Ring) (ms : List Made) → 16 ≤ length r.waiting → r.drops ≤ 4294967295
    → (ring_run r (offers ms)).after ≡ record { waiting = r.waiting; drops = min (r.drops + length (offers ms)) 4294967295 }
unfolding ring_run ring_step offers
full_stays r [] h s = let e : r.drops ≡ min (r.drops + 0) 4294967295 = omega (arith, s) in (λ t. record { waiting = r.waiting; drops = e t })
full_stays r (m ∷ ms) h s = test m.offered (λ t. rw t (counted (full_stays (offered r (as_event m)) ms))) (λ t. rw t (full_stays r ms h s))
  where
    counted : (16 ≤ length (offered r (as_event m)).waiting → (offered r (as_event m)).drops ≤ 4294967295
        → (ring_run (offered r (as_event m)) (offers ms)).after ≡ record { waiting = (offered r (as_event m)).waiting; drops = min ((offered r (as_event m)).drops + length (offers ms)) 4294967295 })
        → (ring_run (offered r (as_event m)) (offers ms)).after ≡ record { waiting = r.waiting; drops = min (r.drops + suc (length (offers ms))) 4294967295 }
    counted later =
        let e = offered_full r (as_event m) h in
        let w : (offered r (as_event m)).waiting ≡ r.waiting = ap (λ (q : Ring). q.waiting) e in
        let d : (offered r (as_event m)).drops ≡ min (r.drops + 1) 4294967295 = ap (λ (q : Ring). q.drops) e in
        let n : min (min (r.drops + 1) 4294967295 + length (offers ms)) 4294967295 ≡ min (r.drops + suc (length (offers ms))) 4294967295 = omega arith in
        later (rw w h) (omega (arith, d)) ∙ (λ t. record { waiting = w t; drops = min (d t + length (offers ms)) 4294967295 }) ∙ (λ t. record { waiting = r.waiting; drops = n t })

-- a call that makes an event draws nothing
no_draw : (d : Device) (c : Call) (earlier : List Made) (m : Made) (rest : List Made) → (step d c).made ≡ earlier ++ (m ∷ rest) → draws c ≡ []
unfolding step acts_of turns
no_draw d (call.level n b) earlier m rest e = refl
no_draw d (call.poll n) earlier m rest e = refl
no_draw d (call.read w o) earlier m rest e = refl
no_draw d (call.write w o v) earlier m rest e = refl
no_draw d (call.drain k) earlier m rest e = absurd (some earlier e)
  where
    some : (xs : List Made) → [] ≡ xs ++ (m ∷ rest) → ⊥
    some [] z = let y : ◌≡◌ {A = ℕ} 0 (suc (length rest)) = ap length z in omega (arith, y)
    some (x ∷ xs) z = let y : ◌≡◌ {A = ℕ} 0 (suc (length (xs ++ (m ∷ rest)))) = ap length z in omega (arith, y)

-- ---- one event

-- the device d meets the call c, which makes the event m and offers it: before m it makes `earlier`, after m `rest`; and m finds 16 waiting
module _ (d : Device) (c : Call) (earlier : List Made) (m : Made) (rest : List Made) (made : (step d c).made ≡ earlier ++ (m ∷ rest)) (is_offered : m.offered ≡ true)
    (full : FindsNone (length (found_by d earlier).waiting)) (few : d.ring.drops ≤ 4294967295) where
  -- 'else dropped and counted up to 01's stop', of the ring that the call leaves.
  pub dropped_itself : (step d c).after.ring ≡ left_full d earlier rest
  unfolding step acted ring_run offers
  dropped_itself =
      let found-few : (found_by d earlier).drops ≤ 4294967295 = omega (arith, drops_run d.ring (offers earlier) few) in
      let acts = ap offers made ∙ offers_append earlier (m ∷ rest) in
      ap (λ os. (ring_run (ring_run d.ring (offers (step d c).made)).after os).after) (no_draw d c earlier m rest made)
      ∙ ap (λ os. (ring_run d.ring os).after) acts ∙ ap (λ (t : Drawn). t.after) (run_append d.ring (offers earlier) (offers (m ∷ rest)))
      ∙ full_stays (found_by d earlier) (m ∷ rest) (none_is_more (length (found_by d earlier).waiting) full) found-few
      ∙ (λ t. record { waiting = (found_by d earlier).waiting; drops = min ((found_by d earlier).drops + length (cond (is_offered t) (offer (as_event m) ∷ offers rest) (offers rest))) 4294967295 })

-- ---- of exported calls

-- From any history under way: the done call x, no load, makes the event m and offers it, and m finds 16 waiting. Then the image that x leaves has the ring that m found, and in its drop count m and
-- those offered after it, up to the stop.
pub else_dropped_of_calls : (h : Underway) → Faithful h → (x : Exported) (c : Call) → is_load h.left x ≡ false → done_call x ≡ c ∷ []
    → (earlier : List Made) (m : Made) (rest : List Made) → (step (in_image h) c).made ≡ earlier ++ (m ∷ rest) → m.offered ≡ true
    → FindsNone (length (found_by (in_image h) earlier).waiting)
    → (decode (left_by x).image).ring ≡ left_full (in_image h) earlier rest
unfolding carried_through NoLoads done_calls history
else_dropped_of_calls h f x c n is earlier m rest made off full =
    let t = test (is_done x) (λ t. t) (λ t. absurd (none t is)) in
    let left : (carried_on h x).left ≡ (left_by x).image = ap (λ (u : Underway). u.left) (handed h x f t n).carried in
    let holds = image_holds_history h f (x ∷ []) (n, tt) in
    let call_is : done_call x ++ [] ≡ c ∷ [] = append-nil (done_call x) ∙ is in
    let few : (in_image h).ring.drops ≤ 4294967295 = rw (image_holds_device h f) (history_well h.began h.calls f.began).drops in
    ap (λ i. (decode i).ring) (sym left) ∙ ap (λ (d : Device). d.ring) (holds ∙ (λ s. (history (sym (image_holds_device h f) s) (call_is s)).after))
    ∙ dropped_itself (in_image h) c earlier m rest made off full few
  where
    none : is_done x ≡ false → done_call x ≡ c ∷ [] → ⊥
    none t e = let z : ◌≡◌ {A = ℕ} 0 1 = ap length (sym (λ s. cond (t s) (call_of (asked_by x.asked)) []) ∙ e) in omega (arith, z)
