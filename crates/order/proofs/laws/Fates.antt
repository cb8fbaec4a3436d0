-- Fates are the ring's own: the events that are kept, dropped and returned by their fates are those that the rules and the histories call so.
use Rattle.basics.proofs.Prelude.{◌≡◌, refl, sym, ap, ap₂, ◌∙◌, List, [], ◌∷◌, ◌++◌, map, map-append, append_assoc, ℕ, suc, ◌+◌, ltb, length, test}
use Rattle.rules.specs.{Lines.Made, Ring.capacity, Ring.Event, Ring.Ring, Ring.RingAct, Ring.ring_step, Ring.ring_run, Ring.kept_by, Ring.kept, Ring.dropped}
use Rattle.rules.specs.{Device.Device, Device.Call, Device.level, Device.poll, Device.read, Device.write, Device.drain, Device.offers, Device.draws, Device.acted, Device.step, History.history}
use Rattle.rules.proofs.laws.Rings.{dropped_append}
use Rattle.histories.{specs.Demands.as_event, specs.Demands.ring_acts, specs.Demands.returned_in, proofs.laws.Draining.returned_append}
use Rattle.order.specs.Fates.{Fate, is_returned, is_kept, is_dropped, Placed, ring_past, placed, placed_from, with_fate}
use Rattle.order.proofs.laws.Positions.{fate_append}

-- the events of a fate
abbrev pub events_with : Fate → List Placed → List Event
events_with f xs = map (λ x. as_event x.event) (with_fate f xs)

with_append : (f : Fate) (xs ys : List Placed) → events_with f (xs ++ ys) ≡ events_with f xs ++ events_with f ys
with_append f xs ys = ap (map (λ (x : Placed). as_event x.event)) (fate_append f xs ys) ∙ map-append (λ (x : Placed). as_event x.event) (with_fate f xs) (with_fate f ys)

-- ---- events in the order of making

pub returned_ones : (p : ℕ) (r : Ring) (ms : List Made) → events_with is_returned (placed p r ms) ≡ returned_in ms
unfolding placed returned_in
returned_ones p r [] = refl
returned_ones p r (m ∷ ms) =
    let rest = returned_ones (suc p) (ring_past r m) ms in
    test m.offered
    (λ t. test (ltb (length r.waiting) capacity) (λ u. rw (t, u) (rw t at rest)) (λ u. rw (t, u) (rw t at rest)))
    (λ t. rw t (ap (λ l. as_event m ∷ l) (rw t at rest)))

kept_ones : (p : ℕ) (r : Ring) (ms : List Made) → events_with is_kept (placed p r ms) ≡ kept r (offers ms)
unfolding placed offers kept ring_run
kept_ones p r [] = refl
kept_ones p r (m ∷ ms) =
    let rest = kept_ones (suc p) (ring_past r m) ms in
    test m.offered
    (λ t. test (ltb (length r.waiting) capacity) (λ u. rw (t, u) (ap (λ l. as_event m ∷ l) (rw t at rest))) (λ u. rw (t, u) (rw t at rest)))
    (λ t. rw t (rw t at rest))

dropped_ones : (p : ℕ) (r : Ring) (ms : List Made) → events_with is_dropped (placed p r ms) ≡ dropped r (offers ms)
unfolding placed offers dropped ring_run
dropped_ones p r [] = refl
dropped_ones p r (m ∷ ms) =
    let rest = dropped_ones (suc p) (ring_past r m) ms in
    test m.offered
    (λ t. test (ltb (length r.waiting) capacity) (λ u. rw (t, u) (rw t at rest)) (λ u. rw (t, u) (ap (λ l. as_event m ∷ l) (rw t at rest))))
    (λ t. rw t (rw t at rest))

-- ---- calls

kept_append : (r : Ring) (xs ys : List RingAct) → kept r (xs ++ ys) ≡ kept r xs ++ kept (ring_run r xs).after ys
unfolding ring_run kept
kept_append r [] ys = refl
kept_append r (a ∷ xs) ys =
    let s = (ring_step r a).after in
    ap (λ es. kept_by r a ++ es) (kept_append s xs ys) ∙ sym (append_assoc (kept_by r a) (kept s xs) (kept (ring_run s xs).after ys))

-- a drain keeps and drops none
kept_draws : (r : Ring) (c : Call) (xs : List RingAct) → kept r (draws c ++ xs) ≡ kept (ring_run r (draws c)).after xs
unfolding ring_run kept
kept_draws r (level n b) xs = refl
kept_draws r (poll n) xs = refl
kept_draws r (read w o) xs = refl
kept_draws r (write w o v) xs = refl
kept_draws r (drain k) xs = refl

dropped_draws : (r : Ring) (c : Call) (xs : List RingAct) → dropped r (draws c ++ xs) ≡ dropped (ring_run r (draws c)).after xs
unfolding ring_run dropped
dropped_draws r (level n b) xs = refl
dropped_draws r (poll n) xs = refl
dropped_draws r (read w o) xs = refl
dropped_draws r (write w o v) xs = refl
dropped_draws r (drain k) xs = refl

-- the ring after a call
step_ring : (d : Device) (c : Call) → (ring_run (ring_run d.ring (offers (step d c).made)).after (draws c)).after ≡ (step d c).after.ring
unfolding step acted
step_ring d c = refl

pub all_returned : (p : ℕ) (d : Device) (cs : List Call) → events_with is_returned (placed_from p d cs) ≡ returned_in (history d cs).made
unfolding placed_from history returned_in
all_returned p d [] = refl
all_returned p d (c ∷ cs) =
    let one = step d c in
    let q = p + length one.made in
    with_append is_returned (placed p d.ring one.made) (placed_from q one.after cs)
    ∙ ap₂ ◌++◌ (returned_ones p d.ring one.made) (all_returned q one.after cs) ∙ sym (returned_append one.made (history one.after cs).made)

pub all_kept : (p : ℕ) (d : Device) (cs : List Call) → events_with is_kept (placed_from p d cs) ≡ kept d.ring (ring_acts d cs)
unfolding placed_from ring_acts kept
all_kept p d [] = refl
all_kept p d (c ∷ cs) =
    let one = step d c in
    let q = p + length one.made in
    let os = offers one.made in
    let rest = ring_acts one.after cs in
    let r = (ring_run d.ring os).after in
    with_append is_kept (placed p d.ring one.made) (placed_from q one.after cs)
    ∙ ap₂ ◌++◌ (kept_ones p d.ring one.made) (all_kept q one.after cs ∙ ap (λ u. kept u rest) (sym (step_ring d c)) ∙ sym (kept_draws r c rest))
    ∙ sym (kept_append d.ring os (draws c ++ rest))

pub all_dropped : (p : ℕ) (d : Device) (cs : List Call) → events_with is_dropped (placed_from p d cs) ≡ dropped d.ring (ring_acts d cs)
unfolding placed_from ring_acts dropped
all_dropped p d [] = refl
all_dropped p d (c ∷ cs) =
    let one = step d c in
    let q = p + length one.made in
    let os = offers one.made in
    let rest = ring_acts one.after cs in
    let r = (ring_run d.ring os).after in
    with_append is_dropped (placed p d.ring one.made) (placed_from q one.after cs)
    ∙ ap₂ ◌++◌ (dropped_ones p d.ring one.made) (all_dropped q one.after cs ∙ ap (λ u. dropped u rest) (sym (step_ring d c)) ∙ sym (dropped_draws r c rest))
    ∙ sym (dropped_append d.ring os (draws c ++ rest))
