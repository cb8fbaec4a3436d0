-- The ring: an offer by the room that it finds, a drain, and runs of offers and drains joined. What waited and what was kept since is what was drained
-- since and what waits (fifo), and the count is of those dropped, up to the stop (drops-run).
use Rattle.basics.proofs.Prelude.{◌≡◌, refl, sym, ap, ◌∙◌, List, [], ◌∷◌, ◌++◌, append_assoc, append-nil, ℕ, ◌+◌, ◌<◌, ◌≤◌, min, arith, ltb, length, length-append, take-append-drop, lt-ltb, le-ltb, test}
use Rattle.rules.specs.Ring.{capacity, stop, Event, Ring, RingAct, Drawn, offer, draw, offered, drawn, ring_step, ring_run, kept_by, dropped_by, kept, dropped, lost_of}

-- an event that finds room waits behind the others
pub offered_room : (r : Ring) (e : Event) → length r.waiting < capacity → offered r e ≡ record { waiting = r.waiting ++ (e ∷ []); drops = r.drops }
unfolding offered
offered_room r e h = rw (lt-ltb (length r.waiting) capacity h)

-- an event that finds none is dropped and counted
pub offered_full : (r : Ring) (e : Event) → capacity ≤ length r.waiting → offered r e ≡ record { waiting = r.waiting; drops = min (r.drops + 1) stop }
unfolding offered
offered_full r e h = rw (le-ltb (length r.waiting) capacity h)

-- in 01's numbers: where 16 wait the count goes up by one, to 4,294,967,295 and not past it
pub counted_up : (r : Ring) (e : Event) → 16 ≤ length r.waiting → r.drops < 4294967295 → (offered r e).drops ≡ r.drops + 1
counted_up r e h k = ap (λ (s : Ring). s.drops) (offered_full r e h) ∙ omega arith

pub count_stops : (r : Ring) (e : Event) → r.drops ≤ 4294967295 → (offered r e).drops ≤ 4294967295
unfolding offered
count_stops r e h = test (ltb (length r.waiting) 16) (λ t. rw t h) (λ t. rw t (omega arith))

-- a drain takes the oldest: what it takes and what it leaves is what waited, in order
pub drawn_in_order : (r : Ring) (k : ℕ) → (drawn r k).drained ++ (drawn r k).after.waiting ≡ r.waiting
unfolding drawn
drawn_in_order r k = take-append-drop k r.waiting

-- a run of two parts is the second part's run after the first's
pub run_append : (r : Ring) (xs ys : List RingAct)
    → ring_run r (xs ++ ys) ≡ record { after = (ring_run (ring_run r xs).after ys).after; drained = (ring_run r xs).drained ++ (ring_run (ring_run r xs).after ys).drained }
unfolding ring_run
run_append r [] ys = refl
run_append r (a ∷ xs) ys =
    ap (λ (t : Drawn). record { after = t.after; drained = (ring_step r a).drained ++ t.drained }) (run_append (ring_step r a).after xs ys)
    ∙ ap (λ (es : List Event). record { after = (ring_run (ring_run (ring_step r a).after xs).after ys).after; drained = es })
    (sym (append_assoc (ring_step r a).drained (ring_run (ring_step r a).after xs).drained (ring_run (ring_run (ring_step r a).after xs).after ys).drained))

-- a run of two parts drops what the first drops, and then what the second does
pub dropped_append : (r : Ring) (xs ys : List RingAct) → dropped r (xs ++ ys) ≡ dropped r xs ++ dropped (ring_run r xs).after ys
unfolding ring_run dropped
dropped_append r [] ys = refl
dropped_append r (a ∷ xs) ys =
    let s = (ring_step r a).after in
    ap (λ es. dropped_by r a ++ es) (dropped_append s xs ys) ∙ sym (append_assoc (dropped_by r a) (dropped s xs) (dropped (ring_run s xs).after ys))

pub lost_of_append : (r : Ring) (xs ys : List RingAct) → lost_of r (xs ++ ys) ≡ lost_of r xs + lost_of (ring_run r xs).after ys
lost_of_append r xs ys = ap length (dropped_append r xs ys) ∙ length-append (dropped r xs) (dropped (ring_run r xs).after ys)

-- ---- what is kept, and what is dropped

fifo_step : (r : Ring) (a : RingAct) → r.waiting ++ kept_by r a ≡ (ring_step r a).drained ++ (ring_step r a).after.waiting
unfolding ring_step offered drawn
fifo_step r (offer e) = test (ltb (length r.waiting) 16) (λ t. rw t) (λ t. rw t (append-nil r.waiting))
fifo_step r (draw k) = append-nil r.waiting ∙ sym (drawn_in_order r k)

pub fifo : (r : Ring) (xs : List RingAct) → r.waiting ++ kept r xs ≡ (ring_run r xs).drained ++ (ring_run r xs).after.waiting
unfolding ring_run kept
fifo r [] = append-nil r.waiting
fifo r (a ∷ xs) =
    let s = ring_step r a in
    let t = ring_run s.after xs in
    sym (append_assoc r.waiting (kept_by r a) (kept s.after xs)) ∙ ap (λ es. es ++ kept s.after xs) (fifo_step r a)
    ∙ append_assoc s.drained s.after.waiting (kept s.after xs) ∙ ap (λ es. s.drained ++ es) (fifo s.after xs)
    ∙ sym (append_assoc s.drained t.drained t.after.waiting)

drops_step : (r : Ring) (a : RingAct) → r.drops ≤ stop → (ring_step r a).after.drops ≡ min (r.drops + length (dropped_by r a)) stop
unfolding ring_step offered drawn
drops_step r (offer e) h = test (ltb (length r.waiting) 16) (λ t. rw t (omega arith)) (λ t. rw t)
drops_step r (draw k) h = omega arith

pub drops_run : (r : Ring) (xs : List RingAct) → r.drops ≤ stop → (ring_run r xs).after.drops ≡ min (r.drops + length (dropped r xs)) stop
unfolding ring_run dropped
drops_run r [] h = omega arith
drops_run r (a ∷ xs) h =
    let s = (ring_step r a).after in
    let e = drops_step r a h in
    omega (arith, e, drops_run s xs (omega (arith, e)), length-append (dropped_by r a) (dropped s xs))
