-- The ring over histories: a history does to its ring what its calls offer and draw (history-ring); each event that is made was returned, drained, waits
-- or was dropped (all-accounted).
use Rattle.basics.proofs.Prelude.{◌≡◌, refl, sym, ap, ◌∙◌, Bool, List, [], ◌∷◌, ◌++◌, append_assoc, ◌+◌, ◌<◌, arith, ltb, length, get_or, List·getD-append, get_or-append_seam, test}
use Rattle.rules.specs.{Lines.Made, Ring.Event, Ring.Ring, Ring.RingAct, Ring.Drawn, Ring.offer, Ring.draw, Ring.offered, Ring.ring_step, Ring.ring_run, Ring.kept, Ring.dropped}
use Rattle.rules.specs.{Device.Device, Device.Call, Device.offers, Device.draws, Device.acted, Device.step, History.history, Account.tally}
use Rattle.rules.proofs.laws.{Rings.offered_room, Rings.run_append, Rings.fifo, Counts.tally_append}
use Rattle.histories.specs.Demands.{as_event, found_by, ring_acts, returned_in}
use Rattle.rules.specs.Device as call

-- ---- a run of offers and drains

-- an offer drains nothing
pub offers_drain : (r : Ring) (ms : List Made) → (ring_run r (offers ms)).drained ≡ []
unfolding ring_run ring_step offers
offers_drain r [] = refl
offers_drain r (m ∷ ms) = test m.offered (λ e. rw e (offers_drain (offered r (as_event m)) ms)) (λ e. rw e (offers_drain r ms))

-- an event that finds room: as many are drained before it as wait
pub kept_place : (r : Ring) (e : Event) (xs : List RingAct) (x : Event) → length r.waiting < 16
    → length r.waiting < length (ring_run (offered r e) xs).drained → get_or (ring_run (offered r e) xs).drained (length r.waiting) x ≡ e
kept_place r e xs x h k =
    let t = ring_run (offered r e) xs in
    let later = kept (offered r e) xs in
    let all = sym (fifo (offered r e) xs) ∙ ap (λ s. s.waiting ++ later) (offered_room r e h) ∙ append_assoc r.waiting (e ∷ []) later in
    sym (List·getD-append t.drained t.after.waiting x (length r.waiting) k) ∙ ap (λ es. get_or es (length r.waiting) x) all
    ∙ get_or-append_seam r.waiting e later x

-- ---- the run of a history

-- a call offers, and then draws
step_ring : (d : Device) (c : Call)
    → record { after = (step d c).after.ring; drained = (step d c).drained } ≡ ring_run d.ring (offers (step d c).made ++ draws c)
unfolding step acted
step_ring d c =
    let ms = (step d c).made in
    let t = ring_run (found_by d ms) (draws c) in
    sym (run_append d.ring (offers ms) (draws c) ∙ ap (λ es. record { after = t.after; drained = es ++ t.drained }) (offers_drain d.ring ms))

pub history_ring : (d : Device) (cs : List Call)
    → record { after = (history d cs).after.ring; drained = (history d cs).drained } ≡ ring_run d.ring (ring_acts d cs)
unfolding history ring_acts ring_run
history_ring d [] = refl
history_ring d (c ∷ cs) =
    let os = offers (step d c).made in
    let e = (step d c).after in
    let rest = ring_acts e cs in
    ap (λ (t : Drawn). record { after = t.after; drained = (step d c).drained ++ t.drained }) (history_ring e cs)
    ∙ ap (λ (t : Drawn). record { after = (ring_run t.after rest).after; drained = t.drained ++ (ring_run t.after rest).drained }) (step_ring d c)
    ∙ sym (run_append d.ring (os ++ draws c) rest) ∙ ap (ring_run d.ring) (append_assoc os (draws c) rest)

-- ---- where the events that are made end up

-- the events that are offered
abbrev offered_in : List RingAct → List Event
offered_in [] = []
offered_in (offer e ∷ xs) = e ∷ offered_in xs
offered_in (draw k ∷ xs) = offered_in xs

offered_append : (xs ys : List RingAct) → offered_in (xs ++ ys) ≡ offered_in xs ++ offered_in ys
offered_append [] ys = refl
offered_append (offer e ∷ xs) ys = ap (λ es. e ∷ es) (offered_append xs ys)
offered_append (draw k ∷ xs) ys = offered_append xs ys

offered_draws : (c : Call) → offered_in (draws c) ≡ []
offered_draws (call.level n b) = refl
offered_draws (call.poll n) = refl
offered_draws (call.read w o) = refl
offered_draws (call.write w o v) = refl
offered_draws (call.drain k) = refl

pub returned_append : (xs ys : List Made) → returned_in (xs ++ ys) ≡ returned_in xs ++ returned_in ys
unfolding returned_in
returned_append [] ys = refl
returned_append (m ∷ xs) ys =
    test m.offered (λ t. rw t (returned_append xs ys)) (λ t. rw t (ap (λ es. as_event m ∷ es) (returned_append xs ys)))

module _ (q : Event → Bool) where
  kept_or_dropped : (r : Ring) (xs : List RingAct) → tally q (offered_in xs) ≡ tally q (kept r xs) + tally q (dropped r xs)
  unfolding tally kept dropped
  kept_or_dropped r [] = refl
  kept_or_dropped r (offer e ∷ xs) =
      let rest = kept_or_dropped (ring_step r (offer e)).after xs in
      test (ltb (length r.waiting) 16) (λ t. rw t (omega arith)) (λ t. rw t (omega arith))
  kept_or_dropped r (draw k ∷ xs) = kept_or_dropped (ring_step r (draw k)).after xs

  returned_or_offered : (ms : List Made) → tally (λ m. q (as_event m)) ms ≡ tally q (returned_in ms) + tally q (offered_in (offers ms))
  unfolding tally returned_in offers
  returned_or_offered [] = refl
  returned_or_offered (m ∷ ms) = let rest = returned_or_offered ms in test m.offered (λ t. rw t (omega arith)) (λ t. rw t (omega arith))

  history_offers : (d : Device) (cs : List Call)
      → tally (λ m. q (as_event m)) (history d cs).made ≡ tally q (returned_in (history d cs).made) + tally q (offered_in (ring_acts d cs))
  unfolding history ring_acts offers
  history_offers d [] = returned_or_offered []
  history_offers d (c ∷ cs) =
      let s = step d c in
      let rest = history s.after cs in
      let later = ring_acts s.after cs in
      let os = offers s.made in
      let drawn-off = offered_append (draws c) later ∙ ap (λ es. es ++ offered_in later) (offered_draws c) in
      omega (
        arith,
        tally_append (λ (m : Made). q (as_event m)) s.made rest.made,
        ap (tally q) (returned_append s.made rest.made),
        tally_append q (returned_in s.made) (returned_in rest.made),
        ap (tally q) (offered_append os (draws c ++ later) ∙ ap (λ es. offered_in os ++ es) drawn-off),
        tally_append q (offered_in os) (offered_in later),
        returned_or_offered s.made,
        history_offers s.after cs,
      )

  -- every event made was returned, drained, waits or was dropped; what waited at first was drained or waits
  pub all_accounted : (d : Device) (cs : List Call) (lost : List Event) → lost ≡ dropped d.ring (ring_acts d cs)
      → tally (λ m. q (as_event m)) (history d cs).made + tally q d.ring.waiting
      ≡ tally q (returned_in (history d cs).made) + tally q (history d cs).drained + tally q (history d cs).after.ring.waiting + tally q lost
  all_accounted d cs lost is =
      let s = history d cs in
      let xs = ring_acts d cs in
      let all = fifo d.ring xs ∙ ap (λ (t : Drawn). t.drained ++ t.after.waiting) (sym (history_ring d cs)) in
      omega (
        arith,
        history_offers d cs,
        kept_or_dropped d.ring xs,
        ap (tally q) is,
        tally_append q d.ring.waiting (kept d.ring xs),
        ap (tally q) all,
        tally_append q s.drained s.after.ring.waiting,
      )
