-- Numbers beside a ring: the next one is that of the next position, and the waiting events have the numbers of theirs, whatever is made and drained.
use Rattle.basics.proofs.Prelude.{◌≡◌, refl, sym, ap, subst, ◌∙◌, false, List, [], ◌∷◌, ◌++◌, append_assoc, append-nil, ℕ, zero, suc, ◌+◌, arith, ltb, length, take, drop, test}
use Rattle.rules.specs.{Lines.Made, Ring.capacity, Ring.Event, Ring.Ring, Ring.offered, Ring.drawn, Ring.ring_step, Ring.ring_run}
use Rattle.rules.specs.Device.{Device, Call, level, poll, read, write, drain, offers, draws, acts_of, acted, step}
use Rattle.rules.specs.{Core.turns, Numbering.Numbers, Numbering.takes, Numbering.takes_all, Numbering.with_numbers, Numbering.numbers_after, Numbering.drained_with}
use Rattle.rules.proofs.laws.Numbered.{Fits, takes_returned, takes_offered, drawn_fit, event_of}
use Rattle.order.specs.{Fates.is_kept, Fates.ring_past, Fates.placed, Fates.with_fate, Numbered.number_at, Numbered.all_from, Numbered.waiting_with}
use Rattle.order.proofs.laws.Positions.{next_number, past_then, from_append}

-- ---- events with numbers

pub with_snoc : (es : List Event) (ns : List ℕ) (e : Event) (n : ℕ) → length ns ≡ length es
    → with_numbers (es ++ (e ∷ [])) (ns ++ (n ∷ [])) ≡ with_numbers es ns ++ (record { event = e; number = n } ∷ [])
with_snoc [] [] e n h = refl
with_snoc [] (m ∷ ns) e n h = absurd (omega arith)
with_snoc (f ∷ es) [] e n h = absurd (omega arith)
with_snoc (f ∷ es) (m ∷ ns) e n h = ap (λ l. record { event = f; number = m } ∷ l) (with_snoc es ns e n (omega arith))

with_none : (es : List Event) → with_numbers es [] ≡ []
with_none [] = refl
with_none (e ∷ es) = refl

-- the first k, and the others
pub with_parts : (k : ℕ) (es : List Event) (ns : List ℕ) → with_numbers (take k es) (take k ns) ++ with_numbers (drop k es) (drop k ns) ≡ with_numbers es ns
with_parts zero es ns = refl
with_parts (suc k) [] ns = refl
with_parts (suc k) (e ∷ es) [] = with_none (drop k es)
with_parts (suc k) (e ∷ es) (n ∷ ns) = ap (λ l. record { event = e; number = n } ∷ l) (with_parts k es ns)

-- ---- standing

-- the history began with the number `start`, p events were made since, and they left the ring r and the numbers s
pub record Stands (start p : ℕ) (r : Ring) (s : Numbers) : Type 0 where
  pub next : s.next ≡ number_at start p
  pub fits : Fits s (length r.waiting)

module _ (start : ℕ) where
  -- one event more
  pub stands_past : (p : ℕ) (r : Ring) (s : Numbers) (m : Made) → Stands start p r s → Stands start (suc p) (ring_past r m) (takes s m.offered)
  unfolding offers ring_run ring_step
  stands_past p r s m h = record {
    next = ap (λ n. (takes (record { next = n; waiting = [] }) false).next) h.next ∙ next_number start p;
    fits = test m.offered (λ t. rw t (takes_offered r (event_of m) h.fits)) (λ t. rw t (takes_returned h.fits));
  }

  -- it waits with the number of its position, if it is kept
  past_waits : (p : ℕ) (r : Ring) (s : Numbers) (m : Made) → Stands start p r s
      → with_numbers (ring_past r m).waiting (takes s m.offered).waiting
      ≡ with_numbers r.waiting s.waiting ++ all_from start (with_fate is_kept (placed p r (m ∷ [])))
  unfolding offers ring_run ring_step offered placed
  past_waits p r s m h =
      let same = h.fits.waiting in
      test m.offered
      (λ t.
      test (ltb (length r.waiting) capacity)
      (λ u. rw (t, same, u) (with_snoc r.waiting s.waiting (event_of m) s.next same ∙ ap (λ n. with_numbers r.waiting s.waiting ++ (record { event = event_of m; number = n } ∷ [])) h.next))
      (λ u. rw (t, same, u) (sym (append-nil (with_numbers r.waiting s.waiting)))))
      (λ t. rw t (sym (append-nil (with_numbers r.waiting s.waiting))))

  -- events more, in the order of making
  stands_none : (p : ℕ) (r : Ring) (s : Numbers) → Stands start p r s → Stands start (p + 0) (ring_run r (offers [])).after s
  unfolding offers ring_run
  stands_none p r s h = let same : p ≡ p + 0 = omega arith in subst (λ q. Stands start q r s) same h

  pub stands_all : (p : ℕ) (r : Ring) (s : Numbers) (ms : List Made) → Stands start p r s → Stands start (p + length ms) (ring_run r (offers ms)).after (takes_all s ms)
  unfolding takes_all
  stands_all p r s [] h = stands_none p r s h
  stands_all p r s (m ∷ ms) h =
      let same : suc p + length ms ≡ p + suc (length ms) = omega arith in
      let t = takes_all (takes s m.offered) ms in
      subst (λ q. Stands start q (ring_run r (offers (m ∷ ms))).after t) same
      (subst (λ u. Stands start (suc p + length ms) u t) (past_then r m ms) (stands_all (suc p) (ring_past r m) (takes s m.offered) ms (stands_past p r s m h)))

  wait_none : (p : ℕ) (r : Ring) (s : Numbers)
      → with_numbers (ring_run r (offers [])).after.waiting s.waiting ≡ with_numbers r.waiting s.waiting ++ all_from start (with_fate is_kept (placed p r []))
  unfolding offers ring_run placed
  wait_none p r s = sym (append-nil (with_numbers r.waiting s.waiting))

  placed_first : (p : ℕ) (r : Ring) (m : Made) (ms : List Made) → placed p r (m ∷ []) ++ placed (suc p) (ring_past r m) ms ≡ placed p r (m ∷ ms)
  unfolding placed
  placed_first p r m ms = refl

  pub all_wait : (p : ℕ) (r : Ring) (s : Numbers) (ms : List Made) → Stands start p r s
      → with_numbers (ring_run r (offers ms)).after.waiting (takes_all s ms).waiting
      ≡ with_numbers r.waiting s.waiting ++ all_from start (with_fate is_kept (placed p r ms))
  unfolding takes_all
  all_wait p r s [] h = wait_none p r s
  all_wait p r s (m ∷ ms) h =
      let q = ring_past r m in
      let t = takes s m.offered in
      let one = all_from start (with_fate is_kept (placed p r (m ∷ []))) in
      let two = all_from start (with_fate is_kept (placed (suc p) q ms)) in
      ap (λ (u : Ring). with_numbers u.waiting (takes_all t ms).waiting) (sym (past_then r m ms))
      ∙ all_wait (suc p) q t ms (stands_past p r s m h) ∙ ap (λ l. l ++ two) (past_waits p r s m h)
      ∙ append_assoc (with_numbers r.waiting s.waiting) one two
      ∙ ap (λ l. with_numbers r.waiting s.waiting ++ l) (sym (from_append start is_kept (placed p r (m ∷ [])) (placed (suc p) q ms)) ∙ ap (λ l. all_from start (with_fate is_kept l)) (placed_first p r m ms))

  -- ---- a call

  -- a call that is no drain leaves the ring that its events leave
  module _ (p : ℕ) (d : Device) (s : Numbers) (h : Stands start p d.ring s) where
    abbrev Goes : Call → Type 0
    Goes c =
        ((step d c).after.ring ≡ (ring_run d.ring (offers (step d c).made)).after) × (numbers_after d s c ≡ takes_all s (step d c).made) × (drained_with d s c ≡ [])

    goes_stands : (c : Call) → Goes c → Stands start (p + length (step d c).made) (step d c).after.ring (numbers_after d s c)
    goes_stands c g = rw (g.0, g.1) (stands_all p d.ring s (step d c).made h)

    goes_waits : (c : Call) → Goes c → drained_with d s c ++ waiting_with (step d c).after (numbers_after d s c)
        ≡ waiting_with d s ++ all_from start (with_fate is_kept (placed p d.ring (step d c).made))
    goes_waits c g = rw (g.0, g.1, g.2) (all_wait p d.ring s (step d c).made h)

    -- a drain makes none, and takes as many numbers away as events
    drain_stands : (k : ℕ) → Stands start (p + length (step d (drain k)).made) (step d (drain k)).after.ring (numbers_after d s (drain k))
    unfolding step acted acts_of turns offers ring_run ring_step numbers_after takes_all
    drain_stands k =
        let same : p ≡ p + 0 = omega arith in
        subst (λ q. Stands start q (drawn d.ring k).after (record { next = s.next; waiting = drop k s.waiting })) same
        (record { next = h.next; fits = drawn_fit d.ring k h.fits })

    drain_waits : (k : ℕ) → drained_with d s (drain k) ++ waiting_with (step d (drain k)).after (numbers_after d s (drain k))
        ≡ waiting_with d s ++ all_from start (with_fate is_kept (placed p d.ring (step d (drain k)).made))
    unfolding step acted acts_of turns offers ring_run ring_step drawn numbers_after drained_with takes_all placed
    drain_waits k =
        rw (append-nil (take k d.ring.waiting), append-nil (waiting_with d s)) (with_parts k d.ring.waiting s.waiting)

    goes : (c : Call) → draws c ≡ [] → Goes c
    unfolding step acted ring_run numbers_after drained_with
    goes (level n b) e = (refl, refl, refl)
    goes (poll n) e = (refl, refl, refl)
    goes (read w o) e = (refl, refl, refl)
    goes (write w o v) e = (refl, refl, refl)
    goes (drain k) e = absurd (let z : ◌≡◌ {A = ℕ} 0 1 = cc in omega arith)

    pub call_stands : (c : Call) → Stands start (p + length (step d c).made) (step d c).after.ring (numbers_after d s c)
    call_stands (level n b) = goes_stands (level n b) (goes (level n b) refl)
    call_stands (poll n) = goes_stands (poll n) (goes (poll n) refl)
    call_stands (read w o) = goes_stands (read w o) (goes (read w o) refl)
    call_stands (write w o v) = goes_stands (write w o v) (goes (write w o v) refl)
    call_stands (drain k) = drain_stands k

    pub call_waits : (c : Call) → drained_with d s c ++ waiting_with (step d c).after (numbers_after d s c)
        ≡ waiting_with d s ++ all_from start (with_fate is_kept (placed p d.ring (step d c).made))
    call_waits (level n b) = goes_waits (level n b) (goes (level n b) refl)
    call_waits (poll n) = goes_waits (poll n) (goes (poll n) refl)
    call_waits (read w o) = goes_waits (read w o) (goes (read w o) refl)
    call_waits (write w o v) = goes_waits (write w o v) (goes (write w o v) refl)
    call_waits (drain k) = drain_waits k
