-- What an act did to the wait of one input, by its marks: nothing, its assert, or it was taken back. And acts one after another.
use Rattle.basics.proofs.Prelude.{and-true, and-false, ◌≡◌, refl, sym, ap, subst, ◌∙◌, Bool, true, false, cond, not, ◌&&◌, ◌||◌, true≢false, List, [], ◌∷◌, ◌++◌, map, map-append, ℕ, zero, suc, ◌+◌, ◌<◌, ◌≤◌, arith, eqb, ltb, eqb-true, eqb-false, eq-eqb, ne_eqb, lt-ltb, ltb-true, ltb-false, on, from, inputs, only, put, without, with_half, test, on_put, on_without, first_has}
use Rattle.histories.{proofs.laws.Latches.latched_of, specs.Demands.Each, specs.Demands.done, specs.Demands.also}
use Rattle.rules.specs.Lines.{Lines, Made, event, with_mask, with_irr, pending_in, served_in, serve, enter, leave, newly_unmasked, newly_masked, polled, raised, lowered, cleared, masked}
use Rattle.rules.specs.Ring.{Ring}
use Rattle.rules.specs.Core.{Act, move, set_isr, store, set_vector, poll, raise, lower, clear, set_mask, moved, line_turn, turn, turns}
use Rattle.rules.{specs.Account.tally, specs.Device.Device, specs.Device.acted, proofs.laws.Counts.tally_append, proofs.laws.Steps.acted_one}
use Rattle.rules.proofs.laws.Acts.{acted_none, acted_append}
use Rattle.plain.{specs.Events.Note, specs.Sequence.ring_with, specs.Sequence.notes_of, proofs.laws.Queues.ring_after, proofs.laws.Queues.notes_append}
use Rattle.sheets.specs.Waits.{assert_of}
use Rattle.passes.specs.tallies.Marks.{Mark, began, taken_back, happened, idle_in, besides, act_marks, marks_of}
use Rattle.passes.specs.Slots.{Slot, settle, take_back, start_at, slot_after, slot_all, notes_in}
use Rattle.passes.proofs.laws.Marking.{eqb_sym}
use Rattle.passes.specs.tallies.Marks as marks

-- ---- lists of marks

pub slot_append : (n : ℕ) (s : Slot) (ms ns : List Mark) → slot_all n s (ms ++ ns) ≡ slot_all n (slot_all n s ms) ns
unfolding slot_all
slot_append n s [] ns = refl
slot_append n s (m ∷ ms) ns = slot_append n (slot_after n s m) ms ns

pub notes_in_append : (ms ns : List Mark) → notes_in (ms ++ ns) ≡ notes_in ms ++ notes_in ns
notes_in_append [] ns = refl
notes_in_append (marks.raised m ∷ ms) ns = notes_in_append ms ns
notes_in_append (marks.lowered m ∷ ms) ns = notes_in_append ms ns
notes_in_append (began m k ∷ ms) ns = notes_in_append ms ns
notes_in_append (taken_back m ∷ ms) ns = notes_in_append ms ns
notes_in_append (happened x ∷ ms) ns = ap (λ xs. x ∷ xs) (notes_in_append ms ns)

pub notes_in_events : (xs : List Note) → notes_in (map happened xs) ≡ xs
notes_in_events [] = refl
notes_in_events (x ∷ xs) = ap (λ ys. x ∷ ys) (notes_in_events xs)

notes_in_back : (ns : List ℕ) → notes_in (map taken_back ns) ≡ []
notes_in_back [] = refl
notes_in_back (n ∷ ns) = notes_in_back ns

notes_in_besides : (k : ℕ) (l : Lines) (a : Act) → notes_in (besides k l a) ≡ []
notes_in_besides k l (move (poll m)) = refl
notes_in_besides k l (move (raise m)) = test (idle_in l m) (λ t. rw t) (λ t. rw t)
notes_in_besides k l (move (lower m)) = refl
notes_in_besides k l (move (clear b)) = notes_in_back (inputs (on b))
notes_in_besides k l (move (set_mask h v)) = refl
notes_in_besides k l (set_isr h v) = refl
notes_in_besides k l (store x) = refl
notes_in_besides k l (set_vector m v) = refl

-- the events among the marks of acts are those that the acts make
pub notes_of_act : (k : ℕ) (d : Device) (a : Act) → notes_in (act_marks k d a) ≡ notes_of k d.ring (turn d.core a).made
notes_of_act k d a =
    notes_in_append (besides k d.core.lines a) (map happened (notes_of k d.ring (turn d.core a).made))
    ∙ (λ t. notes_in_besides k d.core.lines a t ++ notes_in_events (notes_of k d.ring (turn d.core a).made) t)

pub notes_of_acts : (k : ℕ) (d : Device) (xs : List Act) → notes_in (marks_of k d xs) ≡ notes_of k d.ring (turns d.core xs).made
unfolding marks_of turns notes_of
notes_of_acts k d [] = refl
notes_of_acts k d (a ∷ xs) =
    let made = (turn d.core a).made in
    let one = acted_one d a in
    notes_in_append (act_marks k d a) (marks_of k (acted d (a ∷ [])) xs)
    ∙ (λ t. notes_of_act k d a t ++ notes_of_acts k (acted d (a ∷ [])) xs t)
    ∙ ap (λ (e : Device). notes_of k d.ring made ++ notes_of k e.ring (turns e.core xs).made) one
    ∙ sym (notes_append k d.ring made (turns (turn d.core a).after xs).made)

-- ---- one input

module _ (n : ℕ) (below : n < 64) (k : ℕ) where
  -- what marks did to its wait, from lines to lines
  pub data Did (l : Lines) (ms : List Mark) (m : Lines) : Type 0 where
    nothing : ((s : Slot) → slot_all n s ms ≡ s) → tally (assert_of n) (notes_in ms) ≡ 0 → on m.irr n ≡ on l.irr n → Did l ms m
    asserted : ((s : Slot) → slot_all n s ms ≡ settle k s) → 0 < tally (assert_of n) (notes_in ms) → on l.irr n ≡ true → on m.irr n ≡ true → Did l ms m
    back : ((s : Slot) → slot_all n s ms ≡ take_back s) → tally (assert_of n) (notes_in ms) ≡ 0 → on m.irr n ≡ false → Did l ms m

  -- marks that do nothing to it, before or after others
  pub record Idle (ms : List Mark) : Type 0 where
    pub slots : (s : Slot) → slot_all n s ms ≡ s
    pub silent : tally (assert_of n) (notes_in ms) ≡ 0

  pub idle_none : Idle []
  unfolding slot_all tally
  idle_none = record { slots = λ s. refl; silent = refl }

  tally_both : (ms ns : List Mark) → tally (assert_of n) (notes_in (ms ++ ns)) ≡ tally (assert_of n) (notes_in ms) + tally (assert_of n) (notes_in ns)
  tally_both ms ns = ap (tally (assert_of n)) (notes_in_append ms ns) ∙ tally_append (assert_of n) (notes_in ms) (notes_in ns)

  did_before : {l m : Lines} (is ms : List Mark) → Idle is → Did l ms m → Did l (is ++ ms) m
  did_before is ms i (nothing s t e) = nothing (λ z. slot_append n z is ms ∙ ap (λ y. slot_all n y ms) (i.slots z) ∙ s z) (omega (arith, tally_both is ms, i.silent, t)) e
  did_before is ms i (asserted s t e f) = asserted (λ z. slot_append n z is ms ∙ ap (λ y. slot_all n y ms) (i.slots z) ∙ s z) (omega (arith, tally_both is ms, i.silent, t)) e f
  did_before is ms i (back s t e) = back (λ z. slot_append n z is ms ∙ ap (λ y. slot_all n y ms) (i.slots z) ∙ s z) (omega (arith, tally_both is ms, i.silent, t)) e

  did_after : {l m o : Lines} (ms is : List Mark) → Did l ms m → Idle is → o.irr ≡ m.irr → Did l (ms ++ is) o
  did_after ms is (nothing s t e) i x = nothing (λ z. slot_append n z ms is ∙ i.slots _ ∙ s z) (omega (arith, tally_both ms is, i.silent, t)) (ap (λ y. on y n) x ∙ e)
  did_after ms is (asserted s t e f) i x = asserted (λ z. slot_append n z ms is ∙ i.slots _ ∙ s z) (omega (arith, tally_both ms is, i.silent, t)) e (ap (λ y. on y n) x ∙ f)
  did_after ms is (back s t e) i x = back (λ z. slot_append n z ms is ∙ i.slots _ ∙ s z) (omega (arith, tally_both ms is, i.silent, t)) (ap (λ y. on y n) x ∙ e)

  did_as : {l m : Lines} {ms ns : List Mark} → ms ≡ ns → Did l ms m → Did l ns m
  did_as {l} {m} e x = subst (λ (y : List Mark). Did l y m) e x

  -- ---- what enters and what leaves

  events : Ring → List Made → List Mark
  events r ms = map happened (notes_of k r ms)

  deasserts_idle : (vs : List ℕ) (o : Bool) (ns : List ℕ) (r : Ring) → Idle (map happened (notes_of k r (map (event vs o false) ns)))
  unfolding slot_all tally notes_of
  deasserts_idle vs o [] r = idle_none
  deasserts_idle vs o (m ∷ ns) r =
      let rest = deasserts_idle vs o ns (ring_with r (event vs o false m)) in
      record { slots = rest.slots; silent = omega (arith, rest.silent) }

  did_serve : (vs : List ℕ) (o : Bool) (f : ℕ → Bool) (l : Lines) (r : Ring) (ns : List ℕ) → inputs (pending_in f l) ≡ ns → Did l (map happened (notes_of k r (serve vs o l ns).made)) (serve vs o l ns).after
  unfolding slot_all tally notes_of
  did_serve vs o f l r [] e = nothing (λ s. refl) refl refl
  did_serve vs o f l r (m ∷ ns) e =
      let has : on l.irr m ≡ true = latched_of (f m) (on l.irr m) _ _ (first_has 0 64 (pending_in f l) m ns e).0 in
      test (eqb n m)
      (λ t. let z : on l.irr n ≡ true = ap (λ i. on l.irr i) (eqb-true n m t) ∙ has in
      asserted (λ s. rw t refl) (rw (eqb_sym m n ∙ t) (omega arith)) z z)
      (λ t. nothing (λ s. rw t refl) (rw (eqb_sym m n ∙ t) refl) refl)

  did_enter : (vs : List ℕ) (o : Bool) (f : ℕ → Bool) (l : Lines) (r : Ring) → Did l (map happened (notes_of k r (enter vs o f l).made)) (enter vs o f l).after
  did_enter vs o f l r = did_serve vs o f l r (inputs (pending_in f l)) refl

  leave_idle : (vs : List ℕ) (o : Bool) (f : ℕ → Bool) (l : Lines) (r : Ring) → Idle (map happened (notes_of k r (leave vs o f l).made))
  leave_idle vs o f l r = deasserts_idle vs o (inputs (served_in f l)) r

  -- ---- waits that are taken back

  back_past : (f : ℕ → Bool) (s : Slot) (j c : ℕ) → n < j → slot_all n s (map taken_back (from j c f)) ≡ s
  unfolding slot_all from
  back_past f s j zero h = refl
  back_past f s j (suc c) h =
      let rest : (z : Slot) → slot_all n z (map taken_back (from (suc j) c f)) ≡ z = λ z. back_past f z (suc j) c (omega arith) in
      test (f j) (λ t. rw t (ap (λ y. slot_all n y (map taken_back (from (suc j) c f))) (ap (λ b. cond b (take_back s) s) (ne_eqb n j (λ e. omega (arith, e)))) ∙ rest s)) (λ t. rw t (rest s))

  back_from : (f : ℕ → Bool) (s : Slot) (j c : ℕ) → j ≤ n → n < j + c → slot_all n s (map taken_back (from j c f)) ≡ cond (f n) (take_back s) s
  unfolding slot_all from
  back_from f s j zero h g = absurd (omega arith)
  back_from f s j (suc c) h g =
      test (eqb n j)
      (λ t. let e = eqb-true n j t in
      test (f j)
      (λ u. rw u (ap (λ b. slot_all n (cond b (take_back s) s) (map taken_back (from (suc j) c f))) t ∙ back_past f (take_back s) (suc j) c (omega (arith, e)) ∙ ap (λ b. cond b (take_back s) s) (sym (ap f e ∙ u))))
      (λ u. rw u (back_past f s (suc j) c (omega (arith, e)) ∙ ap (λ b. cond b (take_back s) s) (sym (ap f e ∙ u)))))
      (λ t. let lt : suc j ≤ n = later (eqb-false n j t) in
      test (f j)
      (λ u. rw u (ap (λ b. slot_all n (cond b (take_back s) s) (map taken_back (from (suc j) c f))) t ∙ back_from f s (suc j) c lt (omega arith)))
      (λ u. rw u (back_from f s (suc j) c lt (omega arith))))
    where
      later : (n ≡ j → ⊥) → suc j ≤ n
      later x = test (ltb j n) (λ y. ltb-true j n y) (λ y. absurd (x (let z = ltb-false j n y in omega arith)))

  pub back_inputs : (f : ℕ → Bool) (s : Slot) → slot_all n s (map taken_back (inputs f)) ≡ cond (f n) (take_back s) s
  back_inputs f s = back_from f s 0 64 (omega arith) (omega arith)

  -- ---- acts that raise nothing

  abbrev pub NotRaise : Act → Type 0
  NotRaise (move (poll m)) = Unit {0}
  NotRaise (move (raise m)) = ⊥
  NotRaise (move (lower m)) = Unit {0}
  NotRaise (move (clear b)) = Unit {0}
  NotRaise (move (set_mask h v)) = Unit {0}
  NotRaise (set_isr h v) = Unit {0}
  NotRaise (store x) = Unit {0}
  NotRaise (set_vector m v) = Unit {0}

  -- latches lose some
  lost_latch : (l : Lines) (f : ℕ → Bool) {b : Bool} → f n ≡ b → on (without l.irr f) n ≡ (on l.irr n && not b)
  lost_latch l f e = on_without l.irr f n below ∙ ap (λ b. on l.irr n && not b) e

  -- a set of waits is taken back, and then events that do nothing
  did_back : (f : ℕ → Bool) (l m : Lines) (bs is : List Mark) → ((s : Slot) → slot_all n s bs ≡ cond (f n) (take_back s) s) → notes_in bs ≡ [] → Idle is → m.irr ≡ without l.irr f → Did l (bs ++ is) m
  unfolding tally
  did_back f l m bs is s e i x =
      let silent : tally (assert_of n) (notes_in bs) ≡ 0 = ap (tally (assert_of n)) e in
      test (f n)
      (λ t. did_after {m = m} bs is (back (λ z. s z ∙ ap (λ b. cond b (take_back z) z) t) silent (ap (λ y. on y n) x ∙ lost_latch l f t ∙ and-false (on l.irr n))) i refl)
      (λ t. did_after {m = m} bs is (nothing (λ z. s z ∙ ap (λ b. cond b (take_back z) z) t) silent (ap (λ y. on y n) x ∙ lost_latch l f t ∙ and-true (on l.irr n))) i refl)

  did_turn : (d : Device) (a : Act) → NotRaise a → Did d.core.lines (act_marks k d a) (turn d.core a).after.lines
  unfolding line_turn moved polled lowered cleared masked slot_all notes_of
  did_turn d (move (poll m)) t = did_enter d.core.vectors false (only m) d.core.lines d.ring
  did_turn d (move (raise m)) t = absurd t
  did_turn d (move (lower m)) t =
      let l = d.core.lines in
      did_back (λ i. eqb i m) l _ (marks.lowered m ∷ taken_back m ∷ []) _ (λ s. refl) refl (leave_idle d.core.vectors false (only m) (with_irr l (without l.irr (only m))) d.ring) refl
  did_turn d (move (clear b)) t =
      let l = d.core.lines in
      did_back (on b) l _ (map taken_back (inputs (on b))) _ (back_inputs (on b)) (notes_in_besides k l (move (clear b))) (leave_idle d.core.vectors true (on b) (with_irr l (without l.irr (on b))) d.ring) refl
  did_turn d (move (set_mask h v)) t =
      let l = d.core.lines in
      let vs = d.core.vectors in
      let new = with_half h l.mask v in
      let one = enter vs true (newly_unmasked l.mask new) (with_mask l new) in
      let two = leave vs true (newly_masked l.mask new) one.after in
      did_as (sym (ap (map happened) (notes_append k d.ring one.made two.made) ∙ map-append happened (notes_of k d.ring one.made) (notes_of k (ring_after d.ring one.made) two.made)))
      (did_after _ _ (did_mask l new (did_enter vs true (newly_unmasked l.mask new) (with_mask l new) d.ring)) (leave_idle vs true (newly_masked l.mask new) one.after (ring_after d.ring one.made)) refl)
    where
      did_mask : (l : Lines) (new : ℕ) {ms : List Mark} {m : Lines} → Did (with_mask l new) ms m → Did l ms m
      did_mask l new (nothing s t e) = nothing s t e
      did_mask l new (asserted s t e f) = asserted s t e f
      did_mask l new (back s t e) = back s t e
  did_turn d (set_isr h v) t = nothing (λ s. refl) idle_none.silent refl
  did_turn d (store x) t = nothing (λ s. refl) idle_none.silent refl
  did_turn d (set_vector m v) t = nothing (λ s. refl) idle_none.silent refl

  pub did_act : (d : Device) (a : Act) → NotRaise a → Did d.core.lines (act_marks k d a) (acted d (a ∷ [])).core.lines
  did_act d a t = subst (λ (e : Device). Did d.core.lines (act_marks k d a) e.core.lines) (sym (acted_one d a)) (did_turn d a t)

  -- ---- the wait at the end of a record

  -- it begins here or not; an assert was made; it is latched no more
  unfoldable pub step : (b a t : Bool) → Slot → Slot
  step b a t s = let z = cond b (start_at k s) s in cond a (settle k z) (cond t (take_back z) z)

  -- one that is not over has its input latched
  abbrev pub Latched : Slot → Lines → Type 0
  Latched s l = (s.since ≡ 0 → ⊥) → on l.irr n ≡ true

  over_settle : (s : Slot) → s.since ≡ 0 → settle k s ≡ s
  over_settle s z = rw (eq-eqb s.since 0 z)

  over_back : (s : Slot) → s.since ≡ 0 → take_back s ≡ s
  over_back s z = rw (eq-eqb s.since 0 z)

  pub over_step : (a t : Bool) (s : Slot) → s.since ≡ 0 → s ≡ step false a t s
  unfolding step
  over_step true t s z = sym (over_settle s z)
  over_step false true s z = sym (over_back s z)
  over_step false false s z = refl

  pub settle_over : (s : Slot) → (settle k s).since ≡ 0
  settle_over s = test (eqb s.since 0) (λ t. rw t (eqb-true s.since 0 t)) (λ t. rw t refl)

  pub back_over : (s : Slot) → (take_back s).since ≡ 0
  back_over s = test (eqb s.since 0) (λ t. rw t (eqb-true s.since 0 t)) (λ t. rw t refl)

  -- nothing happened, and it is latched as before
  pub kept_step : (s : Slot) (l : Lines) → Latched s l → s ≡ step false false (not (on l.irr n)) s
  unfolding step
  kept_step s l h =
      test (eqb s.since 0) (λ t. over_step false (not (on l.irr n)) s (eqb-true s.since 0 t))
      (λ t. ap (λ b. cond (not b) (take_back s) s) (sym (h (eqb-false s.since 0 t))))

  -- ---- one act, and acts one after another

  abbrev pub Some : List Mark → Bool
  Some ms = ltb 0 (tally (assert_of n) (notes_in ms))

  abbrev pub Gone : Lines → Bool
  Gone l = not (on l.irr n)

  some_none : (ms : List Mark) → tally (assert_of n) (notes_in ms) ≡ 0 → Some ms ≡ false
  some_none ms e = ap (ltb 0) e

  some_some : (ms : List Mark) → 0 < tally (assert_of n) (notes_in ms) → Some ms ≡ true
  some_some ms h = lt-ltb 0 (tally (assert_of n) (notes_in ms)) h

  pub did_step : {l m : Lines} (ms : List Mark) (s : Slot) → Latched s l → Did l ms m → slot_all n s ms ≡ step false (Some ms) (Gone m) s
  unfolding step
  did_step {l} {m} ms s h (nothing z t e) = z s ∙ kept_step s l h ∙ (λ i. step false (sym (some_none ms t) i) (not (sym e i)) s)
  did_step {l} {m} ms s h (asserted z t e f) = z s ∙ (λ i. step false (sym (some_some ms t) i) (Gone m) s)
  did_step {l} {m} ms s h (back z t e) = z s ∙ (λ i. step false (sym (some_none ms t) i) (not (sym e i)) s)

  pub record Quiet (d : Device) (xs : List Act) : Type 0 where
    pub silent : tally (assert_of n) (notes_in (marks_of k d xs)) ≡ 0
    pub unlatched : on (acted d xs).core.lines.irr n ≡ false

  -- not latched, and never raised: no assert
  quiet_acts : (d : Device) (xs : List Act) → Each NotRaise xs → on d.core.lines.irr n ≡ false → Quiet d xs
  unfolding marks_of tally
  quiet_acts d [] done h = record { silent = refl; unlatched = ap (λ (e : Device). on e.core.lines.irr n) (acted_none d) ∙ h }
  quiet_acts d (a ∷ xs) (also t ts) h = go (λ e. quiet_acts (acted d (a ∷ [])) xs ts e) (did_act d a t)
    where
      rest : Quiet (acted d (a ∷ [])) xs → tally (assert_of n) (notes_in (act_marks k d a)) ≡ 0 → Quiet d (a ∷ xs)
      rest q z =
          record {
            silent = omega (arith, tally_both (act_marks k d a) (marks_of k (acted d (a ∷ [])) xs), z, q.silent);
            unlatched = ap (λ (x : Device). on x.core.lines.irr n) (acted_append d (a ∷ []) xs) ∙ q.unlatched;
          }

      go : (on (acted d (a ∷ [])).core.lines.irr n ≡ false → Quiet (acted d (a ∷ [])) xs) → Did d.core.lines (act_marks k d a) (acted d (a ∷ [])).core.lines → Quiet d (a ∷ xs)
      go q (nothing s z e) = rest (q (e ∙ h)) z
      go q (asserted s z e f) = absurd (true≢false (sym e ∙ h))
      go q (back s z e) = rest (q e) z

  -- a first act, and the others from the device that it left
  module _ (d : Device) (a : Act) (xs : List Act) (s : Slot) where
    abbrev next : Device
    next = acted d (a ∷ [])

    abbrev first : List Mark
    first = act_marks k d a

    abbrev others : List Mark
    others = marks_of k next xs

    Both : Type 0
    Both = slot_all n s (first ++ others) ≡ step false (Some (first ++ others)) (Gone (acted d (a ∷ xs)).core.lines) s

    gone_after : Gone (acted next xs).core.lines ≡ Gone (acted d (a ∷ xs)).core.lines
    gone_after = ap (λ (x : Device). Gone x.core.lines) (sym (acted_append d (a ∷ []) xs))

    some_later : tally (assert_of n) (notes_in first) ≡ 0 → Some others ≡ Some (first ++ others)
    some_later z =
        let e : tally (assert_of n) (notes_in others) ≡ tally (assert_of n) (notes_in (first ++ others)) = omega (arith, tally_both first others, z) in
        ap (ltb 0) e

    both_steps : (NotRaise a) → ((z : Slot) → Latched z next.core.lines → slot_all n z others ≡ step false (Some others) (Gone (acted next xs).core.lines) z)
        → (on next.core.lines.irr n ≡ false → Quiet next xs) → Latched s d.core.lines → Both
    unfolding Both step
    both_steps t rest quiet h = go (did_act d a t)
      where
        over : (z : Slot) → z.since ≡ 0 → slot_all n z others ≡ z
        over z e = rest z (λ x. absurd (x e)) ∙ sym (over_step (Some others) (Gone (acted next xs).core.lines) z e)

        go : Did d.core.lines first next.core.lines → Both
        go (nothing w z e) =
            slot_append n s first others ∙ ap (λ y. slot_all n y others) (w s) ∙ rest s (λ x. e ∙ h x)
            ∙ (λ i. step false (some_later z i) (gone_after i) s)
        go (asserted w z e f) =
            let some : Some (first ++ others) ≡ true = lt-ltb 0 (tally (assert_of n) (notes_in (first ++ others))) (omega (arith, tally_both first others, z)) in
            slot_append n s first others ∙ ap (λ y. slot_all n y others) (w s) ∙ over (settle k s) (settle_over s)
            ∙ (λ i. step false (sym some i) (Gone (acted d (a ∷ xs)).core.lines) s)
        go (back w z e) =
            let q = quiet e in
            let zero-made : tally (assert_of n) (notes_in (first ++ others)) ≡ 0 = omega (arith, tally_both first others, z, q.silent) in
            let none : Some (first ++ others) ≡ false = ap (ltb 0) zero-made in
            let gone : Gone (acted d (a ∷ xs)).core.lines ≡ true = sym gone_after ∙ ap not q.unlatched in
            slot_append n s first others ∙ ap (λ y. slot_all n y others) (w s) ∙ over (take_back s) (back_over s)
            ∙ (λ i. step false (sym none i) (sym gone i) s)

  pub acts_step : (d : Device) (xs : List Act) → Each NotRaise xs → (s : Slot) → Latched s d.core.lines → slot_all n s (marks_of k d xs) ≡ step false (Some (marks_of k d xs)) (Gone (acted d xs).core.lines) s
  unfolding marks_of slot_all tally Both
  acts_step d [] done s h = kept_step s d.core.lines h ∙ ap (λ (e : Device). step false false (Gone e.core.lines) s) (sym (acted_none d))
  acts_step d (a ∷ xs) (also t ts) s h =
      both_steps d a xs s t (λ z y. acts_step (acted d (a ∷ [])) xs ts z y) (λ e. quiet_acts (acted d (a ∷ [])) xs ts e) h

  -- ---- a raise

  raise_slot : (l : Lines) (m : ℕ) (s : Slot) → slot_all n s (besides k l (move (raise m))) ≡ cond (eqb m n && idle_in l n) (start_at k s) s
  unfolding slot_all
  raise_slot l m s =
      test (eqb m n)
      (λ t. let e = eqb-true m n t in
      test (idle_in l m)
      (λ u. rw (u, t, eqb_sym n m ∙ t, sym (ap (idle_in l) e) ∙ u) refl)
      (λ u. rw (u, t, sym (ap (idle_in l) e) ∙ u) refl))
      (λ t. test (idle_in l m) (λ u. rw (u, t, eqb_sym n m ∙ t) refl) (λ u. rw (u, t) refl))

  or-true : (a : Bool) → (a || true) ≡ true
  or-true true = refl
  or-true false = refl

  raise_latched : (l : Lines) (m : ℕ) (s : Slot) → Latched s l → Latched (cond (eqb m n && idle_in l n) (start_at k s) s) (with_irr l (put l.irr m))
  raise_latched l m s h x =
      on_put l.irr m n below
      ∙ test (eqb m n) (λ t. ap (λ b. on l.irr n || b) (eqb_sym n m ∙ t) ∙ or-true (on l.irr n))
      (λ t. ap (λ b. b || only m n) (h (λ z. x (ap (λ b. (cond (b && idle_in l n) (start_at k s) s).since) t ∙ z))))

  pub raise_step : (d : Device) (m : ℕ) (s : Slot) → Latched s d.core.lines
      → slot_all n s (act_marks k d (move (raise m))) ≡ step (eqb m n && idle_in d.core.lines n) (Some (act_marks k d (move (raise m)))) (Gone (turn d.core (move (raise m))).after.lines) s
  unfolding line_turn moved raised polled step
  raise_step d m s h =
      let l = d.core.lines in
      let to = with_irr l (put l.irr m) in
      let made = (enter d.core.vectors false (only m) to).made in
      let notes = map happened (notes_of k d.ring made) in
      let z = cond (eqb m n && idle_in l n) (start_at k s) s in
      let same : tally (assert_of n) (notes_in (besides k l (move (raise m)) ++ notes)) ≡ tally (assert_of n) (notes_in notes) =
      ap (tally (assert_of n)) (notes_in_append (besides k l (move (raise m))) notes ∙ ap (λ xs. xs ++ notes_in notes) (notes_in_besides k l (move (raise m))))
      in
      slot_append n s (besides k l (move (raise m))) notes ∙ ap (λ y. slot_all n y notes) (raise_slot l m s)
      ∙ did_step notes z (raise_latched l m s h) (did_enter d.core.vectors false (only m) to d.ring)
      ∙ (λ i. step false (ltb 0 (sym same i)) (Gone (enter d.core.vectors false (only m) to).after) z)
