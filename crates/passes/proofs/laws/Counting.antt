-- What the marks of a day add to the columns that are counted.
use Rattle.basics.proofs.Prelude.{◌≡◌, refl, sym, ap, ◌∙◌, Bool, true, false, cond, not, ◌&&◌, List, [], ◌∷◌, ◌++◌, map, append-nil, append_assoc, ℕ, ◌+◌, arith, eqb, on, inputs, test}
use Rattle.rules.specs.{Core.Act, Core.move, Core.raise, Core.lower, Core.poll, Core.clear, Core.set_mask, Core.set_isr, Core.store, Core.set_vector, Core.turn, Account.tally}
use Rattle.rules.specs.Device.{Device, Call, acts_of, acted}
use Rattle.histories.{specs.Demands.Each, specs.Demands.done, specs.Demands.also, proofs.laws.Reach.ReturnsNone, proofs.laws.Reach.write_returns_none}
use Rattle.plain.specs.{Events.Note, Events.Fate, Events.returned, Events.kept, Events.dropped, Plain.Engine}
use Rattle.plain.specs.Sequence.{Item, call, load, refused, takes, notes_of, Ported, ported_follows, ported_after}
use Rattle.sheets.specs.{Day.Moment, Day.moments, Waits.moves_level, Waits.is_level, Waits.assert_of, Waits.deassert_of}
use Rattle.sheets.specs.Sheet.{is_returned, is_dropped, returned_of, offered_of, dropped_of}
use Rattle.passes.specs.tallies.Marks.{Mark, raised, lowered, began, taken_back, happened, kind_column, fate_columns, idle_in, besides, act_marks, marks_of, day_marks}
use Rattle.passes.specs.Slots.{NoLoad, notes_in}
use Rattle.passes.proofs.laws.{Marking.added_by, Marking.added_in, Marking.added_append, Acting.notes_in_append, Acting.notes_of_acts}
use Rattle.rules.specs.Device as device

cond_none : (b : Bool) → ◌≡◌ {A = ℕ} (cond b 0 0) 0
cond_none true = refl
cond_none false = refl

-- ---- events

both : (b : Bool) (u : ℕ) (v : Bool) → u ≡ cond v 1 0 → cond b u 0 ≡ cond (v && b) 1 0
both true u true e = e
both true u false e = e
both false u true e = refl
both false u false e = refl

-- what counts in column c of input n, by whether an event asserts and what became of it
module _ (n c : ℕ) (q : Bool → Fate → Bool) where
  abbrev counts : Note → Bool
  counts x = q x.asserted x.fate && eqb x.input n

  abbrev Counted : Bool → Fate → Type 0
  Counted a f = tally (eqb c) (kind_column a ∷ fate_columns f) ≡ cond (q a f) 1 0

  module _
      (zeroth : eqb c 0 ≡ false) (first : eqb c 1 ≡ false)
      (on-returned : Counted true returned) (on-kept : Counted true kept) (on-dropped : Counted true dropped)
      (off-returned : Counted false returned) (off-kept : Counted false kept) (off-dropped : Counted false dropped)
    where
      kinds : (a : Bool) (f : Fate) → Counted a f
      kinds true returned = on-returned
      kinds true kept = on-kept
      kinds true dropped = on-dropped
      kinds false returned = off-returned
      kinds false kept = off-kept
      kinds false dropped = off-dropped

      each : (x : Note) → added_by n c (happened x) ≡ cond (counts x) 1 0
      each x = both (eqb x.input n) _ (q x.asserted x.fate) (kinds x.asserted x.fate)

      column : (ms : List Mark) → added_in n c ms ≡ tally counts (notes_in ms)
      unfolding added_in tally
      column [] = refl
      column (raised m ∷ ms) = rw (zeroth, cond_none (eqb m n)) (omega (arith, column ms))
      column (lowered m ∷ ms) = rw (first, cond_none (eqb m n)) (omega (arith, column ms))
      column (began m k ∷ ms) = rw (cond_none (eqb m n)) (omega (arith, column ms))
      column (taken_back m ∷ ms) = rw (cond_none (eqb m n)) (omega (arith, column ms))
      column (happened x ∷ ms) = omega (arith, each x, column ms)

module _ (n : ℕ) where
  pub asserts_added : (ms : List Mark) → added_in n 2 ms ≡ tally (assert_of n) (notes_in ms)
  unfolding tally
  asserts_added = column n 2 (λ a f. a) refl refl refl refl refl refl refl refl

  pub deasserts_added : (ms : List Mark) → added_in n 3 ms ≡ tally (deassert_of n) (notes_in ms)
  unfolding tally
  deasserts_added = column n 3 (λ a f. not a) refl refl refl refl refl refl refl refl

  pub returned_added : (ms : List Mark) → added_in n 4 ms ≡ tally (returned_of n) (notes_in ms)
  unfolding tally
  returned_added = column n 4 (λ a f. is_returned f) refl refl refl refl refl refl refl refl

  pub offered_added : (ms : List Mark) → added_in n 5 ms ≡ tally (offered_of n) (notes_in ms)
  unfolding tally
  offered_added = column n 5 (λ a f. not (is_returned f)) refl refl refl refl refl refl refl refl

  pub dropped_added : (ms : List Mark) → added_in n 6 ms ≡ tally (dropped_of n) (notes_in ms)
  unfolding tally
  dropped_added = column n 6 (λ a f. is_dropped f) refl refl refl refl refl refl refl refl

-- the events of a day are those that its history has more
pub history_is : (xs : List Item) (p : Ported) → NoLoad xs → (ported_after p xs).history ≡ p.history ++ notes_in (day_marks p.call p.device xs)
unfolding ported_after day_marks device.step
history_is [] p l = sym (append-nil p.history)
history_is (call c ∷ xs) p l =
    let new = notes_of p.call p.device.ring (device.step p.device c).made in
    let ms = marks_of p.call p.device (acts_of p.device.core c) in
    let rest = day_marks (p.call + 1) (device.step p.device c).after xs in
    history_is xs (ported_follows p (call c)) l ∙ append_assoc p.history new (notes_in rest)
    ∙ ap (λ (ys : List Note). p.history ++ ys) (ap (λ (ys : List Note). ys ++ notes_in rest) (sym (notes_of_acts p.call p.device (acts_of p.device.core c))) ∙ sym (notes_in_append ms rest))
history_is (load d ∷ xs) p l = absurd l
history_is (refused ∷ xs) p l = history_is xs (ported_follows p refused) l

-- ---- raises and lowerings

-- column 0 for raises (true), 1 for lowerings
abbrev level_column : Bool → ℕ
level_column true = 0
level_column false = 1

module _ (n : ℕ) (b : Bool) where
  abbrev c : ℕ
  c = level_column b

  event_none : (x : Note) → added_by n c (happened x) ≡ 0
  unfolding tally
  event_none x = ap (λ u. cond (eqb x.input n) u 0) (go b x.asserted x.fate) ∙ cond_none (eqb x.input n)
    where
      go : (b a : Bool) (f : Fate) → tally (eqb (level_column b)) (kind_column a ∷ fate_columns f) ≡ 0
      go true true = elim [ returned ↦ refl | kept ↦ refl | dropped ↦ refl ]
      go true false = elim [ returned ↦ refl | kept ↦ refl | dropped ↦ refl ]
      go false true = elim [ returned ↦ refl | kept ↦ refl | dropped ↦ refl ]
      go false false = elim [ returned ↦ refl | kept ↦ refl | dropped ↦ refl ]

  notes_none : (xs : List Note) → added_in n c (map happened xs) ≡ 0
  unfolding added_in
  notes_none [] = refl
  notes_none (x ∷ xs) = omega (arith, event_none x, notes_none xs)

  back_none : (ns : List ℕ) → added_in n c (map taken_back ns) ≡ 0
  unfolding added_in tally
  back_none [] = refl
  back_none (m ∷ ns) = rw (cond_none (eqb m n)) (omega (arith, back_none ns))

  act_adds : (k : ℕ) (d : Device) (a : Act) → added_in n c (act_marks k d a) ≡ added_in n c (besides k d.core.lines a)
  act_adds k d a = omega (arith, added_append n c (besides k d.core.lines a) (map happened (notes_of k d.ring (turn d.core a).made)), notes_none (notes_of k d.ring (turn d.core a).made))

  -- a write neither raises nor lowers
  write_none : (k : ℕ) (d : Device) (xs : List Act) → Each ReturnsNone xs → added_in n c (marks_of k d xs) ≡ 0
  unfolding marks_of added_in
  write_none k d [] done = refl
  write_none k d (a ∷ xs) (also t ts) =
      omega (arith, added_append n c (act_marks k d a) (marks_of k (acted d (a ∷ [])) xs), act_adds k d a, quiet a t, write_none k (acted d (a ∷ [])) xs ts)
    where
      quiet : (a : Act) → ReturnsNone a → added_in n c (besides k d.core.lines a) ≡ 0
      quiet (move (poll m)) t = absurd t
      quiet (move (raise m)) t = absurd t
      quiet (move (lower m)) t = absurd t
      quiet (move (clear x)) t = back_none (inputs (on x))
      quiet (move (set_mask h v)) t = refl
      quiet (set_isr h v) t = refl
      quiet (store x) t = refl
      quiet (set_vector m v) t = refl

  one_act : (k : ℕ) (d : Device) (a : Act) → added_in n c (marks_of k d (a ∷ [])) ≡ added_in n c (besides k d.core.lines a)
  unfolding marks_of
  one_act k d a = ap (added_in n c) (append-nil (act_marks k d a)) ∙ act_adds k d a

  call_adds : (k : ℕ) (d : Device) (x : Call) → added_in n c (marks_of k d (acts_of d.core x)) ≡ cond (moves_level n b x) 1 0
  unfolding acts_of marks_of added_in tally
  call_adds k d (device.level m true) = one_act k d (move (raise m)) ∙ go b
    where
      go : (b : Bool) → added_in n (level_column b) (besides k d.core.lines (move (raise m))) ≡ cond (b && eqb m n) 1 0
      go true = test (idle_in d.core.lines m) (λ t. rw t (test (eqb m n) (λ u. rw u refl) (λ u. rw u refl))) (λ t. rw t (test (eqb m n) (λ u. rw u refl) (λ u. rw u refl)))
      go false = test (idle_in d.core.lines m) (λ t. rw t (test (eqb m n) (λ u. rw u refl) (λ u. rw u refl))) (λ t. rw t (test (eqb m n) (λ u. rw u refl) (λ u. rw u refl)))
  call_adds k d (device.level m false) = one_act k d (move (lower m)) ∙ go b
    where
      go : (b : Bool) → added_in n (level_column b) (besides k d.core.lines (move (lower m))) ≡ cond (not b && eqb m n) 1 0
      go true = test (eqb m n) (λ u. rw u refl) (λ u. rw u refl)
      go false = test (eqb m n) (λ u. rw u refl) (λ u. rw u refl)
  call_adds k d (device.poll m) = one_act k d (move (poll m))
  call_adds k d (device.read w o) = refl
  call_adds k d (device.write w o v) = write_none k d (acts_of d.core (device.write w o v)) (write_returns_none d.core w o v)
  call_adds k d (device.drain j) = refl

  pub levels_added : (xs : List Item) (k : ℕ) (d : Device) → NoLoad xs → added_in n c (day_marks k d xs) ≡ tally (is_level n b) xs
  unfolding day_marks added_in tally
  levels_added [] k d l = refl
  levels_added (call x ∷ xs) k d l =
      omega (arith, added_append n c (marks_of k d (acts_of d.core x)) (day_marks (k + 1) (device.step d x).after xs), call_adds k d x, levels_added xs (k + 1) (device.step d x).after l)
  levels_added (load f ∷ xs) k d l = absurd l
  levels_added (refused ∷ xs) k d l = omega (arith, levels_added xs (k + 1) d l)

  -- the records of a day are its items
  pub moments_level : (xs : List Item) (e : Engine) → tally (λ (m : Moment). is_level n b m.item) (moments e xs) ≡ tally (is_level n b) xs
  unfolding moments tally
  moments_level [] e = refl
  moments_level (x ∷ xs) e = ap (λ j. cond (is_level n b x) 1 0 + j) (moments_level xs (takes e x).after)
