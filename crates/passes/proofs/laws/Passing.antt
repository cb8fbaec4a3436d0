-- The grid that the marks of a day leave, finished, is the day's sheet.
use Rattle.basics.proofs.Prelude.{◌≡◌, refl, sym, ap, ◌∙◌, Bool, true, false, cond, List, [], ◌∷◌, ◌++◌, map, ℕ, zero, suc, ◌+◌, ◌<◌, ◌≤◌, arith, eqb, length, zero-add, on, inputs, test}
use Rattle.passes.proofs.laws.Finishing.{all_from, row_from_lem, row_kept, shut_row, total_of, finishes}
use Rattle.passes.proofs.laws.Marking.{added_in, all_marked_at, AllSoon, rows_marked, Early, early_all}
use Rattle.passes.proofs.laws.Recording.{Closed, day_closes}
use Rattle.passes.proofs.laws.Counting.{history_is, levels_added, moments_level, asserts_added, deasserts_added, returned_added, offered_added, dropped_added}
use Rattle.passes.proofs.laws.Bytes.{below_ten, sheet_is}
use Rattle.rules.specs.{Lines.Lines, Lines.Made, Ring.Ring, Core.Act, Core.move, Core.raise, Core.lower, Core.poll, Core.clear, Core.set_mask, Core.set_isr, Core.store, Core.set_vector, Core.turn}
use Rattle.rules.specs.{Account.tally, Device.Device, Device.reset, Device.acts_of, Device.acted}
use Rattle.laws.proofs.laws.Images.{reset_well_formed}
use Rattle.plain.specs.{Events.Note, Sequence.Item, Sequence.call, Sequence.load, Sequence.refused, Sequence.load_of, Sequence.WellLoaded, Sequence.plain_after, Sequence.ring_with, Sequence.notes_of}
use Rattle.plain.proofs.{laws.Same.Same, laws.Following.loaded_run, laws.Following.same_load, demands.History.same_history}
use Rattle.sheets.specs.{Day.begun, Day.moments, Day.Day, Day.day_from, Waits.assert_of, Waits.deassert_of, Waits.waits}
use Rattle.sheets.specs.Sheet.{column_of, Row, returned_of, offered_of, dropped_of, row_of, empty_row, together, total_below, sheet_bytes}
use Rattle.passes.specs.tallies.{Grid.Grid, Grid.cell_bytes, Grid.Holds, Marks.Mark, Marks.happened, Marks.taken_back, Marks.idle_in, Marks.all_marked, Marks.besides, Marks.act_marks, Marks.marks_of, Marks.day_marks}
use Rattle.passes.specs.{Slots.NoLoad, Slots.Slot, Slots.slot_all, Slots.notes_in, Slots.Rows, Finish.zeros, Finish.row_cleared, Finish.cleared, Finish.all_inputs, Finish.is_on, Finish.joined, Finish.finished}
use Rattle.rules.specs.Device as device

-- ---- the numbers of the records in marks

soon_append : (b : ℕ) (ms ns : List Mark) → AllSoon b ms → AllSoon b ns → AllSoon b (ms ++ ns)
soon_append b [] ns h g = g
soon_append b (m ∷ ms) ns h g = (h.0, soon_append b ms ns h.1 g)

soon_notes : (b k : ℕ) → k < b → (r : Ring) (ms : List Made) → AllSoon b (map happened (notes_of k r ms))
unfolding notes_of
soon_notes b k h r [] = tt
soon_notes b k h r (m ∷ ms) = (h, soon_notes b k h (ring_with r m) ms)

soon_back : (b : ℕ) (ns : List ℕ) → AllSoon b (map taken_back ns)
soon_back b [] = tt
soon_back b (n ∷ ns) = (tt, soon_back b ns)

soon_besides : (b k : ℕ) → k < b → (l : Lines) (a : Act) → AllSoon b (besides k l a)
soon_besides b k h l (move (poll m)) = tt
soon_besides b k h l (move (raise m)) = test (idle_in l m) (λ t. rw t (tt, (h, tt))) (λ t. rw t (tt, tt))
soon_besides b k h l (move (lower m)) = (tt, (tt, tt))
soon_besides b k h l (move (clear x)) = soon_back b (inputs (on x))
soon_besides b k h l (move (set_mask g v)) = tt
soon_besides b k h l (set_isr g v) = tt
soon_besides b k h l (store x) = tt
soon_besides b k h l (set_vector m v) = tt

soon_acts : (b k : ℕ) → k < b → (d : Device) (xs : List Act) → AllSoon b (marks_of k d xs)
unfolding marks_of
soon_acts b k h d [] = tt
soon_acts b k h d (a ∷ xs) =
    soon_append b (act_marks k d a) (marks_of k (acted d (a ∷ [])) xs)
    (soon_append b (besides k d.core.lines a) _ (soon_besides b k h d.core.lines a) (soon_notes b k h d.ring (turn d.core a).made))
    (soon_acts b k h (acted d (a ∷ [])) xs)

pub soon_day : (b : ℕ) (xs : List Item) (k : ℕ) (d : Device) → k + length xs ≤ b → AllSoon b (day_marks k d xs)
unfolding day_marks
soon_day b [] k d h = tt
soon_day b (call c ∷ xs) k d h =
    soon_append b (marks_of k d (acts_of d.core c)) (day_marks (k + 1) (device.step d c).after xs) (soon_acts b k (omega arith) d (acts_of d.core c))
    (soon_day b xs (k + 1) (device.step d c).after (omega arith))
soon_day b (load f ∷ xs) k d h = soon_day b xs (k + 1) f (omega arith)
soon_day b (refused ∷ xs) k d h = soon_day b xs (k + 1) d (omega arith)

pub no_load_well : (xs : List Item) → NoLoad xs → WellLoaded xs
unfolding WellLoaded
no_load_well [] l = tt
no_load_well (call c ∷ xs) l = no_load_well xs l
no_load_well (load d ∷ xs) l = absurd l
no_load_well (refused ∷ xs) l = no_load_well xs l

-- ---- the total

together_column : (x y : Row) (c : ℕ) → c < 10 → column_of (together x y) c ≡ joined c (column_of x c) (column_of y c)
together_column x y = below_ten (λ c. column_of (together x y) c ≡ joined c (column_of x c) (column_of y c)) refl refl refl refl refl refl refl refl refl refl

empty_column : (c : ℕ) → c < 10 → column_of empty_row c ≡ 0
empty_column = below_ten (λ c. column_of empty_row c ≡ 0) refl refl refl refl refl refl refl refl refl refl

-- a grid whose rows, once they are shut, are these
module _ (g : Grid) (rows : ℕ → Row) (its : (n : ℕ) → n < 64 → (c : ℕ) → c < 10 → shut_row g n c ≡ column_of (rows n) c) where
  abbrev last : Grid
  last = row_cleared g 64 10

  last_row : (n : ℕ) → n < 64 → (c : ℕ) → c < 10 → shut_row last n c ≡ column_of (rows n) c
  last_row n p c q = (λ i. cond (eqb c 9) (is_on (kept 9 i)) (kept c i)) ∙ its n p c q
    where
      kept : (b : ℕ) → last n b ≡ g n b
      kept b = row_kept zeros g 64 10 n b (λ e. omega (arith, e, p))

  totals : (k : ℕ) → k ≤ 64 → (c : ℕ) → c < 10 → total_of last k c ≡ column_of (total_below k rows) c
  unfolding total_of total_below
  totals zero h c q = sym (empty_column c q)
  totals (suc k) h c q =
      (λ i. joined c (totals k (omega arith) c q i) (last_row k (omega arith) c q i)) ∙ sym (together_column (total_below k rows) (rows k) c q)

  -- finished, it is held by the bytes of their sheet
  pub finished_sheet : (w : Bool) (b rest : List ℕ) → Holds w b (finished last 64) rest → b ≡ sheet_bytes (cell_bytes w) rows ++ rest
  finished_sheet w b rest h =
      let done = finishes last (λ c q. row_from_lem zeros g 64 10 c q) 64 (omega arith) in
      sheet_is w b rest (finished last 64) rows h (λ n c p q. done.before n c p ∙ last_row n p c q) (λ c q. done.total c q ∙ totals 64 (omega arith) c q)

-- ---- a day from reset

pub same_begun : Same begun (loaded_run reset)
unfolding begun load_of
same_begun = same_load begun reset reset_well_formed

module _ (xs : List Item) (l : NoLoad xs) where
  abbrev marks : List Mark
  marks = day_marks 0 reset xs

  abbrev day : Day
  day = day_from begun xs

  pub history_notes : (plain_after begun xs).history ≡ notes_in marks
  unfolding begun load_of
  history_notes = same_history begun reset reset_well_formed xs (no_load_well xs l) ∙ history_is xs (record { device = reset; call = 0; history = [] }) l

  module _ (f : Grid) where
    abbrev start : Grid
    start = cleared f all_inputs

    abbrev after : Grid
    after = all_marked start marks

    module _ (n : ℕ) (p : n < 64) where
      zero_at : (c : ℕ) → c < 10 → start n c ≡ 0
      zero_at c q = all_from zeros f n c p q

      counted : (c : ℕ) → c < 7 → {v : ℕ} → added_in n c marks ≡ v → after n c ≡ v
      counted c q {v} e =
          let z = zero_at c (omega arith) in
          all_marked_at start marks n c q ∙ (λ i. z i + e i) ∙ zero-add v

      abbrev none : Slot
      none = record { greatest = 0; withdrawn = 0; since = 0 }

      row_starts : Rows start n none
      row_starts = record { greatest = zero_at 7 (omega arith); withdrawn = zero_at 8 (omega arith); since = zero_at 9 (omega arith) }

      row_ends : Rows after n (slot_all n none marks)
      row_ends = rows_marked start n none marks row_starts

      closes : Closed n p none (slot_all n none marks) (waits n (moments begun xs))
      closes = day_closes n p xs begun (loaded_run reset) same_begun reset_well_formed l none (λ q. absurd (q refl))

      notes : {A : Type 0} → (g : List Note → A) → g (notes_in marks) ≡ g day.history
      notes g = ap g (sym history_notes)

      -- no wait takes longer than the day
      pub great_few : (row_of day n).greatest ≤ length xs
      unfolding row_of
      great_few =
          let e = early_all (length xs) n none marks (soon_day (length xs) xs 0 reset (omega arith)) (record { great = omega arith; late = omega arith }) in
          omega (arith, closes.greatest, e.great)

      -- one wait at most is not over
      pub open_few : (row_of day n).still_open ≤ 1
      unfolding row_of
      open_few = test (eqb (slot_all n none marks).since 0) (λ t. omega (arith, sym closes.lasts ∙ ap (λ b. cond b 0 1) t)) (λ t. omega (arith, sym closes.lasts ∙ ap (λ b. cond b 0 1) t))

      pub cells : (c : ℕ) → c < 10 → shut_row after n c ≡ column_of (row_of day n) c
      unfolding row_of
      cells =
          below_ten (λ c. shut_row after n c ≡ column_of (row_of day n) c)
          (counted 0 (omega arith) (levels_added n true xs 0 reset l ∙ sym (moments_level n true xs begun)))
          (counted 1 (omega arith) (levels_added n false xs 0 reset l ∙ sym (moments_level n false xs begun)))
          (counted 2 (omega arith) (asserts_added n marks ∙ notes (tally (assert_of n))))
          (counted 3 (omega arith) (deasserts_added n marks ∙ notes (tally (deassert_of n))))
          (counted 4 (omega arith) (returned_added n marks ∙ notes (tally (returned_of n))))
          (counted 5 (omega arith) (offered_added n marks ∙ notes (tally (offered_of n))))
          (counted 6 (omega arith) (dropped_added n marks ∙ notes (tally (dropped_of n))))
          (row_ends.greatest ∙ closes.greatest ∙ omega arith)
          (row_ends.withdrawn ∙ closes.withdrawn ∙ omega arith)
          (ap is_on row_ends.since ∙ closes.lasts)

    -- The grid after the pass, finished, is held by the bytes of the day's sheet.
    pub pass_sheet : (w : Bool) (b rest : List ℕ) → Holds w b (finished (row_cleared after 64 10) 64) rest → b ≡ sheet_bytes (cell_bytes w) (row_of day) ++ rest
    pass_sheet = finished_sheet after (row_of day) cells
