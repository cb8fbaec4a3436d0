-- How summing ends: refused, with the sheet as it was, or written.
use Rattle.basics.proofs.Prelude.{◌≡◌, ap, ◌∙◌, true, List, ◌++◌, ℕ, ◌<◌, ◌≤◌, arith, length, drop, Bytes}
use Rattle.sheets.specs.Sheet.{column_of, sheet_bytes}
use Rattle.passes.specs.{tallies.Grid.Grid, tallies.Grid.Becomes, Finish.is_on, Finish.rows_from, Finish.row_cleared, Finish.all_inputs, Finish.finished}
use Rattle.passes.specs.tallies.Tally.{tally_length, numbers_of, sound, tally_test}
use Rattle.passes.specs.tallies.Tallying.{long_row}
use Rattle.passes.proofs.laws.{Bytes.below_ten, Finishing.all_from, Finishing.shut_row, Passing.finished_sheet}
use Rattle.ledger.{specs.follow.Reached.CopiesOf, proofs.follow.Loops.some_grid, proofs.follow.Loops.holds_some}
use Rattle.std.proofs.Common.{Ok, None}
use Rattle.pch_pic_tally.specs.adding.Ended.{ends_as, sum_by, summed}

module _ (t s : List ℕ) where
  -- the rows of the tally, with open waits
  rows_are : (f : Grid) (n : ℕ) → n < 64 → (c : ℕ) → c < 10 → shut_row (rows_from (numbers_of t) f all_inputs) n c ≡ column_of (long_row t n) c
  rows_are f n p =
      let at : (c : ℕ) → c < 10 → rows_from (numbers_of t) f all_inputs n c ≡ numbers_of t n c = λ c q. all_from (numbers_of t) f n c p q in
      below_ten (λ c. shut_row (rows_from (numbers_of t) f all_inputs) n c ≡ column_of (long_row t n) c) (at 0 (omega arith)) (at 1 (omega arith)) (at 2 (omega arith)) (at 3 (omega arith)) (at 4 (omega arith))
      (at 5 (omega arith)) (at 6 (omega arith)) (at 7 (omega arith)) (at 8 (omega arith)) (ap is_on (at 9 (omega arith)))

  pub is_summed : Bytes t → tally_length ≤ length t → Bytes s → tally_length ≤ length s → sound ≡ tally_test t → {s₁ s₂ s₃ : List ℕ} → CopiesOf t s s₁ (λ g f. rows_from g f all_inputs)
      → Becomes true s₁ s₂ (λ f. row_cleared f 64 10) → Becomes true s₂ s₃ (λ f. finished f 64) → ends_as (Ok None) s₃ ≡ summed t s
  is_summed y h z k e {s₁} {s₂} {s₃} p q r =
      let copied = p (numbers_of t) (drop tally_length t) (holds_some true t y h) (some_grid true s) (drop tally_length s) (holds_some true s z k) in
      let held = r _ _ (q _ _ copied) in
      let is : s₃ ≡ sheet_bytes 8 (long_row t) ++ drop tally_length s = finished_sheet (rows_from (numbers_of t) (some_grid true s) all_inputs) (long_row t) (rows_are (some_grid true s)) true s₃ (drop tally_length s) held in
      ap (ends_as (Ok None)) is ∙ ap (λ x. sum_by x t s) e
