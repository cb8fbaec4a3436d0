-- From how adding and summing end to what the calls leave: 7 writes no byte, and all else is told in the answer area.
use Rattle.basics.proofs.Prelude.{◌≡◌, refl, sym, ap, ◌∙◌, true, Bool, cond, ◌&&◌, and-false, List, ℕ, ◌<◌, ◌≤◌, arith, eqb, leb, length, drop, test, eqb-true, eqb-false, le-leb, lt-leb, Bytes}
use Rattle.rules.specs.Device.{none}
use Rattle.calls.specs.Calls.{answer_length, answered}
use Rattle.sheets.specs.Sheet.{empty_row, rows_below}
use Rattle.passes.specs.tallies.Grid.{Becomes}
use Rattle.passes.specs.tallies.Tally.{tally_length, TallyTest, sound, wrong_at, tally_test}
use Rattle.passes.specs.tallies.Tallying.{TallyLeft, tally_leaves, over_tally, with_room, beginning, AddTest, refused, adds, add_test, add_ends, adding, sum_ends, summing}
use Rattle.passes.specs.Finish.{zeros, row_cleared, cleared, all_inputs}
use Rattle.passes.proofs.laws.{Bytes.tally_is, Bytes.no_numbers, Finishing.row_from_lem, Finishing.row_kept, Finishing.all_from}
use Rattle.ledger.proofs.follow.Loops.{some_grid, holds_some}
use Rattle.std.proofs.Common.{Option, Result}
use Rattle.answer.specs.{Given.told_number, Given.told_value, declared.refusals.Refusal.Refusal}
use Rattle.pch_pic_tally.specs.adding.Ended.{Ended, ends_as, add_by, added, sum_by, summed}

-- ---- room

module _ (a t : List ℕ) (x : TallyLeft) where
  abbrev both : Bool
  both = leb answer_length (length a) && leb tally_length (length t)

  by_room : {b : Bool} → both ≡ b → cond b x (tally_leaves 7 t a) ≡ with_room a t x
  by_room e = ap (λ b. cond b x (tally_leaves 7 t a)) (sym e)

  pub answer_short : length a < answer_length → tally_leaves 7 t a ≡ with_room a t x
  answer_short h = by_room (ap (λ b. b && leb tally_length (length t)) (lt-leb answer_length (length a) h))

  pub bytes_short : length t < tally_length → tally_leaves 7 t a ≡ with_room a t x
  bytes_short h = by_room (ap (λ b. leb answer_length (length a) && b) (lt-leb tally_length (length t) h) ∙ and-false (leb answer_length (length a)))

  pub roomy : answer_length ≤ length a → tally_length ≤ length t → x ≡ with_room a t x
  roomy h k = by_room (λ i. le-leb answer_length (length a) h i && le-leb tally_length (length t) k i)

-- ---- an ending, put into the answer area

settled : Ended → List ℕ → TallyLeft
settled e a = tally_leaves e.number e.bytes (answered e.number e.value a)

told : (a : List ℕ) (t : Result (Option ℕ) Refusal) {s : List ℕ} {e : Ended} → ends_as t s ≡ e → {r : ℕ} {b : List ℕ} → (r ≡ told_number t) × (b ≡ answered (told_number t) (told_value t) a) → tally_leaves r s b ≡ settled e a
unfolding settled
told a t {s} d p = (λ i. tally_leaves (p.0 i) s (p.1 i)) ∙ ap (λ e. settled e a) d

adds_settled : (x : AddTest) (l i t a : List ℕ) → settled (add_by x l i t) a ≡ add_ends x l i t a
unfolding settled
adds_settled (refused n v) l i t a = refl
adds_settled adds l i t a = refl

sums_settled : (x : TallyTest) (t s a : List ℕ) → settled (sum_by x t s) a ≡ sum_ends x t s a
unfolding settled
sums_settled sound t s a = refl
sums_settled (wrong_at x) t s a = refl

-- ---- begin

module _ (t a : List ℕ) where
  pub no_begin : tally_leaves 7 t a ≡ with_room a t (tally_leaves 0 (over_tally (rows_below 8 65 (λ n. empty_row)) t) (answered 0 none a)) → tally_leaves 7 t a ≡ beginning t a
  unfolding beginning
  no_begin e = e

  pub begins : Bytes t → answer_length ≤ length a → tally_length ≤ length t → {t₁ t₂ : List ℕ} → Becomes true t t₁ (λ f. cleared f all_inputs) → Becomes true t₁ t₂ (λ f. row_cleared f 64 10)
      → {r : ℕ} {b : List ℕ} → (r ≡ 0) × (b ≡ answered 0 none a) → tally_leaves r t₂ b ≡ beginning t a
  unfolding beginning
  begins y h k {t₁} {t₂} p q e =
      let held = q _ _ (p (some_grid true t) (drop tally_length t) (holds_some true t y k)) in
      let is = tally_is t₂ (drop tally_length t) _ held ∙ ap (λ xs. over_tally xs t) (no_numbers _ none_there) in
      (λ i. tally_leaves (e.0 i) (is i) (e.1 i)) ∙ roomy a t _ h k
    where
      none_there : (n c : ℕ) → n < 65 → c < 10 → row_cleared (cleared (some_grid true t) all_inputs) 64 10 n c ≡ 0
      none_there n c p q =
          test (eqb n 64)
          (λ u. let e = eqb-true n 64 u in ap (λ m. row_cleared (cleared (some_grid true t) all_inputs) 64 10 m c) e ∙ row_from_lem zeros (cleared (some_grid true t) all_inputs) 64 10 c q)
          (λ u. let d = eqb-false n 64 u in row_kept zeros (cleared (some_grid true t) all_inputs) 64 10 n c d ∙ all_from zeros (some_grid true t) n c (omega (arith, p, d)) q)

-- ---- add

module _ (l i t a : List ℕ) where
  pub add_answer_short : length a < answer_length → tally_leaves 7 t a ≡ adding l i t a
  unfolding adding
  add_answer_short h = answer_short a t _ h

  pub add_tally_short : length t < tally_length → tally_leaves 7 t a ≡ adding l i t a
  unfolding adding
  add_tally_short h = bytes_short a t _ h

  pub add_told : answer_length ≤ length a → tally_length ≤ length t → (x : Result (Option ℕ) Refusal) {s : List ℕ} → ends_as x s ≡ added l i t → {r : ℕ} {b : List ℕ} → (r ≡ told_number x) × (b ≡ answered (told_number x) (told_value x) a) → tally_leaves r s b ≡ adding l i t a
  unfolding adding
  add_told h k x d p = told a x d p ∙ adds_settled (add_test l i t) l i t a ∙ roomy a t _ h k

-- ---- sheet

module _ (t s a : List ℕ) where
  by_tally : {b : Bool} → leb tally_length (length t) ≡ b → cond b (with_room a s (sum_ends (tally_test t) t s a)) (tally_leaves 7 s a) ≡ summing t s a
  unfolding summing
  by_tally e = ap (λ b. cond b (with_room a s (sum_ends (tally_test t) t s a)) (tally_leaves 7 s a)) (sym e)

  pub sum_tally_short : length t < tally_length → tally_leaves 7 s a ≡ summing t s a
  sum_tally_short h = by_tally (lt-leb tally_length (length t) h)

  pub sum_answer_short : length a < answer_length → tally_leaves 7 s a ≡ summing t s a
  sum_answer_short h =
      test (leb tally_length (length t)) (λ u. answer_short a s _ h ∙ by_tally u) (λ u. by_tally u)

  pub sum_sheet_short : length s < tally_length → tally_leaves 7 s a ≡ summing t s a
  sum_sheet_short h =
      test (leb tally_length (length t)) (λ u. bytes_short a s _ h ∙ by_tally u) (λ u. by_tally u)

  pub sum_told : answer_length ≤ length a → tally_length ≤ length t → tally_length ≤ length s → (x : Result (Option ℕ) Refusal) {u : List ℕ} → ends_as x u ≡ summed t s → {r : ℕ} {b : List ℕ} → (r ≡ told_number x) × (b ≡ answered (told_number x) (told_value x) a) → tally_leaves r u b ≡ summing t s a
  sum_told h k j x d p = told a x d p ∙ sums_settled (tally_test t) t s a ∙ roomy a s _ h j ∙ by_tally (le-leb tally_length (length t) k)
