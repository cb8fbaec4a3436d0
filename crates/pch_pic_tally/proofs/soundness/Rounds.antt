-- The rounds of the test: what is left to test finds what the whole test finds.
use Rattle.basics.proofs.Prelude.{◌≡◌, sym, ap, ◌∙◌, Bool, true, false, cond, List, ℕ, suc, ◌+◌, ◌-◌, ◌*◌, ◌<◌, ◌≤◌, arith}
use Rattle.passes.specs.tallies.Tally.{number_at, counted_in, unsound, sound, wrong_at, first_unsound, tally_test}
use Rattle.pch_pic_tally.specs.soundness.Found.{wrong_number}

-- so far none was found
abbrev pub Sofar : List ℕ → ℕ → Type 0
Sofar t k = (k ≤ 650) × (first_unsound t (650 - k) k ≡ tally_test t)

module _ (t : List ℕ) (k : ℕ) (q : Sofar t k) where
  pub all_tested : 650 ≤ k → sound ≡ tally_test t
  unfolding first_unsound
  all_tested h = let z : 650 - k ≡ 0 = omega (arith, h) in ap (λ m. first_unsound t m k) (sym z) ∙ q.1

  module _ (lt : k < 650) {x n : ℕ} (e : x ≡ number_at t k) (f : n ≡ counted_in t) where
    one : {b : Bool} → wrong_number x k n ≡ b → cond b (wrong_at (8 * k)) (first_unsound t (650 - (k + 1)) (k + 1)) ≡ tally_test t
    unfolding first_unsound
    one {b} u =
        let z : 650 - k ≡ suc (650 - (k + 1)) = omega (arith, lt) in
        let y : k + 1 ≡ suc k = omega arith in
        let w : wrong_number x k n ≡ unsound t k = (λ i. wrong_number (e i) k (f i)) in
        (λ i. cond ((sym u ∙ w) i) (wrong_at (8 * k)) (first_unsound t (650 - (k + 1)) (y i))) ∙ ap (λ m. first_unsound t m k) (sym z) ∙ q.1

    pub found_here : {b : Bool} → b ≡ wrong_number x k n → b ≡ true → wrong_at (8 * k) ≡ tally_test t
    found_here u v = one (sym u ∙ v)

    pub found_later : {b : Bool} → b ≡ wrong_number x k n → b ≡ false → Sofar t (k + 1)
    found_later u v = (omega (arith, lt), one (sym u ∙ v))
