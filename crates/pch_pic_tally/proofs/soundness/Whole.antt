-- Where no number is too great and no wait began behind all records, every number is sound.
use Rattle.basics.proofs.Prelude.{◌≡◌, refl, sym, ap, ◌∙◌, subst, false, cond, ◌&&◌, ◌||◌, List, ℕ, zero, suc, ◌+◌, ◌*◌, ◌/◌, ◌%◌, ◌^◌, ◌<◌, ◌≤◌, arith, max, bit_or, or_add_and, and_le_l, and_le_r, and-eq-true_iff, and-false, eqb, ltb, eqb-true, ltb-true, ltb-false, lt-leb, le-ltb, test}
use Rattle.passes.specs.tallies.Tally.{number_at, counted_in, of_open_wait, unsound, sound, wrong_at, first_unsound, tally_test}
use Rattle.pch_pic_tally.specs.soundness.Found.{NoneAbove, NoneLater}

-- what none of k numbers passes, none of one more does: that one is x
one_more : (at : ℕ → ℕ) (k r s x : ℕ) → ((j : ℕ) → j < k → at j ≤ r) → x ≡ at k → r ≤ s → x ≤ s → (j : ℕ) → j < k + 1 → at j ≤ s
one_more at k r s x h e low high j lt =
    test (ltb j k)
    (λ u. let b = h j (ltb-true j k u) in omega (arith, b, low))
    (λ u. let same : j ≡ k = omega (arith, lt, ltb-false j k u) in subst (λ n. n ≤ s) (e ∙ ap at (sym same)) high)

pub more_bits : (t : List ℕ) (k r x : ℕ) → ((j : ℕ) → j < k → number_at t j ≤ r) → x ≡ number_at t k → (j : ℕ) → j < k + 1 → number_at t j ≤ bit_or r x
more_bits t k r x h e = one_more (number_at t) k r (bit_or r x) x h e (omega (arith, or_add_and r x, and_le_r r x)) (omega (arith, or_add_and r x, and_le_l r x))

pub more_waits : (t : List ℕ) (n r x : ℕ) → ((j : ℕ) → j < n → number_at t (10 * j + 9) ≤ r) → x ≡ number_at t (10 * n + 9) → (j : ℕ) → j < n + 1 → number_at t (10 * j + 9) ≤ max r x
more_waits t n r x h e = one_more (λ j. number_at t (10 * j + 9)) n r (max r x) x h e (omega arith) (omega arith)

module _ (t : List ℕ) {r w : ℕ} (bits : NoneAbove t r) (waits : NoneLater t w) (small : r < 2 ^ 63) (early : w ≤ counted_in t) where
  -- a number of an open wait is that of an input
  in_time : (k : ℕ) → (of_open_wait k && ltb (counted_in t) (number_at t k)) ≡ false
  in_time k =
      test (of_open_wait k)
      (λ u. let both = (and-eq-true_iff (eqb (k % 10) 9) (ltb k 640)).0 u in
      let nine = eqb-true (k % 10) 9 both.0 in
      let low = ltb-true k 640 both.1 in
      let n = k / 10 in
      let here : 10 * n + 9 ≡ k = omega (arith, nine) in
      let b = waits n (omega (arith, low)) in
      let late : number_at t k ≤ counted_in t = subst (λ j. number_at t j ≤ counted_in t) here (omega (arith, b, early)) in
      ap (λ x. of_open_wait k && x) (le-ltb (counted_in t) (number_at t k) late) ∙ and-false (of_open_wait k))
      (λ u. ap (λ x. x && ltb (counted_in t) (number_at t k)) u)

  fine : (k : ℕ) → k < 650 → unsound t k ≡ false
  fine k h = let b = bits k h in (λ i. lt-leb (2 ^ 63) (number_at t k) (omega (arith, b, small)) i || in_time k i)

  none_found : (m k : ℕ) → k + m ≤ 650 → sound ≡ first_unsound t m k
  unfolding first_unsound
  none_found zero k h = refl
  none_found (suc m) k h = none_found m (suc k) (omega (arith, h)) ∙ sym (ap (λ b. cond b (wrong_at (8 * k)) (first_unsound t m (suc k))) (fine k (omega (arith, h))))

  pub whole : sound ≡ tally_test t
  whole = none_found 650 0 (omega arith)
