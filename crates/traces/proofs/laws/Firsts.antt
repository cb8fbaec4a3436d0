-- The first bad one: found by looking at one after another, and what it is that it was found.
use Rattle.basics.proofs.Prelude.{◌≡◌, refl, sym, subst, Bool, true, false, ℕ, zero, suc, ◌+◌, ◌<◌, ◌≤◌, arith, eqb, eqb-true, eqb-false, test}
use Rattle.traces.specs.Trace.{first_bad}
use Rattle.traces.proofs.laws.Computed as computed

module _ (bad : ℕ → Bool) where
  pub first_end : (k : ℕ) → first_bad bad 0 k ≡ k
  unfolding first_bad
  first_end k = refl

  pub first_here : (n k : ℕ) → bad k ≡ true → first_bad bad (suc n) k ≡ k
  unfolding first_bad
  first_here n k e = rw e

  pub first_on : (n k : ℕ) → bad k ≡ false → first_bad bad (suc n) k ≡ first_bad bad n (suc k)
  unfolding first_bad
  first_on n k e = rw e

  -- j is the first bad one of n from k on, or the one behind them
  pub record First (n k j : ℕ) : Type 0 where
    pub from : k ≤ j
    pub reach : j ≤ k + n
    pub before : (m : ℕ) → k ≤ m → m < j → bad m ≡ false
    pub here : j < k + n → bad j ≡ true

  pub first_found : (n k : ℕ) → First n k (first_bad bad n k)
  first_found zero k = subst (First 0 k) (sym (first_end k)) (record { from = omega arith; reach = omega arith; before = λ m g h. absurd (omega arith); here = λ h. absurd (omega arith) })
  first_found (suc n) k =
      test (bad k)
      (λ t. subst (First (suc n) k) (sym (first_here n k t)) (record { from = omega arith; reach = omega arith; before = λ m g h. absurd (omega arith); here = λ h. t }))
      (λ t. subst (First (suc n) k) (sym (first_on n k t)) (behind t (first_found n (suc k))))
    where
      behind : {j : ℕ} → bad k ≡ false → First n (suc k) j → First (suc n) k j
      behind t f =
          record {
            from = omega (arith, f.from);
            reach = omega (arith, f.reach);
            before = λ m g h. test (eqb m k) (λ e. let s = eqb-true m k e in rw s t) (λ e. f.before m (omega (arith, eqb-false m k e)) h);
            here = λ h. f.here (omega arith);
          }
