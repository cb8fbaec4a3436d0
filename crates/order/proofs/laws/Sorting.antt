-- Sorting by a key (02, C-19, C-20): where of two events that comes first which has the lower key, and no two have the same, any order of collecting is sorted to the one in which the keys rise.
use Rattle.basics.proofs.Prelude.{◌≡◌, refl, sym, ap, ◌∙◌, Bool, true, false, cond, List, [], ◌∷◌, ◌++◌, ℕ, suc, ◌<◌, ◌≤◌, arith, eqb, leb, lit≤, eq-eqb, eqb-true, eqb-false, ne_eqb, le-leb, lt-leb, leb-true, leb-false, test}
use Rattle.rules.specs.Numbering.{Numbered}
use Rattle.order.specs.Sorted.{Rearranged, same, behind, exchanged, both, put_by, sorted_by}
use Rattle.order.proofs.laws.Computed as computed

module _ (not_after : Numbered → Numbered → Bool) (key : Numbered → ℕ) (tells : (x y : Numbered) → not_after x y ≡ leb (key x) (key y)) where
  -- ---- each key once

  abbrev once : ℕ → Numbered → ℕ → ℕ
  once n x k = cond (eqb (key x) n) (suc k) k

  times : ℕ → List Numbered → ℕ
  times n [] = 0
  times n (x ∷ xs) = once n x (times n xs)

  abbrev Distinct : List Numbered → Type 0
  Distinct xs = (n : ℕ) → times n xs ≤ 1

  same_times : {xs ys : List Numbered} → Rearranged xs ys → (n : ℕ) → times n xs ≡ times n ys
  unfolding times
  same_times same n = refl
  same_times (behind {x = x} r) n = ap (once n x) (same_times r n)
  same_times (exchanged {x = x} {y = y} {xs = xs}) n = turn_round (eqb (key x) n) (eqb (key y) n) (times n xs)
    where
      turn_round : (s t : Bool) (k : ℕ) → cond s (suc (cond t (suc k) k)) (cond t (suc k) k) ≡ cond t (suc (cond s (suc k) k)) (cond s (suc k) k)
      turn_round true true k = refl
      turn_round true false k = refl
      turn_round false true k = refl
      turn_round false false k = refl
  same_times (both r s) n = same_times r n ∙ same_times s n

  -- ---- two are put in, either first

  low : (x y : Numbered) → key x ≤ key y → not_after x y ≡ true
  low x y h = tells x y ∙ le-leb (key x) (key y) h

  high : (x y : Numbered) → key y < key x → not_after x y ≡ false
  high x y h = tells x y ∙ lt-leb (key x) (key y) h

  lower_in : (x y : Numbered) (l : List Numbered) → key x < key y → put_by not_after x (put_by not_after y l) ≡ put_by not_after y (put_by not_after x l)
  unfolding put_by
  lower_in x y [] h = rw (low x y (omega arith), high y x h)
  lower_in x y (z ∷ l) h =
      test (not_after y z)
      (λ t. let below : not_after x z ≡ true = low x z (omega (arith, h, leb-true (key y) (key z) (sym (tells y z) ∙ t))) in
      rw (t, below, low x y (omega arith), high y x h, t))
      (λ t. test (not_after x z) (λ u. rw (t, u, high y x h, t)) (λ u. rw (t, u, t) (ap (λ k. z ∷ k) (lower_in x y l h))))

  swap_in : (x y : Numbered) (l : List Numbered) → (key x ≡ key y → ⊥) → put_by not_after x (put_by not_after y l) ≡ put_by not_after y (put_by not_after x l)
  swap_in x y l n =
      test (leb (key x) (key y)) (λ t. lower_in x y l (below (leb-true (key x) (key y) t))) (λ t. sym (lower_in y x l (omega (arith, leb-false (key x) (key y) t))))
    where
      below : key x ≤ key y → key x < key y
      below h = test (eqb (key x) (key y)) (λ e. absurd (n (eqb-true (key x) (key y) e))) (λ e. omega (arith, h, eqb-false (key x) (key y) e))

  -- ---- rising keys

  -- all have keys over n; each has a lower key than those behind it
  abbrev pub Above : ℕ → List Numbered → Type 0
  Above n [] = Unit {0}
  Above n (y ∷ ys) = (n < key y) × Above n ys

  abbrev pub Rising : List Numbered → Type 0
  Rising [] = Unit {0}
  Rising (y ∷ ys) = Above (key y) ys × Rising ys

  first_stays : (x : Numbered) (ys : List Numbered) → Above (key x) ys → put_by not_after x ys ≡ x ∷ ys
  unfolding put_by
  first_stays x [] r = refl
  first_stays x (y ∷ ys) r = rw (low x y (omega (arith, r.0)))

  sorted_stays : (c : List Numbered) → Rising c → sorted_by not_after c ≡ c
  unfolding sorted_by
  sorted_stays [] r = refl
  sorted_stays (x ∷ c) r = ap (put_by not_after x) (sorted_stays c r.1) ∙ first_stays x c r.0

  none_above : (n : ℕ) (m : ℕ) (c : List Numbered) → Above m c → n ≤ m → times n c ≡ 0
  unfolding times
  none_above n m [] r h = refl
  none_above n m (y ∷ c) r h = ap (λ t. cond t (suc (times n c)) (times n c)) (ne_eqb (key y) n (λ z. omega (arith, r.0, h, z))) ∙ none_above n m c r.1 h

  rising_once : (c : List Numbered) → Rising c → Distinct c
  unfolding times
  rising_once [] r n = lit≤ tt
  rising_once (y ∷ c) r n =
      test (eqb (key y) n) (λ t. rw t (omega (arith, none_above n (key y) c r.0 (omega (arith, eqb-true (key y) n t))))) (λ t. rw t (rising_once c r.1 n))

  -- ---- sorted

  sort_alike : {xs ys : List Numbered} → Rearranged xs ys → Distinct xs → sorted_by not_after xs ≡ sorted_by not_after ys
  unfolding sorted_by times
  sort_alike same d = refl
  sort_alike (behind {x = x} {xs = xs} r) d = ap (put_by not_after x) (sort_alike r (λ n. fewer (eqb (key x) n) (times n xs) (d n)))
    where
      fewer : (t : Bool) (k : ℕ) → cond t (suc k) k ≤ 1 → k ≤ 1
      fewer true k h = omega (arith, h)
      fewer false k h = h
  sort_alike (exchanged {x = x} {y = y} {xs = xs}) d =
      swap_in x y (sorted_by not_after xs) (λ e. let z : suc (suc (times (key y) xs)) ≤ 1 = rw (eq-eqb (key x) (key y) e, eq-eqb (key y) (key y) refl) at (d (key y)) in omega (arith, z))
  sort_alike (both r s) d = sort_alike r d ∙ sort_alike s (λ n. rw (← same_times r n) (d n))

  -- In whatever order they were collected, they stand sorted with their keys rising.
  pub sort_restores : {es c : List Numbered} → Rearranged es c → Rising c → sorted_by not_after es ≡ c
  sort_restores {c = c} r u = sort_alike r (λ n. rw (same_times r n) (rising_once c u n)) ∙ sorted_stays c u

-- ---- a list in another order

-- the first of the second list, before all of the first
pub in_front_lem : {A : Type 0} (xs : List A) (y : A) (ys : List A) → Rearranged (xs ++ (y ∷ ys)) (y ∷ (xs ++ ys))
in_front_lem [] y ys = same
in_front_lem (x ∷ xs) y ys = both (behind (in_front_lem xs y ys)) exchanged
