-- Counts over events with numbers: every event made has one of the three fates, numbers of at most 65,536 positions differ, and so the missing numbers are known
-- from what is counted.
use Rattle.basics.proofs.Prelude.{◌≡◌, refl, sym, ap, ◌∙◌, Bool, cond, not, ◌&&◌, ◌||◌, and-false, List, [], ◌∷◌, ◌++◌, map, ℕ, zero, suc, ◌+◌, ◌<◌, ◌≤◌, arith, eqb, ltb, lt-ltb, eqb-true, ne_eqb, test}
use Rattle.rules.{specs.Device.up_from, specs.Numbering.Numbered, specs.Account.tally, proofs.laws.Counts.tally_append, proofs.laws.Counts.tally_nil}
use Rattle.order.specs.{Fates.Fate, Fates.Placed, Fates.is_returned, Fates.is_kept, Fates.is_dropped, Fates.with_fate, Numbered.number_at, Numbered.all_from, Numbered.some_has}

-- ---- one of three fates

pub three_fates : (q : Numbered → Bool) (start : ℕ) (xs : List Placed) → tally q (all_from start xs)
    ≡ tally q (all_from start (with_fate is_returned xs)) + tally q (all_from start (with_fate is_kept xs)) + tally q (all_from start (with_fate is_dropped xs))
unfolding tally
three_fates q start [] = refl
three_fates q start (x ∷ xs) = go x.fate refl (three_fates q start xs)
  where
    go : (f : Fate) → x.fate ≡ f → tally q (all_from start xs)
        ≡ tally q (all_from start (with_fate is_returned xs)) + tally q (all_from start (with_fate is_kept xs)) + tally q (all_from start (with_fate is_dropped xs))
        → tally q (all_from start (x ∷ xs))
        ≡ tally q (all_from start (with_fate is_returned (x ∷ xs))) + tally q (all_from start (with_fate is_kept (x ∷ xs))) + tally q (all_from start (with_fate is_dropped (x ∷ xs)))
    go is_returned e rest = rw e (omega (arith, rest))
    go is_kept e rest = rw e (omega (arith, rest))
    go is_dropped e rest = rw e (omega (arith, rest))

-- ---- numbers that differ

-- positions fewer than 65,536 apart have different numbers
pub numbers_differ : (start p q : ℕ) → p < q → q < p + 65536 → number_at start p ≡ number_at start q → ⊥
numbers_differ start p q h k e = omega arith

none_later : (start p n q k : ℕ) → number_at start p ≡ n → p < q → q + k ≤ p + 65536 → tally (λ i. eqb (number_at start i) n) (up_from q k) ≡ 0
unfolding tally up_from
none_later start p n q zero e h l = refl
none_later start p n q (suc k) e h l =
    let other = ne_eqb (number_at start q) n (λ same. numbers_differ start p q h (omega arith) (e ∙ sym same)) in
    rw other (omega (arith, none_later start p n (suc q) k e (omega arith) (omega arith)))

-- among the numbers of at most 65,536 positions one after another each stands once at most
pub once : (start n p k : ℕ) → k ≤ 65536 → tally (λ i. eqb (number_at start i) n) (up_from p k) ≤ 1
unfolding tally up_from
once start n p zero h = omega arith
once start n p (suc k) h =
    test (eqb (number_at start p) n)
    (λ t. rw t (omega (arith, none_later start p n (suc p) k (eqb-true (number_at start p) n t) (omega arith) (omega arith))))
    (λ t. rw t (omega (arith, once start n (suc p) k (omega arith))))

-- ---- some event has a number

abbrev has_number : ℕ → Numbered → Bool
has_number n x = eqb x.number n

has_counted : (n : ℕ) (xs : List Numbered) → some_has n xs ≡ ltb 0 (tally (has_number n) xs)
unfolding tally
has_counted n [] = refl
has_counted n (x ∷ xs) =
    test (eqb x.number n) (λ t. rw t (sym (lt-ltb 0 (1 + tally (has_number n) xs) (omega arith))))
    (λ t. let same : 0 + tally (has_number n) xs ≡ tally (has_number n) xs = omega arith in rw (t, same) (has_counted n xs))

-- a: returned, b: drained, c: dropped, e: waiting
only_one : (a b c e all : ℕ) → a + b + c + e ≡ all → all ≤ 1 → (ltb 0 all && not (ltb 0 a || ltb 0 b)) ≡ (ltb 0 c || ltb 0 e)
only_one (suc a) b c e all s h =
    let zc : c ≡ 0 = omega arith in
    let ze : e ≡ 0 = omega arith in
    rw (zc, ze, lt-ltb 0 (suc a) (omega arith)) (and-false (ltb 0 all))
only_one zero (suc b) c e all s h =
    let zc : c ≡ 0 = omega arith in
    let ze : e ≡ 0 = omega arith in
    rw (zc, ze, lt-ltb 0 (suc b) (omega arith)) (and-false (ltb 0 all))
only_one zero zero (suc c) e all s h = rw (lt-ltb 0 all (omega arith), lt-ltb 0 (suc c) (omega arith))
only_one zero zero zero (suc e) all s h = rw (lt-ltb 0 all (omega arith), lt-ltb 0 (suc e) (omega arith))
only_one zero zero zero zero all s h = let z : all ≡ 0 = omega arith in rw z

-- ---- from the equations

positions_counted : (start n : ℕ) (xs : List Placed) → tally (has_number n) (all_from start xs) ≡ tally (λ i. eqb (number_at start i) n) (map (λ x. x.position) xs)
unfolding tally
positions_counted start n [] = refl
positions_counted start n (x ∷ xs) = ap (λ k. cond (eqb (number_at start x.position) n) 1 0 + k) (positions_counted start n xs)

-- what is counted follows from what was returned, and what was drained or waits
module _ (start : ℕ) (made : List Placed) (back drained now before : List Numbered)
    (returned : back ≡ all_from start (with_fate is_returned made)) (order : drained ++ now ≡ before ++ all_from start (with_fate is_kept made)) where
  pub counted : (q : Numbered → Bool) → tally q back + tally q drained + tally q (all_from start (with_fate is_dropped made)) + tally q now ≡ tally q (all_from start made) + tally q before
  counted q =
      omega (
        arith,
        three_fates q start made,
        ap (tally q) returned,
        ap (tally q) order,
        tally_append q drained now,
        tally_append q before (all_from start (with_fate is_kept made)),
      )

  pub missing_ones : before ≡ [] → (p k : ℕ) → map (λ x. x.position) made ≡ up_from p k → k ≤ 65536 → (n : ℕ)
      → (some_has n (all_from start made) && not (some_has n back || some_has n drained)) ≡ (some_has n (all_from start (with_fate is_dropped made)) || some_has n now)
  missing_ones none p k at few n =
      let lost = all_from start (with_fate is_dropped made) in
      let most = positions_counted start n made ∙ ap (tally (λ i. eqb (number_at start i) n)) at in
      rw (has_counted n (all_from start made), has_counted n back, has_counted n drained, has_counted n lost, has_counted n now)
      (only_one (tally (has_number n) back) (tally (has_number n) drained) (tally (has_number n) lost) (tally (has_number n) now) (tally (has_number n) (all_from start made))
      (omega (arith, counted (has_number n), ap (tally (has_number n)) none, tally_nil (has_number n))) (omega (arith, most, once start n p k few)))
