-- Two lists in one, and numbered events put in order: whatever the order in which they were collected, by rising number they stand as they were made.
use Rattle.basics.proofs.Prelude.{◌≡◌, refl, ap, ◌∙◌, cond, List, [], ◌∷◌, ◌++◌, map, ℕ, zero, suc, ◌<◌, arith}
use Rattle.rules.specs.{Numbering.Numbered, Device.up_from}
use Rattle.order.specs.Fates.{Fate, is_returned, is_kept, is_dropped, Placed, with_fate}
use Rattle.boards.specs.Hearing.{Interleaves, neither, first, second, inserted, by_number}
use Rattle.boards.specs.Collected.{not_after}
use Rattle.order.specs.Sorted.{Rearranged, same, behind, exchanged, both, put_by, sorted_by}
use Rattle.order.proofs.laws.Sorting.{in_front_lem, Above, Rising, sort_restores}

-- ---- two lists in one

pub interleaves_map : {A B : Type 0} (f : A → B) {xs ys zs : List A} → Interleaves xs ys zs → Interleaves (map f xs) (map f ys) (map f zs)
interleaves_map f neither = neither
interleaves_map f (first i) = first (interleaves_map f i)
interleaves_map f (second i) = second (interleaves_map f i)

-- of events of which none is dropped, those returned and those kept are all
pub by_fate : (xs : List Placed) → with_fate is_dropped xs ≡ [] → Interleaves (with_fate is_returned xs) (with_fate is_kept xs) xs
by_fate [] e = neither
by_fate (x ∷ xs) e = go x.fate refl (λ none. by_fate xs none)
  where
    go : (f : Fate) → x.fate ≡ f → (with_fate is_dropped xs ≡ [] → Interleaves (with_fate is_returned xs) (with_fate is_kept xs) xs)
        → Interleaves (with_fate is_returned (x ∷ xs)) (with_fate is_kept (x ∷ xs)) (x ∷ xs)
    go is_returned t next = rw t (first (next (rw t at e)))
    go is_kept t next = rw t (second (next (rw t at e)))
    go is_dropped t next = absurd (let none = rw t at e in let z : ◌≡◌ {A = ℕ} 0 1 = cc in omega arith)

-- ---- a list in another order

-- two lists in one are both, one behind the other, in another order
pub interleaved_rearranged : {A : Type 0} {xs ys zs : List A} → Interleaves xs ys zs → Rearranged (xs ++ ys) zs
interleaved_rearranged neither = same
interleaved_rearranged (first i) = behind (interleaved_rearranged i)
interleaved_rearranged (second {x = y} {xs = xs} {ys = ys} i) = both (in_front_lem xs y ys) (behind (interleaved_rearranged i))

-- what is in another order can be brought back
pub rearranged_back : {A : Type 0} {xs ys : List A} → Rearranged xs ys → Rearranged ys xs
rearranged_back same = same
rearranged_back (behind r) = behind (rearranged_back r)
rearranged_back exchanged = exchanged
rearranged_back (both r s) = both (rearranged_back s) (rearranged_back r)

-- ---- by rising number

-- by number is sorted by number
inserted_is : (x : Numbered) (ys : List Numbered) → inserted x ys ≡ put_by not_after x ys
unfolding inserted put_by
inserted_is x [] = refl
inserted_is x (y ∷ ys) = ap (λ l. cond (not_after x y) (x ∷ y ∷ ys) (y ∷ l)) (inserted_is x ys)

by_number_is : (es : List Numbered) → by_number es ≡ sorted_by not_after es
unfolding by_number sorted_by
by_number_is [] = refl
by_number_is (x ∷ es) = inserted_is x (by_number es) ∙ ap (put_by not_after x) (by_number_is es)

abbrev number_of : Numbered → ℕ
number_of x = x.number

abbrev Higher : ℕ → List Numbered → Type 0
Higher = Above not_after number_of (λ x y. refl)

abbrev InRise : List Numbered → Type 0
InRise = Rising not_after number_of (λ x y. refl)

-- numbers one after another rise
counted_above : (n p k : ℕ) (c : List Numbered) → map (λ x. x.number) c ≡ up_from p k → n < p → Higher n c
unfolding up_from
counted_above n p k [] e h = tt
counted_above n p zero (y ∷ c) e h = absurd (let z : ◌≡◌ {A = ℕ} 0 1 = cc in omega arith)
counted_above n p (suc k) (y ∷ c) e h = let same : y.number ≡ p = cc in (omega (arith, same), counted_above n (suc p) k c (cc) (omega arith))

counted_rise : (p k : ℕ) (c : List Numbered) → map (λ x. x.number) c ≡ up_from p k → InRise c
unfolding up_from
counted_rise p k [] e = tt
counted_rise p zero (y ∷ c) e = absurd (let z : ◌≡◌ {A = ℕ} 0 1 = cc in omega arith)
counted_rise p (suc k) (y ∷ c) e =
    let same : y.number ≡ p = cc in
    (counted_above y.number (suc p) k c (cc) (omega (arith, same)), counted_rise (suc p) k c cc)

-- events numbered from p on, in whatever order they were collected: by rising number they stand as they were numbered
pub sorted_restored : {es c : List Numbered} → Rearranged es c → (p k : ℕ) → map (λ x. x.number) c ≡ up_from p k → by_number es ≡ c
sorted_restored {es = es} {c = c} r p k e = by_number_is es ∙ sort_restores not_after number_of (λ x y. refl) r (counted_rise p k c e)

-- events numbered from p on, collected in two lists and in whatever order then: by rising number they stand as they were numbered
pub order_restored : {xs ys es c : List Numbered} → Interleaves xs ys es → Interleaves xs ys c → (p k : ℕ) → map (λ x. x.number) c ≡ up_from p k → by_number es ≡ c
order_restored i j p k e = sorted_restored (both (rearranged_back (interleaved_rearranged i)) (interleaved_rearranged j)) p k e
