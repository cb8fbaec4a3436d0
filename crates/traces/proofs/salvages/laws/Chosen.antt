-- The blocks that are kept and those that are dropped, of any list of blocks.
use Rattle.basics.proofs.Prelude.{◌≡◌, refl, ap, ◌∙◌, Bool, true, false, not, List, [], ◌∷◌, ◌++◌, ℕ, suc, ◌+◌, ◌*◌, ◌≤◌, arith, length, length-append, test, Each}
use Rattle.traces.specs.salvages.Kept.{bad_in, all_good, front_if, kept, Dropped, dropped_from, listing, joined, entries}
use Rattle.traces.proofs.salvages.laws.Computed as computed

-- ---- one block more

pub kept_none : kept [] ≡ []
unfolding kept
kept_none = refl

pub kept_good : (x : List ℕ) (xs : List (List ℕ)) → all_good x ≡ true → kept (x ∷ xs) ≡ x ∷ kept xs
unfolding kept
kept_good x xs e = ap (λ t. front_if t x (kept xs)) e

pub kept_torn : (x : List ℕ) (xs : List (List ℕ)) → all_good x ≡ false → kept (x ∷ xs) ≡ kept xs
unfolding kept
kept_torn x xs e = ap (λ t. front_if t x (kept xs)) e

pub dropped_none : (b : ℕ) → dropped_from b [] ≡ []
unfolding dropped_from
dropped_none b = refl

pub dropped_good : (b : ℕ) (x : List ℕ) (xs : List (List ℕ)) → all_good x ≡ true → dropped_from b (x ∷ xs) ≡ dropped_from (suc b) xs
unfolding dropped_from
dropped_good b x xs e = ap (λ t. front_if (not t) (record { block = b; bad = bad_in x }) (dropped_from (suc b) xs)) e

pub dropped_torn : (b : ℕ) (x : List ℕ) (xs : List (List ℕ)) → all_good x ≡ false → dropped_from b (x ∷ xs) ≡ record { block = b; bad = bad_in x } ∷ dropped_from (suc b) xs
unfolding dropped_from
dropped_torn b x xs e = ap (λ t. front_if (not t) (record { block = b; bad = bad_in x }) (dropped_from (suc b) xs)) e

-- ---- what is kept

-- whatever all have, those that are kept have
pub kept_each : (P : List ℕ → Type 0) (xs : List (List ℕ)) → Each P xs → Each P (kept xs)
unfolding kept
kept_each P [] e = e
kept_each P (x ∷ xs) e = go (all_good x) (kept_each P xs e.1)
  where
    go : (t : Bool) → Each P (kept xs) → Each P (front_if t x (kept xs))
    go true r = (e.0, r)
    go false r = r

-- they are all good
pub kept_all_good : (xs : List (List ℕ)) → Each (λ x. all_good x ≡ true) (kept xs)
unfolding kept
kept_all_good [] = tt
kept_all_good (x ∷ xs) = go (all_good x) refl (kept_all_good xs)
  where
    go : (t : Bool) → all_good x ≡ t → Each (λ y. all_good y ≡ true) (kept xs) → Each (λ y. all_good y ≡ true) (front_if t x (kept xs))
    go true e r = (e, r)
    go false e r = r

-- where all are good, all are kept and none is dropped
pub good_kept : (xs : List (List ℕ)) → Each (λ x. all_good x ≡ true) xs → kept xs ≡ xs
good_kept [] e = kept_none
good_kept (x ∷ xs) e = kept_good x xs e.0 ∙ ap (λ ys. x ∷ ys) (good_kept xs e.1)

pub good_none_dropped : (b : ℕ) (xs : List (List ℕ)) → Each (λ x. all_good x ≡ true) xs → dropped_from b xs ≡ []
good_none_dropped b [] e = dropped_none b
good_none_dropped b (x ∷ xs) e = dropped_good b x xs e.0 ∙ good_none_dropped (suc b) xs e.1

-- so a second time changes nothing
pub kept_twice : (xs : List (List ℕ)) → kept (kept xs) ≡ kept xs
kept_twice xs = good_kept (kept xs) (kept_all_good xs)

-- ---- sizes

pub joined_none : joined [] ≡ []
unfolding joined
joined_none = refl

pub joined_front : (x : List ℕ) (xs : List (List ℕ)) → joined (x ∷ xs) ≡ x ++ joined xs
unfolding joined
joined_front x xs = refl

pub length_joined : (x : List ℕ) (xs : List (List ℕ)) → length (joined (x ∷ xs)) ≡ length x + length (joined xs)
length_joined x xs = ap length (joined_front x xs) ∙ length-append x (joined xs)

-- each block is kept or dropped
pub kept_or_dropped : (b : ℕ) (xs : List (List ℕ)) → length (kept xs) + length (dropped_from b xs) ≡ length xs
kept_or_dropped b [] = (λ t. length (kept_none t) + length (dropped_none b t))
kept_or_dropped b (x ∷ xs) =
    test (all_good x)
    (λ e. omega (arith, ap length (kept_good x xs e), ap length (dropped_good b x xs e), kept_or_dropped (suc b) xs))
    (λ e. omega (arith, ap length (kept_torn x xs e), ap length (dropped_torn b x xs e), kept_or_dropped (suc b) xs))

pub kept_shorter : (xs : List (List ℕ)) → length (joined (kept xs)) ≤ length (joined xs)
kept_shorter [] = (rw kept_none (omega arith))
kept_shorter (x ∷ xs) =
    let r = kept_shorter xs in
    test (all_good x)
    (λ e. rw (kept_good x xs e) (omega (arith, r, length_joined x xs, length_joined x (kept xs))))
    (λ e. rw (kept_torn x xs e) (omega (arith, r, length_joined x xs)))

pub length_listing : (at : ℕ) (xs : List (List ℕ)) → length (listing at xs) ≡ 4 * length xs
unfolding listing
length_listing at [] = refl
length_listing at (x ∷ xs) = omega (arith, length_listing (at + length x) xs)

pub length_entries : (ds : List Dropped) → length (entries ds) ≡ 4 * length ds
unfolding entries
length_entries [] = refl
length_entries (d ∷ ds) = omega (arith, length_entries ds)
