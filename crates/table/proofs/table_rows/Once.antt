-- A rule of a table in rows of 32, proved at all of its entries by one test that computes.
use Rattle.basics.proofs.Prelude.{◌≡◌, ◌∙◌, subst, sym, Bool, true, List, [], ◌∷◌, ℕ, zero, suc, ◌+◌, ◌*◌, ◌/◌, ◌%◌, ◌<◌, add-zero, add-suc, suc-add, le_of_suc-le-suc, not-suc-le-zero, arith, T, eqb, eqb→eq, length, get_or}
use Rattle.table.specs.Meaning.{reading, meant, entry_at, Agrees}
use Rattle.table.proofs.table_rows.Same.{both, both_left, both_right, same, same_meaning}

-- the test f passes at each entry of a row and its place, counted from i
abbrev pub every : (ℕ → ℕ → Bool) → ℕ → List ℕ → Bool
every f i [] = true
every f i (x ∷ xs) = both (f i x) (every f (suc i) xs)

-- and at each entry of rows of 32, whose places are counted from i
abbrev pub rows : (ℕ → ℕ → Bool) → ℕ → List (List ℕ) → Bool
rows f i [] = true
rows f i (r ∷ rs) = both (eqb (length r) 32) (both (every f i r) (rows f (i + 32) rs))

module _ (f : ℕ → ℕ → Bool) where
  in_row : (xs : List ℕ) (i : ℕ) → T (every f i xs) → (k : ℕ) → k < length xs → T (f (i + k) (get_or xs k 0))
  in_row [] i t k h = absurd (not-suc-le-zero h)
  in_row (x ∷ xs) i t zero h = subst (λ (m : ℕ). T (f m x)) (sym (add-zero i)) (both_left (f i x) (every f (suc i) xs) t)
  in_row (x ∷ xs) i t (suc k) h =
      subst (λ (m : ℕ). T (f m (get_or xs k 0))) (suc-add i k ∙ sym (add-suc i k))
      (in_row xs (suc i) (both_right (f i x) (every f (suc i) xs) t) k (le_of_suc-le-suc h))

  in_rows : (rs : List (List ℕ)) (i : ℕ) → T (rows f i rs) → (k : ℕ) → k < length rs → (j : ℕ) → j < 32 → T (f (i + 32 * k + j) (get_or (get_or rs k []) j 0))
  in_rows [] i t k h j l = absurd (not-suc-le-zero h)
  in_rows (r ∷ rs) i t zero h j l =
      let u = both_right (eqb (length r) 32) _ t in
      let n = eqb→eq (length r) 32 (both_left (eqb (length r) 32) _ t) in
      let e : i + j ≡ i + 32 * 0 + j = omega arith in
      subst (λ (m : ℕ). T (f m (get_or r j 0))) e (in_row r i (both_left (every f i r) _ u) j (omega arith))
  in_rows (r ∷ rs) i t (suc k) h j l =
      let u = both_right (eqb (length r) 32) _ t in
      let e : i + 32 + 32 * k + j ≡ i + 32 * suc k + j = omega arith in
      subst (λ (m : ℕ). T (f m (get_or (get_or rs k []) j 0))) e (in_rows rs (i + 32) (both_right (every f i r) _ u) k (le_of_suc-le-suc h) j l)

-- what an entry tells is what the map says of its place
abbrev pub right : ℕ → ℕ → Bool
right o x = same (reading x) (meant o)

-- the test of the whole table is the rule at each entry
pub agrees : (rs : List (List ℕ)) → length rs ≡ 32 → T (rows right 0 rs) → Agrees rs
agrees rs n t = record {
  each = λ o h.
      let e : 0 + 32 * (o / 32) + o % 32 ≡ o = omega arith in
      same_meaning (reading (entry_at rs o)) (meant o)
      (subst (λ (m : ℕ). T (right m (entry_at rs o))) e (in_rows right rs 0 t (o / 32) (omega arith) (o % 32) (omega arith)));
}
