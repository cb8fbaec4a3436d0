-- The bytes of rows, read back: where a row and a column stand, and the number there.
use Rattle.basics.proofs.Prelude.{◌≡◌, refl, sym, ap, ◌∙◌, List, ◌++◌, ℕ, zero, suc, ◌+◌, ◌*◌, ◌%◌, ◌^◌, ◌<◌, ◌≤◌, arith, ltb, length, take, drop, length-append, length-drop, take_all, drop_at, take-append-le, drop-append-le, ltb-true, ltb-false, number_of, bytes_of, part, test, part_part, true, mul-le-mul_left}
use Rattle.sheets.specs.Sheet.{Row, column_of, bytes_of_row, rows_below}
use Rattle.passes.specs.tallies.{Grid.Grid, Grid.cell_place, Tally.numbers_of, Tally.row_in, Tally.tally_bytes}
use Rattle.passes.proofs.{laws.Bytes.below_ten, tallies.laws.Grids.number_low}

pub part_left : (xs ys : List ℕ) (m n : ℕ) → m + n ≤ length xs → part m n (xs ++ ys) ≡ part m n xs
part_left xs ys m n h = ap (take n) (drop-append-le m xs ys (omega (arith, h))) ∙ take-append-le n (drop m xs) ys (simp length-drop (omega (arith, h)))

pub part_right : (xs ys : List ℕ) (m n : ℕ) → length xs ≡ m → length ys ≤ n → part m n (xs ++ ys) ≡ ys
part_right xs ys m n e h = ap (take n) (drop_at xs ys m e) ∙ take_all n ys h

-- rows of e bytes, of numbers of j bytes
module _ (j e : ℕ) (sized : (r : Row) → length (bytes_of_row j r) ≡ e) where
  pub rows_length : (k : ℕ) (f : ℕ → Row) → length (rows_below j k f) ≡ e * k
  unfolding rows_below
  rows_length zero f = omega arith
  rows_length (suc k) f = omega (arith, length-append (rows_below j k f) (bytes_of_row j (f k)), rows_length k f, sized (f k))

  pub row_in_lem : (k : ℕ) (f : ℕ → Row) (n : ℕ) → n < k → part (e * n) e (rows_below j k f) ≡ bytes_of_row j (f n)
  unfolding rows_below
  row_in_lem zero f n h = absurd (omega arith)
  row_in_lem (suc k) f n h =
      test (ltb n k)
      (λ t. let p = ltb-true n k t in part_left (rows_below j k f) (bytes_of_row j (f k)) (e * n) e (inside n k p (rows_length k f)) ∙ row_in_lem k f n p)
      (λ t.
      let z : k ≡ n = omega (arith, h, ltb-false n k t) in
      part_right (rows_below j k f) (bytes_of_row j (f k)) (e * n) e (rows_length k f ∙ ap (λ m. e * m) z) (omega (arith, sized (f k))) ∙ ap (λ m. bytes_of_row j (f m)) z)
    where
      inside : (n k : ℕ) → n < k → {x : ℕ} → x ≡ e * k → e * n + e ≤ x
      inside n k p {x} q = let s : e * suc n ≤ e * k = mul-le-mul_left e p in omega (arith, s, q)

-- a row of numbers of eight bytes, of four
pub eight_sized : (r : Row) → length (bytes_of_row 8 r) ≡ 80
eight_sized r = refl

pub four_sized : (r : Row) → length (bytes_of_row 4 r) ≡ 40
four_sized r = refl

pub cell_of_eight : (r : Row) (c : ℕ) → c < 10 → part (8 * c) 8 (bytes_of_row 8 r) ≡ bytes_of 8 (column_of r c)
cell_of_eight r = below_ten (λ c. part (8 * c) 8 (bytes_of_row 8 r) ≡ bytes_of 8 (column_of r c)) refl refl refl refl refl refl refl refl refl refl

pub cell_of_four : (r : Row) (c : ℕ) → c < 10 → part (4 * c) 4 (bytes_of_row 4 r) ≡ bytes_of 4 (column_of r c)
cell_of_four r = below_ten (λ c. part (4 * c) 4 (bytes_of_row 4 r) ≡ bytes_of 4 (column_of r c)) refl refl refl refl refl refl refl refl refl refl

-- the numbers of a tally that is written, with bytes behind it
pub number_in : (f : ℕ → Row) (rest : List ℕ) (n c : ℕ) → n < 65 → c < 10 → numbers_of (rows_below 8 65 f ++ rest) n c ≡ column_of (f n) c % 2 ^ 64
number_in f rest n c p q =
    let l = rows_below 8 65 f in
    let row : part (80 * n) 80 (l ++ rest) ≡ bytes_of_row 8 (f n) = part_left l rest (80 * n) 80 (omega (arith, p, rows_length 8 80 eight_sized 65 f)) ∙ row_in_lem 8 80 eight_sized 65 f n p in
    ap number_of (sym (part_part (l ++ rest) (80 * n) 80 (8 * c) 8 (omega (arith, q))) ∙ ap (part (8 * c) 8) row ∙ cell_of_eight (f n) c q) ∙ number_low true (column_of (f n) c)
