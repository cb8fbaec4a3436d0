-- Bytes that hold a grid, row by row, are the bytes of a sheet.
use Rattle.basics.proofs.Prelude.{◌≡◌, refl, sym, ap, ◌∙◌, Bool, true, false, List, [], ◌++◌, append_assoc, ℕ, zero, suc, ◌+◌, ◌*◌, ◌<◌, arith, drop, bytes_of, part, part_add, part_then}
use Rattle.sheets.specs.Sheet.{Row, empty_row, column_of, total_below, bytes_of_row, rows_below, sheet_bytes}
use Rattle.passes.specs.tallies.{Grid.Grid, Grid.cell_bytes, Grid.Holds, Tally.row_in, Tally.tally_bytes}

-- ---- ten columns

pub below_ten : (P : ℕ → Type 0) → P 0 → P 1 → P 2 → P 3 → P 4 → P 5 → P 6 → P 7 → P 8 → P 9 → (c : ℕ) → c < 10 → P c
below_ten P a b c d e f g h i j zero q = a
below_ten P a b c d e f g h i j (suc zero) q = b
below_ten P a b c d e f g h i j (suc (suc zero)) q = c
below_ten P a b c d e f g h i j (suc (suc (suc zero))) q = d
below_ten P a b c d e f g h i j (suc (suc (suc (suc zero)))) q = e
below_ten P a b c d e f g h i j (suc (suc (suc (suc (suc zero))))) q = f
below_ten P a b c d e f g h i j (suc (suc (suc (suc (suc (suc zero)))))) q = g
below_ten P a b c d e f g h i j (suc (suc (suc (suc (suc (suc (suc zero))))))) q = h
below_ten P a b c d e f g h i j (suc (suc (suc (suc (suc (suc (suc (suc zero)))))))) q = i
below_ten P a b c d e f g h i j (suc (suc (suc (suc (suc (suc (suc (suc (suc zero))))))))) q = j
below_ten P a b c d e f g h i j (suc (suc (suc (suc (suc (suc (suc (suc (suc (suc k)))))))))) q = absurd (omega (arith, q))

-- the bytes of the first k of them, each of j bytes
numbers_below : ℕ → ℕ → (ℕ → ℕ) → List ℕ
numbers_below j zero g = []
numbers_below j (suc k) g = numbers_below j k g ++ bytes_of j (g k)

-- a row's are ten of them
abbrev TenOf : ℕ → Type 0
TenOf j = (r : Row) → numbers_below j 10 (column_of r) ≡ bytes_of_row j r

ten_of_four : TenOf 4
unfolding numbers_below
ten_of_four r = refl

ten_of_eight : TenOf 8
unfolding numbers_below
ten_of_eight r = refl

-- with bytes behind them
split_at : (l : List ℕ) (a b : ℕ) → l ≡ part 0 a l ++ (part a b l ++ drop (a + b) l)
split_at l a b =
    let y : 0 + a ≡ a = omega arith in
    sym (part_then l 0 a) ∙ ap (λ m. part 0 a l ++ m) (ap (λ k. drop k l) y ∙ sym (part_then l a b))

module _ (j : ℕ) (its : TenOf j) (l : List ℕ) where
  numbers_part : (a k : ℕ) (g : ℕ → ℕ) → ((c : ℕ) → c < k → part (a + j * c) j l ≡ bytes_of j (g c)) → part a (j * k) l ≡ numbers_below j k g
  unfolding numbers_below
  numbers_part a zero g h = let z : j * 0 ≡ 0 = omega arith in ap (λ m. part a m l) z
  numbers_part a (suc k) g h =
      let z : j * suc k ≡ j * k + j = omega arith in
      ap (λ m. part a m l) z ∙ sym (part_add l a (j * k) j) ∙ (λ i. numbers_part a k g (λ c p. h c (omega arith)) i ++ h k (omega arith) i)

  row_part : (a : ℕ) (r : Row) → ((c : ℕ) → c < 10 → part (a + j * c) j l ≡ bytes_of j (column_of r c)) → part a (j * 10) l ≡ bytes_of_row j r
  row_part a r h = numbers_part a 10 (column_of r) h ∙ its r

  -- rows of e bytes
  module _ (e : ℕ) (ten : j * 10 ≡ e) where
    rows_part : (k : ℕ) (f : ℕ → Row) → ((n c : ℕ) → n < k → c < 10 → part (e * n + j * c) j l ≡ bytes_of j (column_of (f n) c)) → part 0 (e * k) l ≡ rows_below j k f
    unfolding rows_below
    rows_part zero f h = let z : e * 0 ≡ 0 = omega arith in ap (λ m. part 0 m l) z
    rows_part (suc k) f h =
        let z : e * suc k ≡ e * k + e = omega arith in
        let y : 0 + e * k ≡ e * k = omega arith in
        ap (λ m. part 0 m l) z ∙ sym (part_add l 0 (e * k) e)
        ∙ (λ i. rows_part k f (λ n c p q. h n c (omega arith) q) i ++ (ap (λ m. part m e l) y ∙ ap (λ m. part (e * k) m l) (sym ten) ∙ row_part (e * k) (f k) (λ c q. h k c (omega arith) q)) i)

    whole : (rest : List ℕ) (f : ℕ → Row) → ((n c : ℕ) → n < 64 → c < 10 → part (e * n + j * c) j l ≡ bytes_of j (column_of (f n) c))
        → ((c : ℕ) → c < 10 → part (e * 64 + j * c) j l ≡ bytes_of j (column_of (total_below 64 f) c)) → drop (e * 64 + e) l ≡ rest → l ≡ sheet_bytes j f ++ rest
    whole rest f rows total past =
        split_at l (e * 64) e
        ∙ (λ i. rows_part 64 f rows i ++ ((ap (λ m. part (e * 64) m l) (sym ten) ∙ row_part (e * 64) (total_below 64 f) total) i ++ past i))
        ∙ sym (append_assoc (rows_below j 64 f) (bytes_of_row j (total_below 64 f)) rest)

pub sheet_is : (w : Bool) (l rest : List ℕ) (g : Grid) (f : ℕ → Row) → Holds w l g rest → ((n c : ℕ) → n < 64 → c < 10 → g n c ≡ column_of (f n) c)
    → ((c : ℕ) → c < 10 → g 64 c ≡ column_of (total_below 64 f) c) → l ≡ sheet_bytes (cell_bytes w) f ++ rest
sheet_is true l rest g f h e t =
    whole 8 ten_of_eight l 80 refl rest f (λ n c p q. h.cells n c (omega (arith, p)) q ∙ ap (bytes_of 8) (e n c p q)) (λ c q. h.cells 64 c (omega arith) q ∙ ap (bytes_of 8) (t c q)) h.past
sheet_is false l rest g f h e t =
    whole 4 ten_of_four l 40 refl rest f (λ n c p q. h.cells n c (omega (arith, p)) q ∙ ap (bytes_of 4) (e n c p q)) (λ c q. h.cells 64 c (omega arith) q ∙ ap (bytes_of 4) (t c q)) h.past

-- and those that hold any grid are the bytes of a tally
pub tally_is : (l rest : List ℕ) (f : Grid) → Holds true l f rest → l ≡ tally_bytes f ++ rest
tally_is l rest f h =
    sym (part_then l 0 5200)
    ∙ (λ i. rows_part 8 ten_of_eight l 80 refl 65 (row_in f) (λ n c p q. h.cells n c p q ∙ ap (bytes_of 8) (column n c q)) i ++ h.past i)
  where
    column : (n c : ℕ) → c < 10 → f n c ≡ column_of (row_in f n) c
    column n = below_ten (λ c. f n c ≡ column_of (row_in f n) c) refl refl refl refl refl refl refl refl refl refl

-- rows that are the same, and those of a grid of zeros
pub rows_same : (w k : ℕ) (f g : ℕ → Row) → ((n : ℕ) → n < k → f n ≡ g n) → rows_below w k f ≡ rows_below w k g
unfolding rows_below
rows_same w zero f g e = refl
rows_same w (suc k) f g e = (λ i. rows_same w k f g (λ n p. e n (omega arith)) i ++ bytes_of_row w (e k (omega arith) i))

pub no_numbers : (f : Grid) → ((n c : ℕ) → n < 65 → c < 10 → f n c ≡ 0) → tally_bytes f ≡ rows_below 8 65 (λ n. empty_row)
no_numbers f z = rows_same 8 65 (row_in f) (λ n. empty_row) (λ n p. let at : (c : ℕ) → c < 10 → f n c ≡ 0 = λ c q. z n c p q in
    λ i. record {
      raises = at 0 (omega arith) i;
      lowers = at 1 (omega arith) i;
      asserts = at 2 (omega arith) i;
      deasserts = at 3 (omega arith) i;
      returned = at 4 (omega arith) i;
      offered = at 5 (omega arith) i;
      dropped = at 6 (omega arith) i;
      greatest = at 7 (omega arith) i;
      withdrawn = at 8 (omega arith) i;
      still_open = at 9 (omega arith) i;
    })
