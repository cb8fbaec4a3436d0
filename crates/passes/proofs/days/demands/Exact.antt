-- 02, C-21, in exact numbers: the four bytes of each cell of a good trace's sheet spell the number that its column has.
use Rattle.basics.proofs.Prelude.{false, ◌≡◌, refl, sym, ap, ◌∙◌, List, ◌++◌, ℕ, zero, suc, ◌+◌, ◌*◌, ◌^◌, ◌<◌, ◌≤◌, arith, ltb, length, take, drop, length-append, length-drop, take_all, drop_at, take-append-le, drop-append-le, ltb-true, ltb-false, number_of, bytes_of, part, test, number_of_bytes_of, part_part}
use Rattle.traces.specs.Trace.{good, trace_test}
use Rattle.sheets.specs.{Day.day_of, Sheet.Row, Sheet.column_of, Sheet.row_of, Sheet.total_below, Sheet.bytes_of_row, Sheet.rows_below, Sheet.sheet_bytes, Sheet.sheet_of}
use Rattle.passes.specs.tallies.Grid.{cell_place}
use Rattle.passes.proofs.laws.Reading.{part_left, part_right, rows_length, row_in_lem, four_sized, cell_of_four}
use Rattle.passes.proofs.days.demands.Fits.{Below, rows_fit, total_fits}

-- ---- where a row and a column stand

module _ (f : ℕ → Row) where
  row_of_lem : (n : ℕ) → n < 64 → part (40 * n) 40 (sheet_bytes 4 f) ≡ bytes_of_row 4 (f n)
  row_of_lem n h = part_left (rows_below 4 64 f) (bytes_of_row 4 (total_below 64 f)) (40 * n) 40 (omega (arith, h, rows_length 4 40 four_sized 64 f)) ∙ row_in_lem 4 40 four_sized 64 f n h

  last_row : part (40 * 64) 40 (sheet_bytes 4 f) ≡ bytes_of_row 4 (total_below 64 f)
  last_row = part_right (rows_below 4 64 f) (bytes_of_row 4 (total_below 64 f)) (40 * 64) 40 (rows_length 4 40 four_sized 64 f) (omega arith)

-- ---- what it spells

column_below : (b : ℕ) (r : Row) → Below b r → b < 2 ^ 32 → r.greatest < 2 ^ 32 → (c : ℕ) → c < 10 → column_of r c < 2 ^ 32
column_below b r h s g zero p = omega (arith, h.raises, s)
column_below b r h s g (suc zero) p = omega (arith, h.lowers, s)
column_below b r h s g (suc (suc zero)) p = omega (arith, h.asserts, s)
column_below b r h s g (suc (suc (suc zero))) p = omega (arith, h.deasserts, s)
column_below b r h s g (suc (suc (suc (suc zero)))) p = omega (arith, h.returned, s)
column_below b r h s g (suc (suc (suc (suc (suc zero))))) p = omega (arith, h.offered, s)
column_below b r h s g (suc (suc (suc (suc (suc (suc zero)))))) p = omega (arith, h.dropped, s)
column_below b r h s g (suc (suc (suc (suc (suc (suc (suc zero))))))) p = g
column_below b r h s g (suc (suc (suc (suc (suc (suc (suc (suc zero)))))))) p = omega (arith, h.withdrawn, s)
column_below b r h s g (suc (suc (suc (suc (suc (suc (suc (suc (suc zero))))))))) p = omega (arith, h.still_open, s)
column_below b r h s g (suc (suc (suc (suc (suc (suc (suc (suc (suc (suc c)))))))))) p = absurd (omega arith)

spelt : (s : List ℕ) (n : ℕ) (r : Row) → part (40 * n) 40 s ≡ bytes_of_row 4 r → (c : ℕ) → c < 10 → column_of r c < 2 ^ 32 → number_of (part (cell_place false n c) 4 s) ≡ column_of r c
spelt s n r e c p q =
    ap number_of (sym (part_part s (40 * n) 40 (4 * c) 4 (omega (arith, p))) ∙ ap (part (4 * c) 4) e ∙ cell_of_four r c p) ∙ number_of_bytes_of 4 (column_of r c) (omega (arith, q))

module _ (l : List ℕ) {first k : ℕ} (e : trace_test l ≡ good first k) where
  -- Of a good trace every number is below 2 ^ 32.
  pub cell_fits : (n : ℕ) → n < 64 → (c : ℕ) → c < 10 → column_of (row_of (day_of l) n) c < 2 ^ 32
  cell_fits n h c p = let fits = rows_fit l e n h in column_below (520 * 4000) (row_of (day_of l) n) fits.0 (omega arith) fits.1 c p

  pub total_fits_too : (c : ℕ) → c < 10 → column_of (total_below 64 (row_of (day_of l))) c < 2 ^ 32
  total_fits_too c p = let fits = total_fits l e in column_below (64 * (520 * 4000)) (total_below 64 (row_of (day_of l))) fits.0 (omega arith) fits.1 c p

  -- Each input and each column.
  pub cell_is_exact : (n : ℕ) → n < 64 → (c : ℕ) → c < 10 → number_of (part (cell_place false n c) 4 (sheet_of l)) ≡ column_of (row_of (day_of l) n) c
  cell_is_exact n h c p = spelt (sheet_of l) n (row_of (day_of l) n) (row_of_lem (row_of (day_of l)) n h) c p (cell_fits n h c p)

  -- And the total.
  pub total_is_exact : (c : ℕ) → c < 10 → number_of (part (cell_place false 64 c) 4 (sheet_of l)) ≡ column_of (total_below 64 (row_of (day_of l))) c
  total_is_exact c p = spelt (sheet_of l) 64 (total_below 64 (row_of (day_of l))) (last_row (row_of (day_of l))) c p (total_fits_too c p)
