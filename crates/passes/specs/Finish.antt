-- The pass as it goes over the grid: rows of zeros before it, the marks of the records, and then the column of open waits and the total.
use Rattle.std.specs.Prelude.{cond, List, [], ◌∷◌, ℕ, zero, suc, ◌+◌, max, eqb}
use Rattle.basics.specs.Inputs.{on, inputs}
use Rattle.rules.specs.Device.{Device}
use Rattle.plain.specs.Sequence.{Item}
use Rattle.passes.specs.tallies.Grid.{Grid, put}
use Rattle.passes.specs.tallies.Marks.{item_after}

-- the device after some records
unfoldable pub after_items : Device → List Item → Device
after_items d [] = d
after_items d (x ∷ xs) = after_items (item_after d x) xs

-- the columns below c of row n are those of g; these rows are
unfoldable pub row_from : Grid → Grid → ℕ → ℕ → Grid
row_from g f n zero = f
row_from g f n (suc c) = put (row_from g f n c) n c (g n c)

unfoldable pub rows_from : Grid → Grid → List ℕ → Grid
rows_from g f [] = f
rows_from g f (n ∷ ns) = rows_from g (row_from g f n 10) ns

-- they are zero; and the rows of all inputs
abbrev pub zeros : Grid
zeros n c = 0

abbrev pub row_cleared : Grid → ℕ → ℕ → Grid
row_cleared f n c = row_from zeros f n c

abbrev pub cleared : Grid → List ℕ → Grid
cleared f ns = rows_from zeros f ns

abbrev pub all_inputs : List ℕ
all_inputs = inputs (on 0xffff_ffff_ffff_ffff)

-- a wait that is not over is open
abbrev pub is_on : ℕ → ℕ
is_on x = cond (eqb x 0) 0 1

abbrev pub shut : Grid → ℕ → Grid
shut f n = put f n 9 (is_on (f n 9))

-- a number joined to the total: the greater wait, and of all else the sum
abbrev pub joined : ℕ → ℕ → ℕ → ℕ
joined c t x = cond (eqb c 7) (max t x) (t + x)

-- the columns below c of row n joined to the total, and the rows below n
unfoldable pub row_joined : Grid → ℕ → ℕ → Grid
row_joined f n zero = f
row_joined f n (suc c) = let g = row_joined f n c in put g 64 c (joined c (g 64 c) (g n c))

unfoldable pub finished : Grid → ℕ → Grid
finished f zero = f
finished f (suc n) = row_joined (shut (finished f n) n) n 10
