-- A tally: the numbers of a day that is not over, carried from trace to trace. 65 rows of ten numbers of eight bytes, little end first. The first 64 rows are the
-- inputs', in the columns of a sheet (02, C-21); but the last column has 0, or 1 + the number of the raise whose wait is not over. Of the last row
-- the first number is how many records were counted so far.
use Rattle.std.specs.Prelude.{Bool, true, cond, ◌&&◌, ◌||◌, List, ℕ, zero, suc, ◌*◌, ◌%◌, ◌^◌, eqb, leb, ltb}
use Rattle.basics.specs.Numbers.{number_of, part}
use Rattle.rules.specs.Device.{Value, none, some}
use Rattle.sheets.specs.Sheet.{Row, rows_below}
use Rattle.passes.specs.tallies.Grid.{Grid, cell_place}

-- how many bytes it has
abbrev pub tally_length : ℕ
tally_length = 65 * (10 * 8)

-- ---- its numbers

-- in a row and a column
abbrev pub numbers_of : List ℕ → Grid
numbers_of t n c = number_of (part (cell_place true n c) 8 t)

-- one after another
abbrev pub number_at : List ℕ → ℕ → ℕ
number_at t k = number_of (part (8 * k) 8 t)

-- how many records were counted so far
abbrev pub counted_in : List ℕ → ℕ
counted_in t = numbers_of t 64 0

-- a row as a grid has it, and the bytes of a tally with these numbers
abbrev pub row_in : Grid → ℕ → Row
row_in f n = record {
  raises = f n 0;
  lowers = f n 1;
  asserts = f n 2;
  deasserts = f n 3;
  returned = f n 4;
  offered = f n 5;
  dropped = f n 6;
  greatest = f n 7;
  withdrawn = f n 8;
  still_open = f n 9;
}

abbrev pub tally_bytes : Grid → List ℕ
tally_bytes f = rows_below 8 65 (row_in f)

-- ---- which bytes are a tally

-- the number at place k stands for the wait of an input
abbrev pub of_open_wait : ℕ → Bool
of_open_wait k = eqb (k % 10) 9 && ltb k 640

-- a number too great to count on from, which is 2 ^ 63 or more; or that of a wait that began behind all records
abbrev pub unsound : List ℕ → ℕ → Bool
unsound t k = leb (2 ^ 63) (number_at t k) || (of_open_wait k && ltb (counted_in t) (number_at t k))

pub data TallyTest : Type 0 where
  sound : TallyTest
  wrong_at : ℕ → TallyTest

-- the first such number of m, from the one at place k on, told by the place of its first byte
unfoldable pub first_unsound : List ℕ → ℕ → ℕ → TallyTest
first_unsound t zero k = sound
first_unsound t (suc m) k = cond (unsound t k) (wrong_at (8 * k)) (first_unsound t m (suc k))

abbrev pub tally_test : List ℕ → TallyTest
tally_test t = first_unsound t 650 0

-- the number of that refusal, 0 where there is none, and its value
abbrev pub tally_number : TallyTest → ℕ
tally_number sound = 0
tally_number (wrong_at a) = 17

abbrev pub tally_value : TallyTest → Value
tally_value sound = none
tally_value (wrong_at a) = some a
