-- The numbers of a sheet while it grows: 65 rows of ten, and how bytes hold them: each in four bytes, as in a sheet, or wide, in eight, as in a tally.
use Rattle.std.specs.Prelude.{Bool, cond, ◌&&◌, ◌||◌, List, ◌≡◌, ℕ, ◌+◌, ◌*◌, ◌%◌, ◌^◌, ◌<◌, ◌≤◌, eqb, length, drop}
use Rattle.basics.specs.Numbers.{bytes_of, part}

-- ---- the numbers

-- the number in a row and a column
abbrev pub Grid : Type 0
Grid = ℕ → ℕ → ℕ

-- one number replaced
abbrev pub put : Grid → ℕ → ℕ → ℕ → Grid
put f n c v m b = cond (eqb b c && eqb m n) v (f m b)

-- one more
abbrev pub bump : Grid → ℕ → ℕ → Grid
bump f n c = put f n c (f n c + 1)

-- ---- the bytes

-- how many bytes a number has, and what they can hold
abbrev pub cell_bytes : Bool → ℕ
cell_bytes w = cond w 8 4

abbrev pub limit : Bool → ℕ
limit w = cond w (2 ^ 64) (2 ^ 32)

-- where a number stands, and how many bytes all of them have
abbrev pub cell_place : Bool → ℕ → ℕ → ℕ
cell_place w n c = cond w (80 * n + 8 * c) (40 * n + 4 * c)

abbrev pub grid_length : Bool → ℕ
grid_length w = cond w 5200 2600

-- the record numbers that a wait can begin or end at: those of one trace, or of a tally with fewer than 2 ^ 63 records
abbrev pub record_limit : Bool → ℕ
record_limit w = cond w (2 ^ 63 + 4000) 4000

-- bytes hold a grid, with these bytes behind it: the numbers of waits as they are, and all others as far as the bytes go
pub record Holds (w : Bool) (l : List ℕ) (f : Grid) (rest : List ℕ) : Type 0 where
  pub long : grid_length w ≤ length l
  pub cells : (n c : ℕ) → n < 65 → c < 10 → part (cell_place w n c) (cell_bytes w) l ≡ bytes_of (cell_bytes w) (f n c)
  pub great : (n : ℕ) → n < 65 → f n 7 < limit w
  pub late : (n : ℕ) → n < 64 → f n 9 < limit w
  pub past : drop (grid_length w) l ≡ rest

-- what a function does to the grid, whatever grid the bytes hold
abbrev pub Becomes : Bool → (before after : List ℕ) → (Grid → Grid) → Type 0
Becomes w b a g = (f : Grid) (rest : List ℕ) → Holds w b f rest → Holds w a (g f) rest

-- what is read of it
abbrev pub Reads : Bool → List ℕ → ℕ → ℕ → ℕ → Type 0
Reads w l x n c = (f : Grid) (rest : List ℕ) → Holds w l f rest → x ≡ f n c % limit w

-- the columns of waits: the greatest, and the one that is not over. All others are counted
abbrev pub is_wait : ℕ → Bool
is_wait c = eqb c 7 || eqb c 9

-- a number of a wait fits its bytes
abbrev pub Fits : Bool → ℕ → ℕ → ℕ → Type 0
Fits w n c v = (c ≡ 7 → v < limit w) × (c ≡ 9 → n < 64 → v < limit w)

-- what is written to it: any number that these bytes do not tell from x
abbrev pub Puts : Bool → (before after : List ℕ) → (n c x : ℕ) → Type 0
Puts w b a n c x = (v : ℕ) → v % limit w ≡ x % limit w → Fits w n c v → Becomes w b a (λ f. put f n c v)

-- there is room for the numbers
abbrev pub Roomy : Bool → List ℕ → Type 0
Roomy w l = grid_length w ≤ length l
