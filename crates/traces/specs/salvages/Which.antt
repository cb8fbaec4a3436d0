-- Which blocks of a trace a salvage keeps and which it lists (02, C-23), by their numbers.
use Rattle.std.specs.Prelude.{Bool, true, cond, List, [], ◌∷◌, ◌≡◌, ℕ, zero, suc, ◌<◌, eqb}
use Rattle.traces.specs.{Trace.block_at, Trace.record_at, Trace.is_good, Blocks.place_in_block}
use Rattle.traces.specs.salvages.Kept.{all_good, Dropped}

-- each record of block b is good
abbrev pub GoodBlock : List ℕ → ℕ → Type 0
GoodBlock l b = (j : ℕ) → j < (block_at b l).records → is_good (record_at (place_in_block l b j) l) ≡ true

-- one more where it is so
abbrev pub one_more_if : Bool → ℕ → ℕ
one_more_if t n = cond t (suc n) n

-- how many of the blocks before number b are good: the number that block b gets where it is kept, in the old order
unfoldable pub good_before : ℕ → List (List ℕ) → ℕ
good_before zero xs = 0
good_before (suc b) [] = 0
good_before (suc b) (x ∷ xs) = one_more_if (all_good x) (good_before b xs)

-- how often a list names block b
unfoldable pub times_listed : ℕ → List Dropped → ℕ
times_listed b [] = 0
times_listed b (d ∷ ds) = one_more_if (eqb d.block b) (times_listed b ds)
