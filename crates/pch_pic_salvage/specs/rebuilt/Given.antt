-- What is given to write by, and one entry written.
use Rattle.std.specs.Prelude.{List, ◌++◌, ℕ, ◌+◌, ◌≤◌, length, take, drop}
use Rattle.traces.specs.salvages.Kept.{bodies_from, dropped_from, two_numbers, joined, contents_for, entries}
use Rattle.pch_pic_salvage.specs.torn.Found.{Surveyed, left_of}

-- the first bad records of n blocks, and room for what is to be written
pub record Ready (bads l : List ℕ) (n : ℕ) (goal out : List ℕ) : Type 0 where
  pub surveyed : Surveyed bads l n
  pub room : length goal ≤ length out

-- what is to be written: the contents of what is left, its blocks, the list of the others
abbrev pub new_contents : ℕ → List ℕ → List ℕ
new_contents n l = contents_for (left_of n l)

abbrev pub new_blocks : ℕ → List ℕ → List ℕ
new_blocks n l = joined (left_of n l)

abbrev pub new_list : ℕ → List ℕ → List ℕ
new_list n l = entries (dropped_from 0 (bodies_from n 0 l))

-- two numbers at a place; every other byte stays
abbrev pub with_two : ℕ → ℕ → ℕ → List ℕ → List ℕ
with_two at m n l = take at l ++ (two_numbers m n ++ drop (at + 4) l)
