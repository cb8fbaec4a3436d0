-- Bytes with some of them replaced.
use Rattle.std.specs.Prelude.{List, ◌++◌, ℕ, ◌+◌, take, drop}
use Rattle.basics.specs.Numbers.{bytes_of}

-- the n from a place on are the low ones of x; with n = 8 they are a whole word
abbrev pub with_bytes : ℕ → ℕ → ℕ → List ℕ → List ℕ
with_bytes at n x l = take at l ++ (bytes_of n x ++ drop (at + n) l)

abbrev pub with_word : ℕ → ℕ → List ℕ → List ℕ
with_word at x l = with_bytes at 8 x l
