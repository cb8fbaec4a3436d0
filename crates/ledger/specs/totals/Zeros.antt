-- Bytes that are looked at, and found to be zero or not.
use Rattle.std.specs.Prelude.{◌≡◌, ℕ, Bool, true, List}
use Rattle.basics.specs.Numbers.{number_of, part}

-- where it is found so, the n bytes of l from a place on spell 0
abbrev pub FoundZero : Bool → (at n : ℕ) → List ℕ → Type 0
FoundZero r at n l = r ≡ true → number_of (part at n l) ≡ 0
