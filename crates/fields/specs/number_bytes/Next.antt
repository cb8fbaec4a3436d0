-- The next number where it stands.
use Rattle.std.specs.Prelude.{◌≡◌, ℕ, List}
use Rattle.basics.specs.Numbers.{number_of, part}
use Rattle.rules.specs.Numbering.{following}
use Rattle.bits.specs.bytes.Put.{with_bytes}

-- n stood in the two bytes from a place on, and the number that follows it stands there now (02, C-19)
pub record NextTaken (at : ℕ) (i j : List ℕ) (n : ℕ) : Type 0 where
  pub taken : n ≡ number_of (part at 2 i)
  pub left : j ≡ with_bytes at 2 (following n) i
