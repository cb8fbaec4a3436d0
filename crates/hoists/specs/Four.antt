-- Whether a Dword among the vector bytes would change one whose input is in service, seen by its four bytes: as numbers, from ISR, the Dword that stands there and the one that is written.
use Rattle.std.specs.Prelude.{Bool, not, ◌&&◌, ◌||◌, ℕ, ◌+◌, eqb}
use Rattle.basics.specs.Numbers.{byte_of}
use Rattle.basics.specs.Inputs.{on}

-- byte k of the Dword of the inputs from n on: its input is in service, and it differs
abbrev pub changes_byte : (isr n old new k : ℕ) → Bool
changes_byte isr n old new k = on isr (n + k) && not (eqb (byte_of new k) (byte_of old k))

abbrev pub some_of_four : (ℕ → Bool) → Bool
some_of_four g = g 0 || (g 1 || (g 2 || g 3))

unfoldable pub changes_four : (isr n old new : ℕ) → Bool
changes_four isr n old new = some_of_four (changes_byte isr n old new)
