-- Runs of route or vector bytes.
use Rattle.std.specs.Prelude.{◌≡◌, ◌⊎◌, List, [], ◌∷◌, ◌++◌, ℕ, zero, suc, ◌+◌, ◌/◌, ◌%◌, ◌≤◌}
use Rattle.rules.specs.Core.{Core, Act}
use Rattle.rules.specs.Access.{entry, entry_acts}

-- n bytes from o on lie wholly among the route bytes, or wholly among the vector bytes: 64 each, from offsets that 64 divides
pub record Run (o n : ℕ) : Type 0 where
  pub table : (o / 64 ≡ 4) ⊎ (o / 64 ≡ 8)
  pub fits : o % 64 + n ≤ 64

-- the n bytes from o on
abbrev pub entries_of : Core → ℕ → ℕ → List ℕ
entries_of c o zero = []
entries_of c o (suc n) = entry c o ∷ entries_of c (o + 1) n

-- the acts that store the n low bytes of x from o on, low first
abbrev pub entries_acts : ℕ → ℕ → ℕ → List Act
entries_acts o zero x = []
entries_acts o (suc n) x = entry_acts o (x % 256) ++ entries_acts (o + 1) n (x / 256)
