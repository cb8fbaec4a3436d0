-- What a row of the printed map is.
use Rattle.std.specs.Prelude.{◌≡◌, ◌⊎◌, Bool, true, false, not, ℕ, ◌<◌, ◌≤◌, eqb}
use Rattle.table.specs.Meaning.{Meaning, part, route, vector, nothing, meant}

abbrev pub is_nothing : Meaning → Bool
is_nothing (part r h k s) = false
is_nothing (route n) = false
is_nothing (vector n) = false
is_nothing nothing = true

-- a row begins at a half's lowest byte, at the first input's byte, and where nothing follows something
abbrev pub begins : Meaning → Meaning → Bool
begins first (part r h k s) = eqb k 0
begins first (route n) = eqb n 0
begins first (vector n) = eqb n 0
begins first nothing = not (is_nothing first)

-- a row from a on ends before e: none begins in between, and at e one does or the table ends
pub record Row (a e : ℕ) : Type 0 where
  pub some : a < e
  pub within : e ≤ 1024
  pub one : (o : ℕ) → a < o → o < e → begins (meant a) (meant o) ≡ false
  pub ends : (e ≡ 1024) ⊎ (begins (meant a) (meant e) ≡ true)
