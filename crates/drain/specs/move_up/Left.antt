-- What is left of things of two bytes where the first n go.
use Rattle.std.specs.Prelude.{◌≡◌, List, ◌++◌, ℕ, ◌*◌, ◌≤◌, drop, get_or, replicate}

-- behind the first m things all is zero
abbrev pub Unused : List ℕ → ℕ → Type 0
Unused l m = (i : ℕ) → 2 * m ≤ i → get_or l i 0 ≡ 0

-- the first n things go, and zeros follow the others
abbrev pub shifted : List ℕ → ℕ → List ℕ
shifted l n = drop (2 * n) l ++ replicate (2 * n) 0

abbrev pub Leaves : (before after : List ℕ) (m n : ℕ) → Type 0
Leaves before after m n = Unused before m → after ≡ shifted before n
