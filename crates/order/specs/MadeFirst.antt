-- Which of two events was made first (02, C-19): where an event that is handed back stands in the order of making, and what the sign of a difference tells.
use Rattle.std.specs.Prelude.{◌≡◌, List, ◌∷◌, ◌++◌, ◌⊎◌, ℕ, ◌+◌, ◌<◌, ◌≤◌, ℤ, pos, ◌<ℤ◌, length}
use Rattle.rules.specs.Numbering.{Numbered}
use Rattle.order.specs.Fates.{Placed}
use Rattle.order.specs.Numbered.{numbered_from}

-- u is one of those in a list
pub record Among (u : Numbered) (l : List Numbered) : Type 0 where
  pub before : List Numbered
  pub after : List Numbered
  pub stands : l ≡ before ++ (u ∷ after)

-- it was returned or drained
abbrev pub HandedBack : (back drained : List Numbered) → Numbered → Type 0
HandedBack back drained u = Among u back ⊎ Among u drained

-- of the events xs in the order of making it is, with its number, the one that was made next after those in `before` (02, C-19)
pub record MadeAfter (start : ℕ) (xs before : List Placed) (u : Numbered) : Type 0 where
  pub event : Placed
  pub after : List Placed
  pub stands : xs ≡ before ++ (event ∷ after)
  pub is : u ≡ numbered_from start event

-- two places in the order of making are fewer than 32,768 apart (02, C-19: 'So 32,768 ahead reads as -32,768')
abbrev pub Near : ℕ → ℕ → Type 0
Near p q = (p < q + 32768) × (q < p + 32768)

-- so few events that any two are near
abbrev pub Few : List Placed → Type 0
Few xs = length xs ≤ 32768

-- the sign of z tells which of two events was made first, that at the place p or that at q
pub record TellsFirst (p q : ℕ) (z : ℤ) : Type 0 where
  pub positive : (pos 0 <ℤ z → q < p) × (q < p → pos 0 <ℤ z)
  pub negative : (z <ℤ pos 0 → p < q) × (p < q → z <ℤ pos 0)
  pub none : (z ≡ pos 0 → p ≡ q) × (p ≡ q → z ≡ pos 0)

-- two numbered events are events made, each after those that are listed, and the sign of z tells which of them was made first
pub record InTheirOrder (start : ℕ) (xs : List Placed) (u v : Numbered) (z : ℤ) : Type 0 where
  pub before_first : List Placed
  pub before_second : List Placed
  pub first : MadeAfter start xs before_first u
  pub second : MadeAfter start xs before_second v
  pub tells : TellsFirst (length before_first) (length before_second) z
