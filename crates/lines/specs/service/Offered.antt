-- The move of a level call.
use Rattle.std.specs.Prelude.{Bool, true, false, ℕ}
use Rattle.rules.specs.Core.{Move, raise, lower}

-- level 0 lowers, any other raises (01, The boundary)
abbrev pub level_move : ℕ → Bool → Move
level_move n true = raise n
level_move n false = lower n
