-- The sets that a step meets, by the registers as numbers. Of lines that have these registers they are the rules' pending_in and served_in.
use Rattle.std.specs.Prelude.{ℕ, Bool, not, ◌&&◌}
use Rattle.basics.specs.Inputs.{on}

-- in the set, latched, unmasked and not in service
abbrev pub waiting_of : ℕ → ℕ → ℕ → ℕ → ℕ → Bool
waiting_of set irr mask isr n = on set n && (on irr n && not (on mask n) && not (on isr n))

-- in service and in the set
abbrev pub served_of : ℕ → ℕ → ℕ → Bool
served_of set isr n = on isr n && on set n
