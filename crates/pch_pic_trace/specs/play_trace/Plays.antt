-- How a play ends.
use Rattle.std.specs.Prelude.{List, ℕ, Option, Result}
use Rattle.traces.specs.plays.Playing.{PlayEnding}
use Rattle.answer.specs.Given.{told_number, told_value}
use Rattle.answer.specs.declared.refusals.Refusal.{Refusal}

-- what is told, and the bytes lent
abbrev pub ends : Result (Option ℕ) Refusal → (image answers events : List ℕ) → PlayEnding
ends t i bs es = record { number = told_number t; value = told_value t; image = i; answers = bs; events = es }
