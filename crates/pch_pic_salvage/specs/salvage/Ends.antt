-- How a salvage ends: what is told, and the bytes lent.
use Rattle.std.specs.Prelude.{List, ℕ, Option, Result}
use Rattle.traces.specs.salvages.Salvaging.{SalvageEnding}
use Rattle.answer.specs.Given.{told_number, told_value}
use Rattle.answer.specs.declared.refusals.Refusal.{Refusal}

abbrev pub ends : Result (Option ℕ) Refusal → (second list : List ℕ) → SalvageEnding
ends t ks ds = record { number = told_number t; value = told_value t; second = ks; list = ds }
