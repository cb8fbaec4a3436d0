-- The vector that a move returned, and its number.
use Rattle.std.specs.Prelude.{◌≡◌, false, List, ℕ}
use Rattle.rules.specs.Device.{Device, Value, none, some}
use Rattle.rules.specs.Numbering.{Numbers, takes, with_number}
use Rattle.images.specs.Image.{numbers_in}
use Rattle.fields.specs.inplace.Held.{Holds, Turns}

-- a returned vector with its number, if there is one (02, C-19)
abbrev pub value_numbered : ℕ → Value → Value
value_numbered n none = none
value_numbered n (some v) = some (with_number n v)

-- its event has taken the next number, if there is one
abbrev pub taken_for : Value → Numbers → Numbers
taken_for none s = s
taken_for (some v) s = takes s false

-- w is the vector v with the next number, which is taken
pub record TakesNumber (i j : List ℕ) (v w : Value) : Type 0 where
  pub becomes : Turns i j (λ d. d) (λ d s. taken_for v s)
  pub gives : (d : Device) (s : Numbers) → Holds i d s → w ≡ value_numbered (numbers_in i).next v
