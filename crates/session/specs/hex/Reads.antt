-- What reading digits gives, as the rules see it: a digit's worth, a number, a field of a line.
use Rattle.std.specs.Prelude.{cond, ◌&&◌, List, [], ◌∷◌, ℕ, eqb, leb, length, take, Option, Some, None}
use Rattle.rules.specs.Device.{Value, none, some}
use Rattle.sessions.specs.Session.{space, digits_spell}

abbrev pub digit_view : Option ℕ → Value
digit_view (Some d) = some d
digit_view None = none

abbrev pub number_view : Option ℕ → Value
number_view (Some x) = some x
number_view None = none

-- the number of one field at the front: a space and so many digits, with anything behind them
abbrev pub field_of : ℕ → List ℕ → Value
field_of n [] = none
field_of n (b ∷ l) = cond (eqb b space && leb n (length l)) (digits_spell 0 (take n l)) none
