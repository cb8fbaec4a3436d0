-- A day of several traces: each with the image that it begins with and the areas that its calls are lent, and the exported calls that play and count them one after another.
use Rattle.std.specs.Prelude.{List, [], ◌∷◌, ◌++◌, ◌≡◌, ℕ}
use Rattle.basics.specs.Numbers.{Bytes}
use Rattle.rules.specs.Device.{Device}
use Rattle.images.specs.Image.{decode}
use Rattle.plain.specs.Sequence.{Item}
use Rattle.traces.specs.plays.Playing.{PlayLeft, playing_on}
use Rattle.sheets.specs.Day.{items}
use Rattle.passes.specs.Finish.{after_items}
use Rattle.passes.specs.tallies.Tallying.{adding}

-- answers, events and told are what the play is lent, answer what the add is lent
pub record Part : Type 0 where
  pub trace : List ℕ
  pub image : List ℕ
  pub answers : List ℕ
  pub events : List ℕ
  pub told : List ℕ
  pub answer : List ℕ

-- the records of all traces, in their order
abbrev pub day_items : List Part → List Item
day_items [] = []
day_items (p ∷ ps) = items p.trace ++ day_items ps

-- ---- the images

-- each holds the device that the records before it leave
abbrev pub HoldsSoFar : Device → List Part → Type 0
HoldsSoFar d [] = Unit {0}
HoldsSoFar d (p ∷ ps) = (decode p.image ≡ d) × HoldsSoFar (after_items d (items p.trace)) ps

-- what playing a part on leaves
abbrev pub played_part : Part → PlayLeft
played_part p = playing_on p.trace p.image p.answers p.events p.told

-- the image j is what the exported play of the part before left, and so on: every play was done
abbrev pub PlayedInTurn : List ℕ → List Part → Type 0
PlayedInTurn j [] = Unit {0}
PlayedInTurn j (p ∷ ps) = (p.image ≡ j) × Bytes p.image × ((played_part p).number ≡ 0) × PlayedInTurn (played_part p).image ps

-- ---- the tally

-- after all of them were added, each with its answer area
unfoldable pub added_all : (tally : List ℕ) → List Part → List ℕ
added_all t [] = t
added_all t (p ∷ ps) = added_all (adding p.trace p.image t p.answer).bytes ps

-- and each of these calls was done
unfoldable pub AllAdded : (tally : List ℕ) → List Part → Type 0
AllAdded t [] = Unit {0}
AllAdded t (p ∷ ps) = ((adding p.trace p.image t p.answer).number ≡ 0) × AllAdded (adding p.trace p.image t p.answer).bytes ps
