-- The events that a register write offers.
use Rattle.std.specs.Prelude.{true, false, List, [], map, ℕ}
use Rattle.basics.specs.Inputs.{on, inputs}
use Rattle.rules.specs.Lines as lines
use Rattle.rules.specs.Ring.{RingAct}
use Rattle.rules.specs.Core.{Core}
use Rattle.rules.specs.Device.{Value, none, some, offers}
use Rattle.fields.specs.ring.Fields.{offering}

-- the assert of a vector, if there is one
abbrev pub assert_of : Value → List RingAct
assert_of none = []
assert_of (some v) = offering v true

-- a deassert for each input of a set, lowest first
abbrev pub deasserts : Core → ℕ → List RingAct
deasserts c x = offers (map (lines.event c.vectors true false) (inputs (on x)))
