-- What a function that offers events promises, in the rules' terms: the ring after the offers, and how many it dropped.
use Rattle.std.specs.Prelude.{◌≡◌, Bool, true, List, map, ℕ}
use Rattle.basics.specs.Inputs.{on, inputs}
use Rattle.rules.specs.Lines.{Made, event}
use Rattle.rules.specs.Ring as ring
use Rattle.rules.specs.Ring.{ring_run}
use Rattle.rules.specs.Device.{offers, lost}
use Rattle.device.specs.declared.state.Ring.{Ring}
use Rattle.device.specs.state.View.{WellRing, ring_view}

-- the events that are made for the inputs in m
abbrev pub events_of : List ℕ → ℕ → Bool → List Made
events_of vs m asserted = map (event vs true asserted) (inputs (on m))

-- events made are offered to a ring, and n of them are dropped
pub record Offers (r : Ring) (n : ℕ) (before : ring.Ring) (ms : List Made) : Type 0 where
  pub well : WellRing r
  pub ring : ring_view r ≡ (ring_run before (offers ms)).after
  pub dropped : n ≡ lost before ms
