-- What a pop promises, in the rules' terms.
use Rattle.std.specs.Prelude.{◌≡◌, List, [], ◌∷◌, Option, Some, None}
use Rattle.rules.specs.Ring as rules-ring
use Rattle.rules.specs.Ring.{Event}
use Rattle.device.specs.state.View.{event_of, ring_view, WellRing}
use Rattle.port.specs.declared.pop.Popped.{Popped}
use Rattle.device.specs.declared.state.PchPicOutputEvent.{PchPicOutputEvent}

-- what was taken out, as a list of at most one
abbrev pub taken_of : Option PchPicOutputEvent → List Event
taken_of None = []
taken_of (Some e) = event_of e ∷ []

-- a pop is a drain with room for one
pub record Pops (p : Popped) (before : rules-ring.Ring) : Type 0 where
  pub well : WellRing p.ring
  pub shows : record { after = ring_view p.ring; drained = taken_of p.event } ≡ rules-ring.drawn before 1
