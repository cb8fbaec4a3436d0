-- What a push promises, in the rules' terms.
use Rattle.std.specs.Prelude.{◌≡◌, ltb, length}
use Rattle.rules.specs.Ring as rules-ring
use Rattle.rules.specs.Ring.{Event}
use Rattle.device.specs.state.View.{IsRing}
use Rattle.port.specs.declared.push.Pushed.{Pushed}

-- a push is an offer, and tells whether it found fewer than 16 waiting
pub record Pushes (p : Pushed) (before : rules-ring.Ring) (e : Event) : Type 0 where
  pub is : IsRing p.ring (rules-ring.offered before e)
  pub kept : p.kept ≡ ltb (length before.waiting) rules-ring.capacity
