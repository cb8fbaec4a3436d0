-- `offer_each`: what was offered so far was kept, until one is dropped; what is left then is offered by `offer_rest`.
use Rattle.basics.proofs.Prelude.{length, on, inputs}
use Rattle.lines.proofs.events.Offering.{Offering}
use Rattle.lines.proofs.events.offer_each.Given as goal

abbrev pub invariant-loop-left : goal.invariant-loop-left
invariant-loop-left l = Offering l.initial.image l.image 0 l.set l.left

abbrev pub decreases-loop-left : goal.decreases-loop-left
decreases-loop-left l = length (inputs (on l.left))
