-- `offer_rest`: after each turn, what was offered so far and then what is left is all.
use Rattle.basics.proofs.Prelude.{length, on, inputs}
use Rattle.lines.proofs.events.{Offering.Offering}
use Rattle.lines.proofs.events.offer_rest.Given as goal

abbrev pub invariant-loop-left : goal.invariant-loop-left
invariant-loop-left l = Offering l.initial.image l.image l.dropped l.set l.left

abbrev pub decreases-loop-left : goal.decreases-loop-left
decreases-loop-left l = length (inputs (on l.left))
