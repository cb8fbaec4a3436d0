-- `withdraw_each`: after each turn, what was taken back so far and then what is left is all.
use Rattle.basics.proofs.Prelude.{length, on, inputs}
use Rattle.ledger.proofs.watch.Visiting.{Visiting, Withdrawn}
use Rattle.ledger.proofs.watch.withdraw_each.Given as goal

abbrev pub invariant-loop-left : goal.invariant-loop-left
invariant-loop-left l = Visiting (Withdrawn l.wide l.initial.sheet l.sheet) l.set l.left

abbrev pub decreases-loop-left : goal.decreases-loop-left
decreases-loop-left l = length (inputs (on l.left))
