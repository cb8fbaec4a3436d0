use Rattle.basics.proofs.Prelude.{length, on, inputs}
use Rattle.ledger.proofs.watch.Visiting.{Visiting}
use Rattle.passes.specs.{Finish.cleared, tallies.Grid.Becomes}
use Rattle.ledger.proofs.follow.zero.Given as goal

abbrev pub invariant-loop-left : goal.invariant-loop-left
invariant-loop-left l = Visiting (λ ns. Becomes l.wide l.initial.sheet l.sheet (λ f. cleared f ns)) 0xffff_ffff_ffff_ffff l.left

abbrev pub decreases-loop-left : goal.decreases-loop-left
decreases-loop-left l = length (inputs (on l.left))
