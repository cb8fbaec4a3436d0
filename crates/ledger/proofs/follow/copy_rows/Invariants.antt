-- `copy_rows`: a row in each round.
use Rattle.basics.proofs.Prelude.{length, on, inputs}
use Rattle.ledger.proofs.watch.Visiting.{Visiting}
use Rattle.passes.specs.Finish.{rows_from}
use Rattle.ledger.specs.follow.Reached.{CopiesOf}
use Rattle.ledger.proofs.follow.copy_rows.Given as goal

abbrev pub invariant-loop-left : goal.invariant-loop-left
invariant-loop-left l = Visiting (λ ns. CopiesOf l.from l.initial.sheet l.sheet (λ g f. rows_from g f ns)) 0xffff_ffff_ffff_ffff l.left

abbrev pub decreases-loop-left : goal.decreases-loop-left
decreases-loop-left l = length (inputs (on l.left))
