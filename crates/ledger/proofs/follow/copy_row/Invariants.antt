-- `copy_row`: a number in each round.
use Rattle.passes.specs.Finish.{row_from}
use Rattle.ledger.specs.follow.Reached.{CopiesOf}
use Rattle.ledger.proofs.follow.copy_row.Given as goal

abbrev pub invariant-loop-c : goal.invariant-loop-c
invariant-loop-c l = CopiesOf l.from l.initial.sheet l.sheet (λ g f. row_from g f l.n l.c)
