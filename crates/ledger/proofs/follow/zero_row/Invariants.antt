use Rattle.passes.specs.{Finish.row_cleared, tallies.Grid.Becomes}
use Rattle.ledger.proofs.follow.zero_row.Given as goal

abbrev pub invariant-loop-c : goal.invariant-loop-c
invariant-loop-c l = Becomes l.wide l.initial.sheet l.sheet (λ f. row_cleared f l.n l.c)
