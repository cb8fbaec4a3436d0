-- `join_row`: after each turn, the columns so far are joined.
use Rattle.passes.specs.{Finish.row_joined, tallies.Grid.Becomes}
use Rattle.ledger.proofs.totals.join_row.Given as goal

abbrev pub invariant-loop-c : goal.invariant-loop-c
invariant-loop-c l = Becomes l.wide l.initial.sheet l.sheet (λ f. row_joined f l.n l.c)
