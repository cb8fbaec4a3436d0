-- `join_all`: after each turn, the rows so far are shut and joined.
use Rattle.passes.specs.{Finish.finished, tallies.Grid.Becomes}
use Rattle.ledger.proofs.totals.join_all.Given as goal

abbrev pub invariant-loop-n : goal.invariant-loop-n
invariant-loop-n l = Becomes l.wide l.initial.sheet l.sheet (λ f. finished f l.n)
