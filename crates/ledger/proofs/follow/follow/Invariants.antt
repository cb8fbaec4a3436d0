-- `follow`: a record in each round.
use Rattle.ledger.proofs.follow.{Rounds.Round}
use Rattle.ledger.specs.watch.Kept.{lines_of}
use Rattle.ledger.proofs.follow.follow.Given as goal

abbrev pub invariant-loop-k : goal.invariant-loop-k
invariant-loop-k l = Round l.wide l.trace l.records l.initial.sheet (lines_of l.initial.w) l.initial.w.waiting l.base l.k l.sheet (lines_of l.w) l.w.waiting
