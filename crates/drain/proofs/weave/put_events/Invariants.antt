-- `put_events`: four bytes in each round.
use Rattle.drain.proofs.weave.Weaving.{Weaving}
use Rattle.drain.proofs.weave.put_events.Given as goal

abbrev pub invariant-loop-k : goal.invariant-loop-k
invariant-loop-k l = Weaving l.pairs l.numbers l.out l.n l.k
