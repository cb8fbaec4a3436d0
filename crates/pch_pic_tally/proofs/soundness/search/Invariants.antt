-- `search`: a number in each round.
use Rattle.pch_pic_tally.proofs.soundness.{Rounds.Sofar}
use Rattle.pch_pic_tally.proofs.soundness.search.Given as goal

abbrev pub invariant-loop-k : goal.invariant-loop-k
invariant-loop-k l = Sofar l.tally l.k
