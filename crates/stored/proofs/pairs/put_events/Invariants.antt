-- `put_events`: after i turns the first i events stand in front as pairs, and every byte past them is as it was.
use Rattle.stored.proofs.pairs.{Written.Written}
use Rattle.stored.proofs.pairs.put_events.Given as goal

abbrev pub invariant-loop-i : goal.invariant-loop-i
invariant-loop-i l = Written l.ring.output_vectors l.ring.output_asserted l.ring.output_head l.n l.initial.dst l.dst l.i
