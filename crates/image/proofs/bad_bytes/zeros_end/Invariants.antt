-- `zeros_end`: so far all words are zero.
use Rattle.basics.proofs.Prelude.{◌-◌}
use Rattle.image.specs.bad_bytes.First.{ZerosTo}
use Rattle.image.proofs.bad_bytes.zeros_end.Given as goal

abbrev pub invariant-loop-i : goal.invariant-loop-i
invariant-loop-i l = ZerosTo l.pairs l.from l.i

abbrev pub decreases-loop-i : goal.decreases-loop-i
decreases-loop-i l = 32 - l.i
