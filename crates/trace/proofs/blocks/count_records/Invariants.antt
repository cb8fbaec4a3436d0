-- `count_records`: the blocks looked at so far stand, and what is left of them decides.
use Rattle.trace.proofs.blocks.Standing.{Looked}
use Rattle.trace.proofs.blocks.count_records.Given as goal

abbrev pub invariant-loop-b : goal.invariant-loop-b
invariant-loop-b l = Looked l.trace l.blocks l.records l.b
