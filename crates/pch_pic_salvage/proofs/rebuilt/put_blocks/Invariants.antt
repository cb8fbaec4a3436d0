-- `put_blocks`: each block that is kept behind those before it.
use Rattle.pch_pic_salvage.proofs.rebuilt.Rounds.{Joining}
use Rattle.pch_pic_salvage.proofs.rebuilt.put_blocks.Given as goal

abbrev pub invariant-loop-b : goal.invariant-loop-b
invariant-loop-b l = Joining l.trace l.blocks l.initial.out l.b l.out l.at
