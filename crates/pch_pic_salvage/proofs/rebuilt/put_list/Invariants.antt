-- `put_list`: an entry for each block that is not kept.
use Rattle.pch_pic_salvage.proofs.rebuilt.Rounds.{Dropping}
use Rattle.pch_pic_salvage.proofs.rebuilt.put_list.Given as goal

abbrev pub invariant-loop-b : goal.invariant-loop-b
invariant-loop-b l = Dropping l.trace l.blocks l.initial.out l.b l.out l.at
