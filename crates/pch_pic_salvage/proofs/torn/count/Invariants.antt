-- `count`: those counted so far, and those among the blocks that are left.
use Rattle.pch_pic_salvage.proofs.torn.Rounds.{Counted}
use Rattle.pch_pic_salvage.proofs.torn.count.Given as goal

abbrev pub invariant-loop-b : goal.invariant-loop-b
invariant-loop-b l = Counted l.trace l.blocks l.b l.left l.all
