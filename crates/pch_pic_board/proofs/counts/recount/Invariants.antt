-- `recount`: after each turn, what was counted so far and what is left come to all.
use Rattle.basics.proofs.Prelude.{length, on, inputs}
use Rattle.pch_pic_board.proofs.counts.Counting.{Counting}
use Rattle.pch_pic_board.proofs.counts.recount.Given as goal

abbrev pub invariant-loop-left : goal.invariant-loop-left
invariant-loop-left l = Counting l.image l.initial.board l.board l.initial.left l.left

abbrev pub decreases-loop-left : goal.decreases-loop-left
decreases-loop-left l = length (inputs (on l.left))
