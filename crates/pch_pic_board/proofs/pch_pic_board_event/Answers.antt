-- `pch_pic_board_event`: the vector's count moves, and it is told.
use Rattle.basics.proofs.Prelude.{◌∙◌}
use Rattle.boards.proofs.laws.Fronts.{heard_with_room}
use Rattle.pch_pic_board.proofs.pch_pic_board_event.Goals as goal

pub returns : goal.returns
returns c = let a = c.args in
    heard_with_room a.board.now a.vector a.flag a.answer.now c.if-answer-lt16.false c.if-board-lt256.false c.tell.ensures.0 (c.from.ensures ∙ c.hear-count.ensures.0) (rw c.from.ensures c.hear-count.ensures.1)
    c.tell.ensures.1
