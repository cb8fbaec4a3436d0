-- `pch_pic_board_reset`: the call is made, and the board and what it tells stand there.
use Rattle.basics.proofs.Prelude.{◌∙◌, zero-le, rules}
use Rattle.pch_pic_board.proofs.Ended.{finished, reset_counts}
use Rattle.calls.specs.Calls as asked
use Rattle.pch_pic_board.proofs.pch_pic_board_reset.Goals as goal

pub returns : goal.returns
returns c = let a = c.args in let t = c.reset-told.result in
    finished a.image.now a.board.now a.answer.now (search rules) c.if-answer-lt16.false c.if-board-lt256.false t asked.reset zero-le c.reset-told.ensures
    (record { number = c.tell.ensures.0; counted = c.clear.ensures ∙ reset_counts a.image.now a.board.now t c.reset-told.ensures; written = c.tell.ensures.1 })
