-- `pch_pic_board_level`: the call is made, and the board and what it tells stand there.
use Rattle.basics.proofs.Prelude.{zero-le, rules}
use Rattle.pch_pic_board.proofs.Ended.{may_finish, finished}
use Rattle.calls.specs.Calls as asked
use Rattle.pch_pic_board.proofs.pch_pic_board_level.Goals as goal

pub finish-requires : goal.finish-requires
finish-requires c = let a = c.args in
    may_finish a.image.now a.board.now a.answer.now (search rules) c.if-answer-lt16.false c.if-board-lt256.false c.level-told.result (asked.level a.input a.level) zero-le c.level-told.ensures

pub returns : goal.returns
returns c = let a = c.args in
    finished a.image.now a.board.now a.answer.now (search rules) c.if-answer-lt16.false c.if-board-lt256.false c.level-told.result (asked.level a.input a.level) zero-le c.level-told.ensures c.finish.ensures
