-- `pch_pic_board_drain`: 7 where the place is past the end; else the call is made, and the board and what it tells stand there.
use Rattle.basics.proofs.Prelude.{sym, ◌-◌, zero-le, length, part, rules}
use Rattle.calls.proofs.laws.Outcomes.{place_past}
use Rattle.boards.proofs.laws.Fronts.{seven_first}
use Rattle.pch_pic_board.proofs.Ended.{may_finish, finished_behind}
use Rattle.calls.specs.Calls as asked
use Rattle.pch_pic_board.proofs.pch_pic_board_drain.Goals as goal

pub returns-then-events-place : goal.returns-then-events-place
returns-then-events-place c = let a = c.args in let q = asked.drain a.events.now a.place in
    sym (seven_first q a.image.now a.board.now a.answer.now (place_past q a.image.now a.answer.now c.if-events-place.true))

pub finish-requires : goal.finish-requires
finish-requires c = let a = c.args in
    may_finish a.image.now a.board.now a.answer.now (search rules) c.if-answer-lt16.false c.if-board-lt256.false c.drain-told.result
    (asked.drain (part a.place (length a.events.now - a.place) a.events.now) 0) zero-le c.drain-told.ensures

pub returns : goal.returns
returns c = let a = c.args in
    finished_behind a.image.now a.board.now a.answer.now (search rules) c.if-answer-lt16.false c.if-board-lt256.false c.drain-told.result a.events.now a.place c.if-events-place.false
    c.drain-told.ensures c.finish.ensures
