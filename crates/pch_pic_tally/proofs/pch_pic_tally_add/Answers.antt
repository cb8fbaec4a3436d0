-- `pch_pic_tally_add`: 7 for answer area and tally, and then what is told.
use Rattle.basics.proofs.Prelude.{arith}
use Rattle.pch_pic_tally.proofs.{Left.add_answer_short, Left.add_tally_short, Left.add_told}
use Rattle.pch_pic_tally.proofs.pch_pic_tally_add.Goals as goal

pub returns-then-answer-lt16 : goal.returns-then-answer-lt16
returns-then-answer-lt16 c = let a = c.args in add_answer_short a.trace.now a.image.now a.tally.now a.answer.now c.if-answer-lt16.true

pub returns-then-tally-lt-LENGTH : goal.returns-then-tally-lt-LENGTH
returns-then-tally-lt-LENGTH c = let a = c.args in add_tally_short a.trace.now a.image.now a.tally.now a.answer.now (omega (arith, c.if-tally-lt-LENGTH.true))

pub returns : goal.returns
returns c =
    let a = c.args in
    add_told a.trace.now a.image.now a.tally.now a.answer.now c.if-answer-lt16.false (omega (arith, c.if-tally-lt-LENGTH.false)) c.add-told.result c.add-told.ensures c.tell.ensures
