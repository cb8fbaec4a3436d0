-- `pch_pic_tally_sheet`: 7 for answer area, tally and sheet, and then what is told.
use Rattle.basics.proofs.Prelude.{arith}
use Rattle.pch_pic_tally.proofs.{Left.sum_answer_short, Left.sum_tally_short, Left.sum_sheet_short, Left.sum_told}
use Rattle.pch_pic_tally.proofs.pch_pic_tally_sheet.Goals as goal

pub returns-then-answer-lt16 : goal.returns-then-answer-lt16
returns-then-answer-lt16 c = let a = c.args in sum_answer_short a.tally.now a.sheet.now a.answer.now c.if-answer-lt16.true

pub returns-then-tally-lt-LENGTH : goal.returns-then-tally-lt-LENGTH
returns-then-tally-lt-LENGTH c = let a = c.args in sum_tally_short a.tally.now a.sheet.now a.answer.now (omega (arith, c.if-tally-lt-LENGTH.true))

pub returns-then-sheet-lt-LENGTH : goal.returns-then-sheet-lt-LENGTH
returns-then-sheet-lt-LENGTH c = let a = c.args in sum_sheet_short a.tally.now a.sheet.now a.answer.now (omega (arith, c.if-sheet-lt-LENGTH.true))

pub returns : goal.returns
returns c =
    let a = c.args in
    sum_told a.tally.now a.sheet.now a.answer.now c.if-answer-lt16.false (omega (arith, c.if-tally-lt-LENGTH.false)) (omega (arith, c.if-sheet-lt-LENGTH.false)) c.sum-told.result c.sum-told.ensures c.tell.ensures
