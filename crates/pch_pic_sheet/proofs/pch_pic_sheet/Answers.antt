-- `pch_pic_sheet`: 7 for answer area and sheet, and then what is told.
use Rattle.basics.proofs.Prelude.{arith}
use Rattle.pch_pic_sheet.proofs.{Left.answer_short, Left.sheet_short, Left.tells}
use Rattle.pch_pic_sheet.proofs.pch_pic_sheet.Goals as goal

pub returns-then-answer-lt16 : goal.returns-then-answer-lt16
returns-then-answer-lt16 c = let a = c.args in
    answer_short a.trace.now a.sheet.now a.answer.now c.if-answer-lt16.true

pub returns-then-sheet-lt-LENGTH : goal.returns-then-sheet-lt-LENGTH
returns-then-sheet-lt-LENGTH c = let a = c.args in
    sheet_short a.trace.now a.sheet.now a.answer.now (omega (arith, c.if-sheet-lt-LENGTH.true))

pub returns : goal.returns
returns c = let a = c.args in
    tells a.trace.now a.sheet.now a.answer.now c.if-answer-lt16.false (omega (arith, c.if-sheet-lt-LENGTH.false)) c.make-told.result c.make-told.ensures c.tell.ensures
