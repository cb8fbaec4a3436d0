-- `pch_pic_table_write`: 7 where the answer area is short; else what the call tells stands there.
use Rattle.basics.proofs.Prelude.{sym, zero-le}
use Rattle.calls.proofs.laws.Outcomes.{answer_short}
use Rattle.answer.proofs.fronts.Told.{told}
use Rattle.calls.specs.Calls as asked
use Rattle.pch_pic_table.proofs.pch_pic_table_write.Goals as goal

pub returns-then-answer-lt16 : goal.returns-then-answer-lt16
returns-then-answer-lt16 c = let a = c.args in sym (answer_short (asked.write a.base a.size a.address a.width a.value) a.image.now a.answer.now c.if-answer-lt16.true)

pub returns : goal.returns
returns c = let a = c.args in
    told a.image.now a.answer.now c.if-answer-lt16.false c.write-told.result c.tell.ensures (asked.write a.base a.size a.address a.width a.value) zero-le c.write-told.ensures
