-- `pch_pic_salvage`: 7 where the answer area is short or the salvage finds no room; else what it tells stands there.
use Rattle.pch_pic_salvage.proofs.{Left.answer_short, Left.told}
use Rattle.pch_pic_salvage.proofs.pch_pic_salvage.Goals as goal

pub returns-then-answer-lt16 : goal.returns-then-answer-lt16
returns-then-answer-lt16 c = let a = c.args in
    answer_short a.trace.now a.kept.now a.list.now a.answer.now c.if-answer-lt16.true

pub returns : goal.returns
returns c = let a = c.args in
    told a.trace.now a.kept.now a.list.now a.answer.now c.if-answer-lt16.false c.salvage-told.result c.salvage-told.ensures c.tell_late.ensures
