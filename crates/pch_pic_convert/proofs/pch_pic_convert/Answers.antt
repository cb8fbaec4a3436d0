-- `pch_pic_convert`: 7 where the answer area is short; else what the call tells stands there.
use Rattle.basics.proofs.Prelude.{sym}
use Rattle.calls.proofs.laws.Conversions.{conversion_short}
use Rattle.answer.proofs.fronts.Told.{told_of_convert}
use Rattle.pch_pic_convert.proofs.pch_pic_convert.Goals as goal

pub returns-then-answer-lt16 : goal.returns-then-answer-lt16
returns-then-answer-lt16 c = let a = c.args in sym (conversion_short a.image.now a.target.now a.answer.now c.if-answer-lt16.true)

pub returns : goal.returns
returns c = let t = c in let r = t in let h = r in let a = h.args in
    told_of_convert a.image.now a.target.now a.answer.now h.if-answer-lt16.false r.convert-told.result t.tell.ensures r.convert-told.ensures
