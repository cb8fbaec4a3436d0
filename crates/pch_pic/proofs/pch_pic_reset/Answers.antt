-- `pch_pic_reset`: 7 where the answer area is short; else what the call tells stands there.
use Prim.Native.Nat.{zero-le}
use Rattle.answer.proofs.fronts.Told.{told}
use Rattle.calls.specs.Calls as asked
use Rattle.pch_pic.proofs.pch_pic_reset.Goals as goal

pub returns : goal.returns
returns c = let a = c.args in told a.image.now a.answer.now c.if-answer-lt16.false c.reset-told.result c.tell.ensures (asked.reset) zero-le c.reset-told.ensures
