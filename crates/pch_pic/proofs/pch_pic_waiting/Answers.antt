-- `pch_pic_waiting`: 7 where the answer area is short; else the set is told, at once where the quick test is passed, and the image is as it was.
use Rattle.basics.proofs.Prelude.{sym, arith, rules}
use Rattle.calls.proofs.laws.Waits.{waiting_short}
use Rattle.pch_pic.proofs.Fronts.{at_once}
use Rattle.pch_pic.proofs.pch_pic_waiting.Goals as goal

pub returns-then-room-lt16 : goal.returns-then-room-lt16
returns-then-room-lt16 c = sym (waiting_short c.args.image.now c.args.answer.now c.if-room-lt16.true)

pub waiting_on-requires : goal.waiting_on-requires
waiting_on-requires c = (at_once c.args.image.now c.form_of.ensures c.in-Some.is c.in-One-by_form.is (search rules) c.odd.ensures (omega arith), omega arith)

pub waiting_on-requires-then-odd-eq0-2 : goal.waiting_on-requires-then-odd-eq0-2
waiting_on-requires-then-odd-eq0-2 c = (at_once c.args.image.now c.form_of.ensures c.in-Some.is c.in-Two-by_form.is (search rules) c.odd-2.ensures (omega arith), omega arith)

pub waiting_on-requires-then-odd-eq0-3 : goal.waiting_on-requires-then-odd-eq0-3
waiting_on-requires-then-odd-eq0-3 c = (at_once c.args.image.now c.form_of.ensures c.in-Some.is c.in-Numbered-by_form.is (search rules) c.odd-3.ensures (omega arith), omega arith)
