-- `pch_pic_tally_begin`: 7 for answer area and tally, and then zeros.
use Rattle.basics.proofs.Prelude.{arith, rules}
use Rattle.pch_pic_tally.proofs.{Left.no_begin, Left.answer_short, Left.bytes_short, Left.begins}
use Rattle.pch_pic_tally.proofs.pch_pic_tally_begin.Goals as goal

pub returns-then-answer-lt16 : goal.returns-then-answer-lt16
returns-then-answer-lt16 c = let a = c.args in no_begin a.tally.now a.answer.now (answer_short a.answer.now a.tally.now _ c.if-answer-lt16.true)

pub returns-then-tally-lt-LENGTH : goal.returns-then-tally-lt-LENGTH
returns-then-tally-lt-LENGTH c = let a = c.args in no_begin a.tally.now a.answer.now (bytes_short a.answer.now a.tally.now _ (omega (arith, c.if-tally-lt-LENGTH.true)))

pub returns : goal.returns
returns c =
    let a = c.args in
    begins a.tally.now a.answer.now (search rules) c.if-answer-lt16.false (omega (arith, c.if-tally-lt-LENGTH.false)) c.zero.ensures c.zero_row.ensures c.tell.ensures
