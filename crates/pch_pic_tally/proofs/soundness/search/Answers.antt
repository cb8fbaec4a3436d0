-- `search`: a number in each round.
use Rattle.basics.proofs.Prelude.{arith}
use Rattle.pch_pic_tally.proofs.soundness.{Rounds.all_tested, Rounds.found_here, Rounds.found_later}
use Rattle.pch_pic_tally.proofs.soundness.search.Goals as goal

pub returns-then-is_wrong : goal.returns-then-is_wrong
returns-then-is_wrong c = let l = c.loop-k in found_here c.args.tally.now l.k l.invariant (omega arith) c.word_at.ensures c.word_at-counted.ensures c.is_wrong.ensures c.if-is_wrong.true

pub loop-k-preserved : goal.loop-k-preserved
loop-k-preserved c = let l = c.loop-k in found_later c.args.tally.now l.k l.invariant (omega arith) c.word_at.ensures c.word_at-counted.ensures c.is_wrong.ensures c.if-is_wrong.false

pub returns : goal.returns
returns c = let l = c.loop-k in all_tested c.args.tally.now l.k l.invariant (omega arith)
