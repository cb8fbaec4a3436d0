-- `all_bits`: no number of those that were looked at is greater than the bits that they have together.
use Rattle.pch_pic_tally.proofs.soundness.Whole.{more_bits}
use Rattle.pch_pic_tally.proofs.soundness.all_bits.Goals as goal

pub loop-k-preserved : goal.loop-k-preserved
loop-k-preserved c = let l = c.loop-k in more_bits c.args.tally.now l.k l.found c.word_at-found.result l.invariant c.word_at-found.ensures
