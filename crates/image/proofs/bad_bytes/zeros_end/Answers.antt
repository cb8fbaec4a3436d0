-- `zeros_end`: a word further.
use Rattle.basics.proofs.Prelude.{sym, ◌∙◌, arith}
use Rattle.image.proofs.bad_bytes.{Firsts.word_on}
use Rattle.image.proofs.bad_bytes.zeros_end.Goals as goal

pub loop-i-preserved : goal.loop-i-preserved
loop-i-preserved c = word_on c.args.pairs.now c.args.from c.loop-i.i (omega (arith, c.requires.0, c.loop-i-test.true)) c.loop-i.invariant (sym c.word_at.ensures ∙ c.if-word_at-ne0.false)
