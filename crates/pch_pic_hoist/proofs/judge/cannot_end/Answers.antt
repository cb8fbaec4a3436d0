-- `cannot_end`: the phase, and then ISR.
use Rattle.pch_pic_hoist.proofs.judge.Judging.{served_judged}
use Rattle.pch_pic_hoist.proofs.judge.cannot_end.Goals as goal

pub returns-else-running : goal.returns-else-running
returns-else-running c = served_judged c.args.image.now c.args.running c.if-running.false c.isr.ensures
