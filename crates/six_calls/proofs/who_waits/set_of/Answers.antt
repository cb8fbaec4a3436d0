-- `set_of`: the three registers, read, tell which of all inputs wait.
use Rattle.six_calls.proofs.who_waits.Telling.{set_read}
use Rattle.six_calls.proofs.who_waits.set_of.Goals as goal

pub returns : goal.returns
returns c = set_read c.args.image.now c.irr-irr.ensures c.mask-mask.ensures c.isr-isr.ensures c.pending.ensures
