-- `pending` is right bit by bit.
use Rattle.basics.proofs.Prelude.{rules}
use Rattle.device.proofs.decide.Deciding.{pending_is}
use Rattle.device.proofs.decide.pending.Goals as goal

pub returns : goal.returns
returns c = let a = c.args in pending_is a.set a.irr a.mask a.isr (search rules) (search rules) (search rules)
