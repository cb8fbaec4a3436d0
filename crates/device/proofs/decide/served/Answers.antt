-- `served` is right bit by bit.
use Rattle.basics.proofs.Prelude.{rules}
use Rattle.device.proofs.decide.Deciding.{served_is}
use Rattle.device.proofs.decide.served.Goals as goal

pub returns : goal.returns
returns c = let a = c.args in served_is a.set a.isr (search rules)
