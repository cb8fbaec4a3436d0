-- `offer_entered`: by its two cases.
use Rattle.basics.proofs.Prelude.{arith}
use Rattle.fields.proofs.inplace.Doing.{offers_none}
use Rattle.lines.proofs.events.offer_entered.Goals as goal

pub returns-in-None : goal.returns-in-None
returns-in-None c = (omega arith, rw c.in-None.is (offers_none c.args.image.now))
