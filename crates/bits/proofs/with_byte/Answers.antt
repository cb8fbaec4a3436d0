-- `with_byte` is right since its mask keeps the other bytes: the law of a part replaced by masks, at byte k of 32 bits.
use Rattle.basics.proofs.Prelude.{arith}
use Rattle.laws.proofs.laws.Halves.{byte_replaced}
use Rattle.bits.proofs.with_byte.Goals as goal

pub returns : goal.returns
returns c = rw c.from.ensures (byte_replaced 32 c.args.old c.args.k c.args.val (omega arith) c.ranges.old.fits c.ranges.val.fits)
