-- `put_number`: what is written and then the bytes of y, what is left of x, are the bytes of x.
use Rattle.basics.proofs.Prelude.{refl, arith, length, length-set, digits}
use Rattle.bits.proofs.bytes.put_number.Goals as goal

pub loop-byte-preserved : goal.loop-byte-preserved
loop-byte-preserved c = let l = c.loop-byte in rw length-set (digits l.dst (length l.dst) l.byte-index l.y refl (omega arith) l.invariant)
