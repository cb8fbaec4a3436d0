-- `put_zeros`: what is passed is zeros.
use Rattle.basics.proofs.Prelude.{◌≡◌, take, replicate}
use Rattle.bits.proofs.bytes.put_zeros.Given as goal

abbrev pub invariant-loop-byte : goal.invariant-loop-byte
invariant-loop-byte l = take l.byte-index l.dst ≡ replicate l.byte-index 0
