-- `put_number`: what is written and then the bytes of y, what is left of x, are the bytes of x.
use Rattle.basics.proofs.Prelude.{◌≡◌, ◌++◌, ◌-◌, length, take, bytes_of}
use Rattle.bits.proofs.bytes.put_number.Given as goal

abbrev pub invariant-loop-byte : goal.invariant-loop-byte
invariant-loop-byte l = take l.byte-index l.dst ++ bytes_of (length l.dst - l.byte-index) l.y ≡ bytes_of (length l.dst) l.x
