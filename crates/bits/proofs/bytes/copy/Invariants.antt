-- `copy`: what is written is the source so far.
use Rattle.basics.proofs.Prelude.{◌≡◌, length, take}
use Rattle.bits.proofs.bytes.copy.Given as goal

abbrev pub invariant-loop-i : goal.invariant-loop-i
invariant-loop-i l = (length l.dst ≡ length l.src) × (take l.i l.dst ≡ take l.i l.src)
