-- `number`: after i bytes x is the number that they spell. Moved up by 8 * i the next byte stands above them, so that `or` is the sum.
use Rattle.basics.proofs.Prelude.{◌≡◌, take, number_of}
use Rattle.bits.proofs.bytes.number.Given as goal

abbrev pub invariant-loop-i : goal.invariant-loop-i
invariant-loop-i l = l.x ≡ number_of (take l.i l.b)
