-- `all_bits`: after i words it has the bits of those.
use Rattle.std.proofs.Common.{◌≡◌}
use Rattle.image.specs.unused.Events.{bits_of}
use Rattle.image.proofs.unused.all_bits.Given as goal

abbrev pub invariant-loop-i : goal.invariant-loop-i
invariant-loop-i l = l.found ≡ bits_of l.i l.pairs
