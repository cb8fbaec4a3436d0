-- `bad_flag`: every flag before the pair at hand is good.
use Rattle.basics.proofs.Prelude.{◌*◌}
use Rattle.images.specs.Image.{flag_rule}
use Rattle.image.proofs.bad_bytes.{Firsts.GoodUpTo}
use Rattle.image.proofs.bad_bytes.bad_flag.Given as goal

abbrev pub invariant-loop-i : goal.invariant-loop-i
invariant-loop-i l = GoodUpTo (flag_rule l.count).bad l.pairs (2 * l.i)
