-- `used_byte`: the bytes behind the waiting pairs that were looked at so far are zero, words of them and then one by one.
use Rattle.images.specs.{Form.pairs, Image.unused_rule}
use Rattle.image.proofs.bad_bytes.{Firsts.GoodUpTo}
use Rattle.image.proofs.bad_bytes.used_byte.Given as goal

abbrev pub invariant-loop-i : goal.invariant-loop-i
invariant-loop-i l = GoodUpTo (unused_rule pairs l.count).bad l.pairs l.i
