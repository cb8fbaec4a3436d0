-- `byte_of` is right since a shift by 8 * k divides by 256 ^ k, and the mask 0xff takes the lowest byte of that.
use Rattle.laws.proofs.laws.Halves.{byte_taken}
use Rattle.bits.proofs.byte_of.Goals as goal

pub returns : goal.returns
returns c = byte_taken c.args.x c.args.k
