-- `write_half`: by the register.
use Rattle.basics.proofs.Prelude.{arith}
use Rattle.fields.proofs.inplace.Doing.{writes_none}
use Rattle.lines.proofs.halves.write_half.Goals as goal

pub returns-in-Id : goal.returns-in-Id
returns-in-Id c = (omega arith, rw c.in-Id.is (writes_none c.args.image.now))

pub returns-in-Irr : goal.returns-in-Irr
returns-in-Irr c = (omega arith, rw c.in-Irr.is (writes_none c.args.image.now))
