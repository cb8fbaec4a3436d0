-- `read_any`: what the read tells stands in the answer area.
use Prim.Native.Nat.{zero-le}
use Rattle.answer.proofs.fronts.Told.{told}
use Rattle.calls.specs.Calls as asked
use Rattle.pch_pic.proofs.accesses.read_any.Goals as goal

pub returns : goal.returns
returns c = let a = c.args in told a.image.now a.answer.now c.requires c.read-told.result c.tell.ensures (asked.read a.base a.size a.address a.width) zero-le c.read-told.ensures
