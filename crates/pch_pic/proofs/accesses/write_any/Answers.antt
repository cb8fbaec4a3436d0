-- `write_any`: what the write tells stands in the answer area.
use Prim.Native.Nat.{zero-le}
use Rattle.answer.proofs.fronts.Told.{told}
use Rattle.calls.specs.Calls as asked
use Rattle.pch_pic.proofs.accesses.write_any.Goals as goal

pub returns : goal.returns
returns c = let a = c.args in told a.image.now a.answer.now c.requires c.write-told.result c.tell.ensures (asked.write a.base a.size a.address a.width a.value) zero-le c.write-told.ensures
