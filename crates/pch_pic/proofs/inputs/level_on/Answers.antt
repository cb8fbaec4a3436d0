-- `level_on`: what the call on an accepted image tells stands in the answer area.
use Prim.Native.Nat.{zero-le}
use Rattle.answer.proofs.fronts.Told.{told}
use Rattle.calls.specs.Calls as asked
use Rattle.pch_pic.proofs.inputs.level_on.Goals as goal

pub returns : goal.returns
returns c = let a = c.args in told a.image.now a.answer.now c.requires.1 c.level-told.result c.tell.ensures (asked.level a.input a.level) zero-le c.level-told.ensures
