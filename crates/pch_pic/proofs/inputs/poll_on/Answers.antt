-- `poll_on`: what the call on an accepted image tells stands in the answer area.
use Prim.Native.Nat.{zero-le}
use Rattle.answer.proofs.fronts.Told.{told}
use Rattle.calls.specs.Calls as asked
use Rattle.pch_pic.proofs.inputs.poll_on.Goals as goal

pub returns : goal.returns
returns c = let a = c.args in told a.image.now a.answer.now c.requires.1 c.poll-told.result c.tell.ensures (asked.poll a.input) zero-le c.poll-told.ensures
