-- `poll_tested`: the bodies are tested; accepted, the call goes on, and else the first rule that is broken is told.
use Rattle.std.proofs.Common.{Err}
use Rattle.basics.proofs.Prelude.{refl}
use Prim.Native.Nat.{zero-le}
use Rattle.answer.proofs.{refusals.Ends.by_refusal, fronts.Told.told}
use Rattle.calls.specs.Calls as asked
use Rattle.pch_pic.proofs.inputs.poll_tested.Goals as goal

pub returns-in-Err : goal.returns-in-Err
returns-in-Err c = let a = c.args in let q = asked.poll a.input in
    told a.image.now a.answer.now c.requires.1 (Err c.in-Err.refusal) c.tell.ensures q zero-le (by_refusal q a.image.now refl c.in-Err.refusal c.in-Err.ensures)
