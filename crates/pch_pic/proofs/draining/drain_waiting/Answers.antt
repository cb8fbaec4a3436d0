-- `drain_waiting`: the bodies are tested; accepted, the oldest events go into the buffer from its place on, and else the first rule that is broken is told.
use Rattle.std.proofs.Common.{Err}
use Rattle.basics.proofs.Prelude.{refl, rules}
use Rattle.fields.proofs.inplace.Passing.{long, few}
use Rattle.answer.proofs.{refusals.Ends.by_refusal, fronts.Told.told}
use Rattle.pch_pic.proofs.Fronts.{drained}
use Rattle.calls.specs.Calls as asked
use Rattle.pch_pic.proofs.draining.drain_waiting.Goals as goal

pub returns-in-Err : goal.returns-in-Err
returns-in-Err c = let a = c.args in let q = asked.drain a.events.now a.place in
    told a.image.now a.answer.now c.requires.1 (Err c.in-Err.refusal) c.tell.ensures q c.requires.2 (by_refusal q a.image.now refl c.in-Err.refusal c.in-Err.ensures)

pub drain-count-requires : goal.drain-count-requires
drain-count-requires c = (long c.in_default.ensures, few c.in_default.ensures)

pub returns : goal.returns
returns c = let a = c.args in drained c.in_default.ensures a.answer.now c.requires.1 a.events.now a.place c.requires.2 c.tell-2.ensures (search rules) c.drain-count.ensures
