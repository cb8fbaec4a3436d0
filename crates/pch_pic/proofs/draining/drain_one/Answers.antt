-- `drain_one`: one event is drained, and 1 is told.
use Rattle.basics.proofs.Prelude.{arith, rules}
use Rattle.pch_pic.proofs.Fronts.{drained}
use Rattle.pch_pic.proofs.draining.drain_one.Goals as goal

pub returns : goal.returns
returns c = let a = c.args in drained c.requires.0 a.answer.now c.requires.2 a.events.now a.place (omega (arith, c.requires.3)) c.tell.ensures (search rules) c.one.ensures
