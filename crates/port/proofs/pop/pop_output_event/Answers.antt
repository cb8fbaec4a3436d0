-- `pop_output_event` is a drain with room for one: nothing waits, or the event at the head comes out and the head moves on.
use Rattle.basics.proofs.Prelude.{rules}
use Rattle.port.proofs.pop.{Oldest.pop_none, Oldest.pop_one}
use Rattle.port.proofs.pop.pop_output_event.Goals as goal

pub returns-then-out-eq0 : goal.returns-then-out-eq0
returns-then-out-eq0 c = record { well = search rules; shows = pop_none c.args.ring c.if-out-eq0.true }

pub returns : goal.returns
returns c = record { well = search rules; shows = pop_one c.args.ring (search rules) (search rules) }
