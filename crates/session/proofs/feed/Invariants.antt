-- `feed` is right since the bytes are taken one after another, as long as there is room for an answer.
use Rattle.basics.proofs.Prelude.{◌-◌, length}
use Rattle.session.proofs.{Feeding.Feeding}
use Rattle.session.proofs.feed.Given as goal

abbrev pub invariant-loop-taken : goal.invariant-loop-taken
invariant-loop-taken l = Feeding l.initial.next l.initial.line l.chunk l.initial.out l.next l.line l.taken l.len l.out

abbrev pub decreases-loop-taken : goal.decreases-loop-taken
decreases-loop-taken l = length l.chunk - l.taken
