-- `ring_of`: after i turns the first i slots hold the first i events; of all sixteen the first `len` wait.
use Rattle.basics.proofs.Prelude.{ap, arith}
use Rattle.stored.proofs.pairs.{Slots.held_next, Slots.held_all}
use Rattle.stored.proofs.pairs.ring_of.Goals as goal

pub loop-i-preserved : goal.loop-i-preserved
loop-i-preserved c = held_next c.requires.0 c.loop-i.invariant (omega arith)

pub returns : goal.returns
returns c =
    record {
      well = record { head = omega arith; len = c.requires.1 };
      shows = ap (λ es. record { waiting = es; drops = c.args.drops }) (held_all c.requires.0 c.loop-i.invariant (omega arith) c.args.len c.requires.1);
    }
