-- `put_events`: four bytes in each round; each half of an event is below 2 ^ 16.
use Rattle.basics.proofs.Prelude.{◌<◌, arith}
use Rattle.drain.proofs.weave.{Weaving.two_below, Weaving.weaving_next}
use Rattle.drain.proofs.weave.put_events.Goals as goal
use Rattle.drain.proofs.weave.put_events.Goals.{After-number-in-loop-k}

high : (c : After-number-in-loop-k) → c.number-in-loop-k.result < 65536
high c = two_below c.args.numbers.now c.loop-k.k (λ i. (c.type_inv.numbers i).fits) (omega arith) c.number-in-loop-k.ensures

pub overflow_mul-event : goal.overflow_mul-event
overflow_mul-event c = record { fits = omega (arith, high c) }

pub overflow_add-event : goal.overflow_add-event
overflow_add-event c =
    let low = two_below c.args.pairs.now c.loop-k.k (λ i. (c.type_inv.pairs i).fits) (omega arith) c.number.ensures in
    record { fits = omega (arith, low, high c) }

pub loop-k-preserved : goal.loop-k-preserved
loop-k-preserved c =
    weaving_next c.loop-k.invariant c.requires.1 c.requires.2 c.loop-k-test.true (λ i. (c.type_inv.pairs i).fits) (λ i. (c.type_inv.numbers i).fits) c.number.ensures c.number-in-loop-k.ensures c.put_bytes.ensures
