-- `offer_rest`: after each turn, what was offered so far and then what is left is all.
use Rattle.basics.proofs.Prelude.{arith, rules}
use Rattle.lines.proofs.events.{Offering.offering_starts, Offering.offering_done, Offering.offering_next, Offering.less, Offering.inputs_few}
use Rattle.lines.proofs.events.offer_rest.Goals as goal
use Rattle.lines.proofs.events.offer_rest.Goals.{In-loop-left}

pub loop-left-init : goal.loop-left-init
loop-left-init c = offering_starts c.args.image.now c.args.set (search rules)

pub overflow_add-dropped : goal.overflow_add-dropped
overflow_add-dropped c = let o = c in omega (arith, o.offer-dropped.ensures.0, o.loop-left.invariant.few, inputs_few o.args.set)

pub loop-left-smaller : goal.loop-left-smaller
loop-left-smaller c = let t = c in omega (arith, less t.loop-left.invariant t.loop-left-test.true)

pub loop-left-preserved : goal.loop-left-preserved
loop-left-preserved c = let o = c in
    let v = o in
    let t = v in
    offering_next t.loop-left.invariant t.loop-left-test.true _ _ _ v.vector-vector.ensures o.offer-dropped.ensures.0 o.offer-dropped.ensures.1 (search rules)

pub returns : goal.returns
returns c = offering_done c.loop-left.invariant c.loop-left-test.false
