-- `offer_each`: what was offered so far was kept, until one is dropped; what is left then is offered by `offer_rest`.
use Rattle.basics.proofs.Prelude.{◌∙◌, ◌-◌, zero-add, arith, bit_and, rules}
use Rattle.lines.proofs.events.Offering.{offering_starts, offering_done, offering_next, offering_told, offering_rest, less, inputs_few}
use Rattle.lines.proofs.events.offer_each.Goals as goal
use Rattle.lines.proofs.events.offer_each.Goals.{In-loop-left}

pub loop-left-init : goal.loop-left-init
loop-left-init c = offering_starts c.args.image.now c.args.set (search rules)

pub overflow_add-result : goal.overflow_add-result
overflow_add-result c = let x = c.loop-left.left in omega (arith, c.offer-dropped.ensures.0, c.offer_rest.ensures.0, inputs_few (bit_and x (x - 1)))

pub returns-then-dropped-ne0 : goal.returns-then-dropped-ne0
returns-then-dropped-ne0 c = let r = c in
    let o = r in
    let v = o in
    let t = v in
    let n = offering_next t.loop-left.invariant t.loop-left-test.true _ _ _ v.vector-vector.ensures o.offer-dropped.ensures.0 o.offer-dropped.ensures.1 (search rules) in
    let f = offering_rest (offering_told n (zero-add o.offer-dropped.result)) r.offer_rest.ensures in
    (omega (arith, f.0, inputs_few t.args.set), f.1)

pub loop-left-smaller : goal.loop-left-smaller
loop-left-smaller c = let t = c in omega (arith, less t.loop-left.invariant t.loop-left-test.true)

pub loop-left-preserved : goal.loop-left-preserved
loop-left-preserved c = let o = c in
    let v = o in
    let t = v in
    offering_told (offering_next t.loop-left.invariant t.loop-left-test.true _ _ _ v.vector-vector.ensures o.offer-dropped.ensures.0 o.offer-dropped.ensures.1 (search rules)) (zero-add o.offer-dropped.result ∙ c.if-dropped-ne0.false)

pub returns : goal.returns
returns c = let o = offering_done c.loop-left.invariant c.loop-left-test.false in (omega arith, o.1)
