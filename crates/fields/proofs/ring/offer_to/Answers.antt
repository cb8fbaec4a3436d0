-- `offer_to`: the event behind those that wait, or one drop more.
use Rattle.basics.proofs.Prelude.{refl, ◌∙◌, arith, rules, part_below}
use Rattle.image.proofs.Forms.{byte_flag}
use Rattle.fields.proofs.ring.{Bodies.ring_kept, Bodies.ring_full}
use Rattle.fields.proofs.ring.offer_to.Goals as goal

pub overflow_cast-drops : goal.overflow_cast-drops
overflow_cast-drops c = record { fits = omega (arith, c.number-drops.ensures, part_below c.args.body.now 1 4 (λ i. search rules) (omega arith)) }

pub returns-then-len-ge-CAPACITY : goal.returns-then-len-ge-CAPACITY
returns-then-len-ge-CAPACITY c =
    (omega arith, λ r w d e. ring_full r c.args.vector c.args.asserted _ e refl (omega arith) d c.number-drops.ensures c.put_bytes.ensures (omega arith))

pub returns : goal.returns
returns c = (omega arith, λ r w d e. ring_kept r c.args.vector c.args.asserted _ e refl (omega arith) (c.from.ensures ∙ byte_flag _))
