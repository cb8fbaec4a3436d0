-- `bodies_odd`: nothing is gathered where all rules of the bodies hold and nothing waits.
use Rattle.basics.proofs.Prelude.{refl, arith}
use Rattle.images.specs.Form.{word, irr, count, pairs}
use Rattle.image.specs.Shown.{form_view}
use Rattle.image.proofs.{Forms.always_within, Forms.copy_within, bodies.Rings.silent}
use Rattle.image.proofs.quick.bodies_odd.Goals as goal

pub returns : goal.returns
returns c = silent (form_view c.args.form) c.args.image.now c.requires c.places_of-p.result c.places_of-p.ensures (λ j. omega (arith, c.type_inv.image j)) c.apart.result c.word_at.ensures c.word_at-2.ensures c.apart.ensures
    c.from.ensures c.all_bits.ensures c.spare_of-spare.ensures c.all_bits-2.ensures

pub overflow_add-end : goal.overflow_add-end
overflow_add-end c = omega (arith, always_within (form_view c.args.form) c.args.image.now c.requires c.places_of-p.result c.places_of-p.ensures pairs refl)

pub word_at-requires : goal.word_at-requires
word_at-requires c = copy_within (form_view c.args.form) c.args.image.now c.requires c.places_of-p.result c.places_of-p.ensures

pub word_at-requires-2 : goal.word_at-requires-2
word_at-requires-2 c = always_within (form_view c.args.form) c.args.image.now c.requires c.places_of-p.result c.places_of-p.ensures (word irr) refl

pub bounds-image-place : goal.bounds-image-place
bounds-image-place c = omega (arith, always_within (form_view c.args.form) c.args.image.now c.requires c.places_of-p.result c.places_of-p.ensures count refl)
