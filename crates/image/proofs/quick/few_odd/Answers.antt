-- `few_odd`: nothing is gathered where at most three wait and all rules of the bodies hold.
use Rattle.basics.proofs.Prelude.{refl, arith}
use Rattle.images.specs.Form.{word, irr, count, pairs}
use Rattle.image.specs.Shown.{form_view}
use Rattle.image.proofs.{Forms.always_within, Forms.copy_within, bodies.Rings.few_wait}
use Rattle.image.proofs.quick.few_odd.Goals as goal

pub returns : goal.returns
returns c = few_wait (form_view c.args.form) c.args.image.now c.requires c.places_of-p.result c.places_of-p.ensures (λ j. omega (arith, c.type_inv.image j)) c.apart.result c.behind.result c.behind-2.result c.word_at-copy.ensures c.word_at.ensures
    c.apart.ensures c.all_bits.ensures c.behind.ensures c.spare_of-spare.ensures c.behind-2.ensures

pub overflow_add-end : goal.overflow_add-end
overflow_add-end c = omega (arith, always_within (form_view c.args.form) c.args.image.now c.requires c.places_of-p.result c.places_of-p.ensures pairs refl)

pub bounds-image-waiting : goal.bounds-image-waiting
bounds-image-waiting c = omega (arith, always_within (form_view c.args.form) c.args.image.now c.requires c.places_of-p.result c.places_of-p.ensures count refl)

pub word_at-copy-requires : goal.word_at-copy-requires
word_at-copy-requires c = copy_within (form_view c.args.form) c.args.image.now c.requires c.places_of-p.result c.places_of-p.ensures

pub word_at-requires : goal.word_at-requires
word_at-requires c = always_within (form_view c.args.form) c.args.image.now c.requires c.places_of-p.result c.places_of-p.ensures (word irr) refl
