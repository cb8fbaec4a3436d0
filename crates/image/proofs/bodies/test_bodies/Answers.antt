-- `test_bodies`: the rules, looked at in their order; those of the pairs and the numbers are tested for together.
use Rattle.basics.proofs.Prelude.{refl, arith, get_or}
use Rattle.images.specs.Form.{word, irr, count, pairs}
use Rattle.image.specs.Shown.{form_view}
use Rattle.image.proofs.{Forms.always_within, Forms.copy_within, bodies.Rings.by_ring, bodies.Rings.quiet, bodies.Rings.flagged, bodies.Rings.by_unused}
use Rattle.image.proofs.bodies.test_bodies.Goals as goal

pub word_at-requires : goal.word_at-requires
word_at-requires c = copy_within (form_view c.args.form) c.args.image.now c.requires c.places_of-p.result c.places_of-p.ensures

pub word_at-requires-2 : goal.word_at-requires-2
word_at-requires-2 c = always_within (form_view c.args.form) c.args.image.now c.requires c.places_of-p.result c.places_of-p.ensures (word irr) refl

pub bounds-image-place : goal.bounds-image-place
bounds-image-place c = omega (arith, always_within (form_view c.args.form) c.args.image.now c.requires c.places_of-p.result c.places_of-p.ensures count refl)

pub overflow_add-end : goal.overflow_add-end
overflow_add-end c = omega (arith, always_within (form_view c.args.form) c.args.image.now c.requires c.places_of-p.result c.places_of-p.ensures pairs refl)

pub returns-then-found-all_bits-eq0 : goal.returns-then-found-all_bits-eq0
returns-then-found-all_bits-eq0 c =
    by_ring (form_view c.args.form) c.args.image.now c.requires c.places_of-p.result c.places_of-p.ensures c.word_at.ensures c.word_at-2.ensures c.if-word_at.false (omega arith)
    (quiet (form_view c.args.form) c.args.image.now c.requires c.places_of-p.result c.places_of-p.ensures (λ j. omega (arith, c.type_inv.image j)) (get_or c.args.image.now c.places_of-p.result.count 0) (omega arith)
    c.all_bits-found.ensures c.spare_of-spare.ensures c.all_bits.ensures c.if-found-all_bits-eq0.true)

pub returns-then-found-ne0 : goal.returns-then-found-ne0
returns-then-found-ne0 c =
    by_ring (form_view c.args.form) c.args.image.now c.requires c.places_of-p.result c.places_of-p.ensures c.word_at.ensures c.word_at-2.ensures c.if-word_at.false (omega arith)
    (flagged (form_view c.args.form) c.args.image.now c.requires c.places_of-p.result c.places_of-p.ensures (λ j. omega (arith, c.type_inv.image j)) (get_or c.args.image.now c.places_of-p.result.count 0) (omega arith) c.all_bits-found.ensures c.if-found-ne0.true)

pub returns : goal.returns
returns c =
    by_ring (form_view c.args.form) c.args.image.now c.requires c.places_of-p.result c.places_of-p.ensures c.word_at.ensures c.word_at-2.ensures c.if-word_at.false (omega arith)
    (by_unused (form_view c.args.form) c.args.image.now c.requires c.places_of-p.result c.places_of-p.ensures (λ j. omega (arith, c.type_inv.image j)) (get_or c.args.image.now c.places_of-p.result.count 0) (omega arith)
    c.all_bits-found.ensures c.if-found-ne0.false c.spare_of-spare.ensures c.unused_zero.ensures)
