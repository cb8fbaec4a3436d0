-- `test_waiting`: the rules, looked at in their order; the flags before the unused pairs and numbers, which sixteen that wait leave none of.
use Rattle.basics.proofs.Prelude.{refl, arith, get_or}
use Rattle.images.specs.Form.{word, irr, count, pairs}
use Rattle.image.specs.Shown.{form_view}
use Rattle.image.proofs.{Forms.always_within, Forms.copy_within, bodies.Rings.by_ring, bodies.Rings.flagged, bodies.Rings.full, bodies.Rings.by_unused}
use Rattle.image.proofs.bodies.test_waiting.Goals as goal

pub word_at-copy-requires : goal.word_at-copy-requires
word_at-copy-requires c = copy_within (form_view c.args.form) c.args.image.now c.requires c.places_of-p.result c.places_of-p.ensures

pub word_at-requires : goal.word_at-requires
word_at-requires c = always_within (form_view c.args.form) c.args.image.now c.requires c.places_of-p.result c.places_of-p.ensures (word irr) refl

pub bounds-image-place : goal.bounds-image-place
bounds-image-place c = omega (arith, always_within (form_view c.args.form) c.args.image.now c.requires c.places_of-p.result c.places_of-p.ensures count refl)

pub overflow_add-end : goal.overflow_add-end
overflow_add-end c = omega (arith, always_within (form_view c.args.form) c.args.image.now c.requires c.places_of-p.result c.places_of-p.ensures pairs refl)

pub slice_bounds-all_bits-end : goal.slice_bounds-all_bits-end
slice_bounds-all_bits-end c = omega (arith, always_within (form_view c.args.form) c.args.image.now c.requires c.places_of-p.result c.places_of-p.ensures pairs refl)

pub returns-then-all_bits-ne0 : goal.returns-then-all_bits-ne0
returns-then-all_bits-ne0 c =
    by_ring (form_view c.args.form) c.args.image.now c.requires c.places_of-p.result c.places_of-p.ensures c.word_at-copy.ensures c.word_at.ensures c.if-copy-word_at.false (omega arith)
    (flagged (form_view c.args.form) c.args.image.now c.requires c.places_of-p.result c.places_of-p.ensures (λ j. omega (arith, c.type_inv.image j)) (get_or c.args.image.now c.places_of-p.result.count 0) (omega arith) c.all_bits.ensures c.if-all_bits-ne0.true)

pub returns-then-count-eq16 : goal.returns-then-count-eq16
returns-then-count-eq16 c =
    by_ring (form_view c.args.form) c.args.image.now c.requires c.places_of-p.result c.places_of-p.ensures c.word_at-copy.ensures c.word_at.ensures c.if-copy-word_at.false (omega arith)
    (full (form_view c.args.form) c.args.image.now c.requires c.places_of-p.result c.places_of-p.ensures (λ j. omega (arith, c.type_inv.image j)) c.if-count-eq16.true c.all_bits.ensures c.if-all_bits-ne0.false)

pub returns : goal.returns
returns c =
    by_ring (form_view c.args.form) c.args.image.now c.requires c.places_of-p.result c.places_of-p.ensures c.word_at-copy.ensures c.word_at.ensures c.if-copy-word_at.false (omega arith)
    (by_unused (form_view c.args.form) c.args.image.now c.requires c.places_of-p.result c.places_of-p.ensures (λ j. omega (arith, c.type_inv.image j)) (get_or c.args.image.now c.places_of-p.result.count 0) (omega arith)
    c.all_bits.ensures c.if-all_bits-ne0.false c.spare_of-spare.ensures c.unused_zero.ensures)
