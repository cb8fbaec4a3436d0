-- `first_fault`: the rules, looked at in their order; the first that is broken is told with its place.
use Rattle.std.proofs.lemmas.Result.{err_from_is_err_and}
use Rattle.basics.proofs.Prelude.{refl, arith}
use Rattle.images.specs.{Form.word, Form.irr, Form.count, Form.pairs}
use Rattle.image.specs.Shown.{form_view}
use Rattle.image.proofs.{Forms.always_within, Forms.copy_within, faults.InOrder.copy_told, faults.InOrder.count_told, faults.InOrder.by_pairs, faults.InOrder.by_numbers}
use Rattle.image.proofs.faults.first_fault.Goals as goal

pub word_at-requires : goal.word_at-requires
word_at-requires c = copy_within (form_view c.args.form) c.args.image.now c.requires c.places_of-p.result c.places_of-p.ensures

pub word_at-requires-2 : goal.word_at-requires-2
word_at-requires-2 c = always_within (form_view c.args.form) c.args.image.now c.requires c.places_of-p.result c.places_of-p.ensures (word irr) refl

pub returns-then-word_at : goal.returns-then-word_at
returns-then-word_at c = copy_told (form_view c.args.form) c.args.image.now c.requires c.places_of-p.result c.places_of-p.ensures c.word_at.ensures c.word_at-2.ensures c.if-word_at.true

pub bounds-image-place : goal.bounds-image-place
bounds-image-place c = omega (arith, always_within (form_view c.args.form) c.args.image.now c.requires c.places_of-p.result c.places_of-p.ensures count refl)

pub returns-then-count-gt-CAPACITY : goal.returns-then-count-gt-CAPACITY
returns-then-count-gt-CAPACITY c =
    count_told (form_view c.args.form) c.args.image.now c.requires c.places_of-p.result c.places_of-p.ensures c.word_at.ensures c.word_at-2.ensures c.if-word_at.false c.if-count-gt-CAPACITY.true

pub pair_fault-requires : goal.pair_fault-requires
pair_fault-requires c = (always_within (form_view c.args.form) c.args.image.now c.requires c.places_of-p.result c.places_of-p.ensures pairs refl, c.if-count-gt-CAPACITY.false)

pub returns-in_err-pair_fault : goal.returns-in_err-pair_fault
returns-in_err-pair_fault c =
    let p = err_from_is_err_and c.from_residual.result c.from_residual.ensures.1 in
    rw (p.1, p.2)
    (by_pairs (form_view c.args.form) c.args.image.now c.requires c.places_of-p.result c.places_of-p.ensures c.word_at.ensures c.word_at-2.ensures
    c.if-word_at.false c.if-count-gt-CAPACITY.false c.in_err-pair_fault.ensures)

pub returns : goal.returns
returns c =
    by_numbers (form_view c.args.form) c.args.image.now c.requires c.places_of-p.result c.places_of-p.ensures c.word_at.ensures c.word_at-2.ensures
    c.if-word_at.false c.if-count-gt-CAPACITY.false c.in_ok-pair_fault.ensures c.number_fault.ensures
