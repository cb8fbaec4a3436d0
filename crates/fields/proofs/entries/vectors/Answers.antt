-- `vectors`: the bytes from the input's place on spell the number.
use Rattle.basics.proofs.Prelude.{refl, arith}
use Rattle.images.specs.Form.{vectors}
use Rattle.image.{specs.Shown.form_view, proofs.Forms.placed, proofs.Forms.always_fits}
use Rattle.fields.proofs.entries.Tables.{entries_read}
use Rattle.fields.proofs.entries.vectors.Goals as goal

pub returns : goal.returns
returns c = entries_read (form_view c.args.form) c.args.image.now c.requires.0 vectors refl refl (placed c.places_of-p.ensures vectors refl) c.args.input c.args.n c.requires.1 c.number.ensures

pub overflow_add-at : goal.overflow_add-at
overflow_add-at c = omega (arith, placed c.places_of-p.ensures vectors refl, always_fits (form_view c.args.form) vectors refl)

pub overflow_add-end : goal.overflow_add-end
overflow_add-end c = omega (arith, placed c.places_of-p.ensures vectors refl, always_fits (form_view c.args.form) vectors refl)

pub slice_bounds-number-end : goal.slice_bounds-number-end
slice_bounds-number-end c = omega (arith, placed c.places_of-p.ensures vectors refl, always_fits (form_view c.args.form) vectors refl)
