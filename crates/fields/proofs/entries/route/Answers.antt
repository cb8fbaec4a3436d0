-- `route`: the byte at the input's place.
use Rattle.basics.proofs.Prelude.{refl, arith}
use Rattle.images.specs.Form.{routes}
use Rattle.image.{specs.Shown.form_view, proofs.Forms.placed, proofs.Forms.always_fits}
use Rattle.fields.proofs.entries.Tables.{entry_read}
use Rattle.fields.proofs.entries.route.Goals as goal

pub returns : goal.returns
returns c = entry_read (form_view c.args.form) c.args.image.now c.requires.0 routes refl refl (placed c.places_of-p.ensures routes refl) c.args.input c.requires.1

pub overflow_add-result : goal.overflow_add-result
overflow_add-result c = omega (arith, placed c.places_of-p.ensures routes refl, always_fits (form_view c.args.form) routes refl)

pub bounds-image-at : goal.bounds-image-at
bounds-image-at c = omega (arith, placed c.places_of-p.ensures routes refl, always_fits (form_view c.args.form) routes refl)
