-- `waiting`: the byte at the place of the count.
use Rattle.basics.proofs.Prelude.{refl, arith}
use Rattle.images.specs.Form.{count}
use Rattle.image.{specs.Shown.form_view, proofs.Forms.placed, proofs.Forms.always_within}
use Rattle.fields.proofs.ring.Counts.{counted}
use Rattle.fields.proofs.ring.waiting.Goals as goal

pub bounds-image-at : goal.bounds-image-at
bounds-image-at c = omega (arith, always_within (form_view c.args.form) c.args.image.now c.requires c.places_of-p.result c.places_of-p.ensures count refl)

pub returns : goal.returns
returns c = counted (form_view c.args.form) c.args.image.now c.requires (placed c.places_of-p.ensures count refl) c.from.ensures
