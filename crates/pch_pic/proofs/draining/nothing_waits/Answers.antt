-- `nothing_waits`: the count stands inside the image.
use Rattle.basics.proofs.Prelude.{refl, arith}
use Rattle.images.specs.Form.{count}
use Rattle.image.{specs.Shown.form_view, proofs.Forms.always_within}
use Rattle.pch_pic.proofs.draining.nothing_waits.Goals as goal

pub bounds-image-count : goal.bounds-image-count
bounds-image-count c = omega (arith, always_within (form_view c.args.form) c.args.image.now c.requires c.places_of-p.result c.places_of-p.ensures count refl)
