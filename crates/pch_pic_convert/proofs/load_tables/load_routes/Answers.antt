-- `load_routes`: the field ends within the image.
use Rattle.basics.proofs.Prelude.{refl, arith}
use Rattle.images.specs.Form.{routes}
use Rattle.image.{specs.Shown.form_view, proofs.Forms.always_within}
use Rattle.pch_pic_convert.proofs.load_tables.load_routes.Goals as goal

pub overflow_add-end : goal.overflow_add-end
overflow_add-end c = omega (arith, always_within (form_view c.args.form) c.args.image.now c.requires c.places_of-p.result c.places_of-p.ensures routes refl)

pub slice_bounds-fill_entries-end : goal.slice_bounds-fill_entries-end
slice_bounds-fill_entries-end c = omega (arith, always_within (form_view c.args.form) c.args.image.now c.requires c.places_of-p.result c.places_of-p.ensures routes refl)
