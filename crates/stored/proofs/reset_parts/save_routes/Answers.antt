-- `save_routes`: the route bytes are copied over their field, and all else stays.
use Rattle.basics.proofs.Prelude.{refl, sym, ap, ◌∙◌, ◌+◌, ◌≤◌, arith, length, rules}
use Rattle.images.specs.Form.{routes, size}
use Rattle.image.{specs.Shown.form_view, specs.Shown.place_in, proofs.Forms.always_within}
use Rattle.stored.proofs.saves.Putting.{puts_part}
use Rattle.stored.proofs.reset_parts.save_routes.Goals as goal
use Rattle.stored.proofs.reset_parts.save_routes.Goals.{After-places_of-p}

-- the field ends within the image
within : (c : After-places_of-p) → place_in c.places_of-p.result routes + size routes ≤ length c.args.image.now
within c = always_within (form_view c.args.form) c.args.image.now c.requires c.places_of-p.result c.places_of-p.ensures routes refl

pub returns : goal.returns
returns c d ns e = puts_part (form_view c.args.form) d ns c.places_of-p.result c.places_of-p.ensures routes refl c.requires (c.copy.ensures ∙ sym e) (ap length c.copy.ensures ∙ search rules) refl

pub overflow_add-end : goal.overflow_add-end
overflow_add-end c = record { fits = omega (arith, within c) }

pub slice_bounds-copy-end : goal.slice_bounds-copy-end
slice_bounds-copy-end c = let h = within c in search rules
