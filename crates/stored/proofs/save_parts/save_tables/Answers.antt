-- `save_tables`: each table is copied over its field, and all else stays.
use Rattle.basics.proofs.Prelude.{true, ◌≡◌, refl, sym, ap, ◌∙◌, ◌+◌, ◌≤◌, arith, length, rules}
use Rattle.images.{specs.Form.Field, specs.Form.routes, specs.Form.vectors, specs.Form.size, proofs.laws.Layout.always}
use Rattle.image.{specs.Shown.form_view, specs.Shown.place_in, proofs.Forms.always_within}
use Rattle.stored.proofs.{saves.Putting.puts_then, saves.Putting.puts_part}
use Rattle.stored.proofs.save_parts.save_tables.Goals as goal
use Rattle.stored.proofs.save_parts.save_tables.Goals.{After-places_of-p}

-- a field ends within the image
within : (c : After-places_of-p) (q : Field) → always q ≡ true → place_in c.places_of-p.result q + size q ≤ length c.args.image.now
within c = always_within (form_view c.args.form) c.args.image.now c.requires c.places_of-p.result c.places_of-p.ensures

pub returns : goal.returns
returns c d ns r v = let f = form_view c.args.form in
    let first = puts_part f d ns c.places_of-p.result c.places_of-p.ensures routes refl c.requires (c.copy.ensures ∙ sym r) (ap length c.copy.ensures ∙ search rules) refl in
    puts_then f d ns first (puts_part f d ns c.places_of-p.result c.places_of-p.ensures vectors refl (first.size ∙ c.requires) (c.copy-2.ensures ∙ sym v) (ap length c.copy-2.ensures ∙ search rules) refl)

pub overflow_add-routes_end : goal.overflow_add-routes_end
overflow_add-routes_end c = record { fits = omega (arith, within c routes refl) }

pub slice_bounds-copy-end : goal.slice_bounds-copy-end
slice_bounds-copy-end c = let h = within c routes refl in search rules

pub overflow_add-vectors_end : goal.overflow_add-vectors_end
overflow_add-vectors_end c = record { fits = omega (arith, within (goal.at.overflow_add-vectors_end c).After-places_of-p vectors refl) }

pub slice_bounds-copy-end-3 : goal.slice_bounds-copy-end-3
slice_bounds-copy-end-3 c = let h = within (goal.at.slice_bounds-copy-end-3 c).After-places_of-p vectors refl in search rules
