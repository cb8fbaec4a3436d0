-- `load_ring`: the fields end within the image.
use Rattle.basics.proofs.Prelude.{true, ◌≡◌, refl, ◌+◌, ◌≤◌, arith, length, rules}
use Rattle.images.specs.{Form.Field, Form.drops, Form.pairs, Form.size}
use Rattle.images.proofs.laws.{Layout.always}
use Rattle.image.{specs.Shown.form_view, specs.Shown.place_in, proofs.Forms.always_within}
use Rattle.pch_pic_convert.proofs.load_ring.load_ring.Goals as goal
use Rattle.pch_pic_convert.proofs.load_ring.load_ring.Goals.{After-places_of-p}

-- a field ends within the image
within : (c : After-places_of-p) (q : Field) → always q ≡ true → place_in c.places_of-p.result q + size q ≤ length c.args.image.now
within c = always_within (form_view c.args.form) c.args.image.now c.requires.0 c.places_of-p.result c.places_of-p.ensures

pub drops_at-drops-requires : goal.drops_at-drops-requires
drops_at-drops-requires c = within (goal.at.drops_at-drops-requires c).After-places_of-p drops refl

pub overflow_add-end : goal.overflow_add-end
overflow_add-end c = record { fits = omega (arith, within (goal.at.overflow_add-end c).After-places_of-p pairs refl) }

pub slice_bounds-ring_of-end : goal.slice_bounds-ring_of-end
slice_bounds-ring_of-end c = let h = within (goal.at.slice_bounds-ring_of-end c).After-places_of-p pairs refl in search rules
