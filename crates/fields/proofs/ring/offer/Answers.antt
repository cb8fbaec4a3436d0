-- `offer`: the number is taken, and then the ring's body is lent from its place on.
use Rattle.basics.proofs.Prelude.{◌≡◌, refl, arith, length, rules}
use Rattle.images.specs.Form.{count}
use Rattle.image.{specs.Shown.form_view, proofs.Forms.placed}
use Rattle.fields.proofs.{inplace.Bodies.ring_fits, ring.Bodies.ring_offered}
use Rattle.fields.proofs.ring.offer.Goals as goal

pub overflow_add-end : goal.overflow_add-end
overflow_add-end c = record { fits = omega (arith, placed c.places_of-p.ensures count refl, ring_fits (form_view c.args.form), c.requires) }

pub slice_bounds-offer_to-end : goal.slice_bounds-offer_to-end
slice_bounds-offer_to-end c = let same : length c.take_offered.new.image ≡ length c.args.image.now = search rules in
    omega (arith, same, placed c.places_of-p.ensures count refl, ring_fits (form_view c.args.form), c.requires)

pub returns : goal.returns
returns c = (
  c.offer_to.ensures.0,
  ring_offered (form_view c.args.form) c.args.image.now c.requires c.take_offered.ensures _ _ _ c.args.vector c.args.asserted (placed c.places_of-p.ensures count refl) (search rules)
      c.offer_to.ensures.1,
)
