-- `save_ring`: the body is copied over its three fields, and all else stays.
use Rattle.basics.proofs.Prelude.{refl, sym, ap, ◌∙◌, ◌+◌, ◌≤◌, arith, length, rules}
use Rattle.images.specs.{Form.count, Image.ring_length}
use Rattle.image.{specs.Shown.form_view, proofs.Forms.placed}
use Rattle.stored.proofs.{saves.Putting.puts_ring, saves.Putting.ring_within}
use Rattle.stored.proofs.reset_parts.save_ring.Goals as goal
use Rattle.stored.proofs.reset_parts.save_ring.Goals.{After-places_of-p}

-- the body ends within the image
within : (c : After-places_of-p) → c.places_of-p.result.count + ring_length ≤ length c.args.image.now
within c = ring_within (form_view c.args.form) c.args.image.now c.requires c.places_of-p.result c.places_of-p.ensures

pub returns : goal.returns
returns c d ns e = puts_ring (form_view c.args.form) d ns c.places_of-p.result.count c.requires (placed c.places_of-p.ensures count refl) (ap length c.copy.ensures ∙ search rules) (e ∙ sym c.copy.ensures) refl

pub overflow_add-end : goal.overflow_add-end
overflow_add-end c = omega (arith, within c)

pub slice_bounds-copy-end : goal.slice_bounds-copy-end
slice_bounds-copy-end c = omega (arith, within c)
