-- `save_others`: each part of the device after reset is put into its fields, one after another.
use Rattle.basics.proofs.Prelude.{◌≡◌, refl, replicate}
use Rattle.rules.specs.{Device.reset, Device.up_from, Numbering.from_zero}
use Rattle.images.specs.Image.{ring_body, number_body}
use Rattle.image.specs.Shown.{form_view}
use Rattle.stored.proofs.saves.Putting.{puts_then}
use Rattle.stored.proofs.save_reset.save_others.Goals as goal

-- nothing waits, and numbers begin at 0
empty : ring_body reset ≡ replicate 37 0
unfolding ring_body
empty = refl

no_numbers : number_body (from_zero 0) ≡ replicate 34 0
unfolding number_body up_from
no_numbers = refl

pub returns : goal.returns
returns c =
    let f = form_view c.args.form in
    let ns = from_zero 0 in
    puts_then f reset ns
    (puts_then f reset ns
    (puts_then f reset ns (puts_then f reset ns (c.save_lines.ensures reset ns refl) (c.save_stored.ensures reset ns refl)) (c.save_routes.ensures reset ns refl))
    (c.save_ring.ensures reset ns empty))
    (c.save_numbers.ensures reset ns no_numbers)
