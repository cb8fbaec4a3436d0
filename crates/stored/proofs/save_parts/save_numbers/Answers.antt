-- `save_numbers`: the body is copied over its two fields, if the form has them, and all else stays.
use mathlib.Core.Path.{refl, sym, ap, ◌∙◌}
use Prim.Native.Nat.{◌+◌, ◌≤◌}
use native.Mathlib.Omega.{arith}
use borrow.Author.Rules.{rules}
use lib.ListN.{length}
use Rattle.images.specs.Form.{next}
use Rattle.images.specs.Image.{number_body_length}
use Rattle.image.specs.Shown.{form_view}
use Rattle.image.proofs.Forms.{has_numbers, has_next, body_within}
use Rattle.stored.proofs.saves.Putting.{puts_numbers}
use Rattle.stored.proofs.save_parts.save_numbers.Goals as goal
use Rattle.stored.proofs.save_parts.save_numbers.Goals.{After-places_of-p}

pub returns : goal.returns
returns c d ns e =
    let there = has_next c.args.form c.in-Numbered.is in
    puts_numbers (form_view c.args.form) d ns c.places_of-p.result.next c.requires there (has_numbers c.args.form c.in-Numbered.is)
    (c.places_of-p.ensures.fields next there) (ap length c.copy.ensures ∙ search rules) (e ∙ sym c.copy.ensures) refl

within : (c : After-places_of-p) → c.places_of-p.result.next + number_body_length ≤ length c.args.image.now
within c = let told = c.in-Numbered.is in
    body_within (form_view c.args.form) c.args.image.now c.requires c.places_of-p.result c.places_of-p.ensures (has_next c.args.form told) (has_numbers c.args.form told)

pub overflow_add-end : goal.overflow_add-end
overflow_add-end c = omega (arith, within c)

pub slice_bounds-copy-end : goal.slice_bounds-copy-end
slice_bounds-copy-end c = omega (arith, within c)
