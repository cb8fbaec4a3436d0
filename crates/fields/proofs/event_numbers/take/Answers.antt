-- `take`: how many wait, or the next number of an image that has numbers.
use Rattle.basics.proofs.Prelude.{◌≡◌, refl, true, arith, ◌∙◌}
use Rattle.images.{specs.Form.count, specs.Form.next, specs.Form.numbers, specs.Form.has, proofs.laws.Saved.has_next}
use Rattle.image.{specs.Shown.form_view, proofs.Forms.placed, proofs.Forms.always_within, proofs.Forms.field_within, proofs.Forms.has_numbers, proofs.Forms.no_numbers}
use Rattle.fields.proofs.event_numbers.{Takings.count_taken, Takings.next_taken}
use Rattle.fields.proofs.event_numbers.take.Goals as goal
use Rattle.fields.proofs.event_numbers.take.Goals.{In-Numbered}

there : (c : In-Numbered) → has (form_view c.args.form) numbers ≡ true
there c = has_numbers c.args.form c.in-Numbered.is

pub bounds-image-place : goal.bounds-image-place
bounds-image-place c = omega (arith, always_within (form_view c.args.form) c.args.image.now c.requires c.places_of-p.result c.places_of-p.ensures count refl)

pub returns-in_default : goal.returns-in_default
returns-in_default c = count_taken (form_view c.args.form) c.args.image.now c.requires (no_numbers c.args.form c.in_default.not-Numbered) (placed c.places_of-p.ensures count refl)

pub take_next-requires : goal.take_next-requires
take_next-requires c = omega (arith, field_within (form_view c.args.form) c.args.image.now c.requires c.places_of-p.result c.places_of-p.ensures next (has_next (form_view c.args.form) ∙ there (goal.at.take_next-requires c).In-Numbered))

pub returns : goal.returns
returns c = next_taken (form_view c.args.form) c.args.image.now c.requires (there (goal.at.returns c).In-Numbered) (c.places_of-p.ensures.fields next (has_next (form_view c.args.form) ∙ there (goal.at.returns c).In-Numbered)) c.take_next.ensures
