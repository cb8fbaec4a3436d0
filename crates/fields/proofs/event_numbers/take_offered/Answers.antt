-- `take_offered`: nothing without numbers; else the next one is taken, and put behind those that wait if there is room.
use Rattle.basics.proofs.Prelude.{◌≡◌, refl, ◌∙◌, true, ◌+◌, ◌≤◌, arith, length, rules}
use Rattle.images.{specs.Form.Field, specs.Form.count, specs.Form.next, specs.Form.numbers, specs.Form.has, specs.Form.size, proofs.laws.Layout.has_all, proofs.laws.Saved.has_next}
use Rattle.image.{specs.Shown.form_view, specs.Shown.place_in, proofs.Forms.placed, proofs.Forms.field_within, proofs.Forms.has_numbers, proofs.Forms.no_numbers}
use Rattle.fields.proofs.event_numbers.{Takings.none_offered, Takings.full_offered, Takings.room_offered}
use Rattle.fields.proofs.event_numbers.take_offered.Goals as goal
use Rattle.fields.proofs.event_numbers.take_offered.Goals.{After-places_of-p}

there : (c : After-places_of-p) → has (form_view c.args.form) numbers ≡ true
there c = has_numbers c.args.form c.in-Numbered.is

within : (c : After-places_of-p) (q : Field) → has (form_view c.args.form) q ≡ true → place_in c.places_of-p.result q + size q ≤ length c.args.image.now
within c q h = field_within (form_view c.args.form) c.args.image.now c.requires c.places_of-p.result c.places_of-p.ensures q h

pub returns-in_default : goal.returns-in_default
returns-in_default c = none_offered (form_view c.args.form) c.args.image.now c.requires (no_numbers c.args.form c.in_default.not-Numbered)

pub take_next-taken-requires : goal.take_next-taken-requires
take_next-taken-requires c = omega (arith, within (goal.at.take_next-taken-requires c).After-places_of-p next (has_next (form_view c.args.form) ∙ there (goal.at.take_next-taken-requires c).After-places_of-p))

pub bounds-image-place : goal.bounds-image-place
bounds-image-place c = let same : length c.take_next-taken.new.image ≡ length c.args.image.now = search rules in
    omega (arith, same, within (goal.at.bounds-image-place c).After-places_of-p count (has_all (form_view c.args.form) count refl))

pub overflow_add-p : goal.overflow_add-p
overflow_add-p c = record { fits = omega (arith, c.if-len-lt-CAPACITY.true, within (goal.at.overflow_add-p c).After-places_of-p numbers (there (goal.at.overflow_add-p c).After-places_of-p)) }

pub put_bytes-requires : goal.put_bytes-requires
put_bytes-requires c = let same : length c.take_next-taken.new.image ≡ length c.args.image.now = search rules in
    omega (arith, same, c.if-len-lt-CAPACITY.true, within (goal.at.put_bytes-requires c).After-places_of-p numbers (there (goal.at.put_bytes-requires c).After-places_of-p))

pub returns-then-len-lt-CAPACITY : goal.returns-then-len-lt-CAPACITY
returns-then-len-lt-CAPACITY c = let f = form_view c.args.form in
    room_offered f c.args.image.now c.requires (there (goal.at.returns-then-len-lt-CAPACITY c).After-places_of-p) (c.places_of-p.ensures.fields next (has_next f ∙ there (goal.at.returns-then-len-lt-CAPACITY c).After-places_of-p)) c.take_next-taken.ensures (placed c.places_of-p.ensures count refl)
    (c.places_of-p.ensures.fields numbers (there (goal.at.returns-then-len-lt-CAPACITY c).After-places_of-p)) refl c.if-len-lt-CAPACITY.true c.put_bytes.ensures

pub returns-else-len-lt-CAPACITY : goal.returns-else-len-lt-CAPACITY
returns-else-len-lt-CAPACITY c = let f = form_view c.args.form in
    full_offered f c.args.image.now c.requires (there (goal.at.returns-else-len-lt-CAPACITY c).After-places_of-p) (c.places_of-p.ensures.fields next (has_next f ∙ there (goal.at.returns-else-len-lt-CAPACITY c).After-places_of-p)) c.take_next-taken.ensures (placed c.places_of-p.ensures count refl) refl c.if-len-lt-CAPACITY.false
