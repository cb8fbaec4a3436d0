-- `number_fault`: in the form with numbers the first unused byte that is set.
use Rattle.std.proofs.Common.{◌≡◌, ◌+◌, ◌-◌, ◌≤◌, true, length, ap, arith}
use Rattle.images.specs.Form.{numbers, has}
use Rattle.images.specs.Image.{unused_rule, body_test}
use Rattle.image.specs.Shown.{form_view}
use Rattle.image.proofs.Forms.{has_numbers, field_within}
use Rattle.image.proofs.faults.Firsts.{rule_told, rule_clear}
use Rattle.image.proofs.faults.number_fault.Goals as goal
use Rattle.image.proofs.faults.number_fault.Goals.{After-places_of-p}

there : (c : After-places_of-p) → has (form_view c.args.form) numbers ≡ true
there c = has_numbers c.args.form c.in-Numbered.is

within : (c : After-places_of-p) → c.places_of-p.result.numbers + 32 ≤ length c.args.image.now
within c = field_within (form_view c.args.form) c.args.image.now c.requires.0 c.places_of-p.result c.places_of-p.ensures numbers (there c)

pub returns-then-byte-lt-NUMBERS_LENGTH : goal.returns-then-byte-lt-NUMBERS_LENGTH
returns-then-byte-lt-NUMBERS_LENGTH c =
    let h = there (goal.at.returns-then-byte-lt-NUMBERS_LENGTH c).After-places_of-p in
    let w : c.places_of-p.result.numbers + 32 - c.places_of-p.result.numbers ≡ 32 = omega arith in
    ap body_test (rule_told (form_view c.args.form) c.args.image.now c.requires.0 (unused_rule numbers c.args.count) h (c.places_of-p.ensures.fields numbers h) w c.used_byte-byte.ensures c.if-byte-lt-NUMBERS_LENGTH.true)

pub returns : goal.returns
returns c =
    let h = there (goal.at.returns c).After-places_of-p in
    let w : c.places_of-p.result.numbers + 32 - c.places_of-p.result.numbers ≡ 32 = omega arith in
    ap body_test (rule_clear (form_view c.args.form) c.args.image.now c.requires.0 (unused_rule numbers c.args.count) h (c.places_of-p.ensures.fields numbers h) w c.used_byte-byte.ensures c.if-byte-lt-NUMBERS_LENGTH.false)

pub overflow_add-end : goal.overflow_add-end
overflow_add-end c = omega (arith, within c)

pub slice_bounds-used_byte-end : goal.slice_bounds-used_byte-end
slice_bounds-used_byte-end c = omega (arith, within c)
