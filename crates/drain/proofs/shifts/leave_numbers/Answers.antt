-- `leave_numbers`: the numbers' part of an image that has one.
use Rattle.basics.proofs.Prelude.{◌≡◌, true, ◌+◌, ◌≤◌, arith, length}
use Rattle.images.specs.Form.{numbers, has}
use Rattle.image.{specs.Shown.form_view, proofs.Forms.field_within, proofs.Forms.has_numbers}
use Rattle.drain.proofs.shifts.Shifting.{numbers_leave}
use Rattle.drain.proofs.shifts.leave_numbers.Goals as goal
use Rattle.drain.proofs.shifts.leave_numbers.Goals.{After-places_of-p}

there : (c : After-places_of-p) → has (form_view c.args.form) numbers ≡ true
there c = has_numbers c.args.form c.in-Numbered.is

within : (c : After-places_of-p) → c.places_of-p.result.numbers + 32 ≤ length c.args.image.now
within c =
    let s = c in
    field_within (form_view s.args.form) s.args.image.now s.requires.0 c.places_of-p.result c.places_of-p.ensures numbers (there c)

pub overflow_add-end : goal.overflow_add-end
overflow_add-end c = record { fits = omega (arith, within c) }

pub slice_bounds-leave-end : goal.slice_bounds-leave-end
slice_bounds-leave-end c = omega (arith, within c)

pub returns : goal.returns
returns c = let p = c in let s = p in
    numbers_leave (form_view s.args.form) s.args.image.now s.args.len s.args.n (there (goal.at.returns c).After-places_of-p) (p.places_of-p.ensures.fields numbers (there (goal.at.returns c).After-places_of-p)) c.leave.ensures
