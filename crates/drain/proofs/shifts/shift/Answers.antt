-- `shift`: the pairs, the numbers and the count.
use Rattle.basics.proofs.Prelude.{◌≡◌, refl, true, ◌+◌, ◌≤◌, arith, length, rules}
use Rattle.images.{specs.Form.Field, specs.Form.count, specs.Form.pairs, specs.Form.size, proofs.laws.Layout.always}
use Rattle.image.{specs.Shown.form_view, specs.Shown.place_in, proofs.Forms.placed, proofs.Forms.always_within}
use Rattle.drain.proofs.shifts.Shifting.{shifts}
use Rattle.drain.proofs.shifts.shift.Goals as goal
use Rattle.drain.proofs.shifts.shift.Goals.{After-places_of-p}

within : (c : After-places_of-p) (q : Field) → always q ≡ true → place_in c.places_of-p.result q + size q ≤ length c.args.image.now
within c q h =
    let s = c in
    always_within (form_view s.args.form) s.args.image.now s.requires.0 c.places_of-p.result c.places_of-p.ensures q h

pub overflow_add-end : goal.overflow_add-end
overflow_add-end c = record { fits = omega (arith, within c pairs refl) }

pub slice_bounds-leave-end : goal.slice_bounds-leave-end
slice_bounds-leave-end c = omega (arith, within c pairs refl)

pub bounds-image-count : goal.bounds-image-count
bounds-image-count c = let n = c in let p = n in let s = p in
    let same : length n.leave_numbers.new.image ≡ length s.args.image.now = search rules in
    omega (arith, same, within (goal.at.bounds-image-count c).After-places_of-p count refl)

pub returns : goal.returns
returns c = let n = c in let l = n in let p = l in let s = p in
    shifts (form_view s.args.form) s.args.image.now s.requires.0 s.args.len s.args.n s.requires.1 s.requires.2 (placed p.places_of-p.ensures pairs refl) (placed p.places_of-p.ensures count refl)
    l.leave.ensures n.leave_numbers.ensures
