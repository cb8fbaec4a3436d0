-- `copy_out`: the front of the pairs, with that of the numbers or of those from 0 on.
use Rattle.basics.proofs.Prelude.{◌≡◌, refl, true, ◌+◌, ◌≤◌, arith, length}
use Rattle.images.specs.Form.{pairs, numbers, has}
use Rattle.image.{specs.Shown.form_view, proofs.Forms.placed, proofs.Forms.always_within, proofs.Forms.field_within, proofs.Forms.has_numbers, proofs.Forms.no_numbers}
use Rattle.drain.proofs.events_out.{Copying.with_numbers_lem, Copying.from_zero_lem}
use Rattle.drain.proofs.events_out.copy_out.Goals as goal
use Rattle.drain.proofs.events_out.copy_out.Goals.{After-places_of-p, In-Numbered}

pairs_within : (c : After-places_of-p) → c.places_of-p.result.pairs + 32 ≤ length c.args.image.now
pairs_within c =
    let s = c in
    always_within (form_view s.args.form) s.args.image.now s.requires.0 c.places_of-p.result c.places_of-p.ensures pairs refl

there : (c : In-Numbered) → has (form_view c.args.form) numbers ≡ true
there c = has_numbers c.args.form c.in-Numbered.is

numbers_within : (c : In-Numbered) → c.places_of-p.result.numbers + 32 ≤ length c.args.image.now
numbers_within c =
    let p = c in let s = p in
    field_within (form_view s.args.form) s.args.image.now s.requires.0 p.places_of-p.result p.places_of-p.ensures numbers (there c)

pub overflow_add-end : goal.overflow_add-end
overflow_add-end c = record { fits = omega (arith, c.requires.1, pairs_within c) }

pub slice_bounds-put_events-end : goal.slice_bounds-put_events-end
slice_bounds-put_events-end c = let p = c in omega (arith, p.requires.1, pairs_within (goal.at.slice_bounds-put_events-end c).After-places_of-p)

pub returns-in_default : goal.returns-in_default
returns-in_default c = let e = c in let z = e in let p = z in let s = p in
    from_zero_lem (form_view s.args.form) s.args.image.now s.requires.0 s.args.n (placed p.places_of-p.ensures pairs refl) (no_numbers s.args.form z.in_default.not-Numbered) z.from_zero-first.ensures e.put_events.ensures

pub overflow_add-last : goal.overflow_add-last
overflow_add-last c = let p = c in record { fits = omega (arith, p.requires.1, numbers_within c) }

pub slice_bounds-put_events-end-2 : goal.slice_bounds-put_events-end-2
slice_bounds-put_events-end-2 c = let p = c in omega (arith, p.requires.1, pairs_within (goal.at.slice_bounds-put_events-end-2 c).After-places_of-p)

pub slice_bounds-put_events-end-3 : goal.slice_bounds-put_events-end-3
slice_bounds-put_events-end-3 c = let t = c in let p = t in omega (arith, p.requires.1, numbers_within (goal.at.slice_bounds-put_events-end-3 c).In-Numbered)

pub returns : goal.returns
returns c = let e = c in let t = e in let p = t in let s = p in
    with_numbers_lem (form_view s.args.form) s.args.image.now s.requires.0 s.args.n (placed p.places_of-p.ensures pairs refl) (there (goal.at.returns c).In-Numbered) (p.places_of-p.ensures.fields numbers (there (goal.at.returns c).In-Numbered)) e.put_events-2.ensures
