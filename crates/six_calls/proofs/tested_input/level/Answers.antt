-- `level`: in the arm of its form the image is accepted where the quick test is passed, and else tested in full.
use Rattle.basics.proofs.Prelude.{rules}
use Rattle.image.specs.{Shown.form_view, declared.form.Form.TheVariants.One, declared.form.Form.TheVariants.Two, declared.form.Form.TheVariants.Numbered}
use Rattle.six_calls.proofs.Arms.{formed, quick_passed}
use Rattle.six_calls.proofs.tested_input.level.Goals as goal

pub level-requires : goal.level-requires
level-requires c = let i = c.args.image.now in
    quick_passed i (search rules) (form_view One) (formed i c.form_of.result c.in-Some.form c.in-Some.is c.form_of.ensures One c.in-One-by_form.is) c.odd.result c.odd.ensures c.if-odd-eq0.true

pub level-requires-then-odd-eq0-2 : goal.level-requires-then-odd-eq0-2
level-requires-then-odd-eq0-2 c = let i = c.args.image.now in
    quick_passed i (search rules) (form_view Two) (formed i c.form_of.result c.in-Some.form c.in-Some.is c.form_of.ensures Two c.in-Two-by_form.is) c.odd-in-Some.result c.odd-in-Some.ensures c.if-odd-eq0-2.true

pub level-requires-then-odd-eq0-3 : goal.level-requires-then-odd-eq0-3
level-requires-then-odd-eq0-3 c = let i = c.args.image.now in
    quick_passed i (search rules) (form_view Numbered) (formed i c.form_of.result c.in-Some.form c.in-Some.is c.form_of.ensures Numbered c.in-Numbered-by_form.is) c.odd-in-Some-2.result c.odd-in-Some-2.ensures c.if-odd-eq0-3.true
