-- `drain`: in the arm of its form the only one that waits is drained where the tests for it are passed; else the image is tested in full.
use Rattle.basics.proofs.Prelude.{rules}
use Rattle.image.specs.{Shown.form_view, declared.form.Form.TheVariants.One, declared.form.Form.TheVariants.Two, declared.form.Form.TheVariants.Numbered}
use Rattle.six_calls.proofs.{Arms.formed, Arms.waits_passed, reset_drain.Whole.drain_done}
use Rattle.six_calls.proofs.reset_drain.drain.Goals as goal

pub returns-then-one_fits : goal.returns-then-one_fits
returns-then-one_fits c = let i = c.args.image.now in
    let told = formed i c.form_of.result c.in-Some.form c.in-Some.is c.form_of.ensures One c.in-One-by_form.is in
    drain_done (waits_passed i (search rules) (form_view One) told 1 c.one_fits.result c.one_fits.ensures.0 c.if-one_fits.true) c.args.events.now (search rules) c.one.ensures

pub returns-then-one_fits-2 : goal.returns-then-one_fits-2
returns-then-one_fits-2 c = let i = c.args.image.now in
    let told = formed i c.form_of.result c.in-Some.form c.in-Some.is c.form_of.ensures Two c.in-Two-by_form.is in
    drain_done (waits_passed i (search rules) (form_view Two) told 1 c.one_fits-in-Some.result c.one_fits-in-Some.ensures.0 c.if-one_fits-2.true) c.args.events.now (search rules) c.one-then-one_fits-2.ensures

pub returns-then-one_fits-3 : goal.returns-then-one_fits-3
returns-then-one_fits-3 c = let i = c.args.image.now in
    let told = formed i c.form_of.result c.in-Some.form c.in-Some.is c.form_of.ensures Numbered c.in-Numbered-by_form.is in
    drain_done (waits_passed i (search rules) (form_view Numbered) told 1 c.one_fits-in-Some-2.result c.one_fits-in-Some-2.ensures.0 c.if-one_fits-3.true) c.args.events.now (search rules) c.one-then-one_fits-3.ensures
