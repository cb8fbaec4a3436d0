-- `convert`: each refusal leaves where the order of the tests puts it.
use Rattle.std.proofs.lemmas.Result.{err_from_is_err_and}
use Rattle.basics.proofs.Prelude.{refl, sym, ap, ◌∙◌, []}
use Rattle.images.specs.Image.{image_test}
use Rattle.calls.proofs.laws.Conversions.{no_image, no_target, not_accepted}
use Rattle.image.specs.Shown.{form_known}
use Rattle.pch_pic_convert.proofs.convert.convert.Goals as goal

pub returns-in_default : goal.returns-in_default
returns-in_default c = sym (no_image c.args.image.now c.args.target.now (sym c.form_of.ensures ∙ ap form_known c.in_default.is))

pub returns-in_default-form_of : goal.returns-in_default-form_of
returns-in_default-form_of c = sym (no_target c.args.image.now c.args.target.now (sym c.form_of.ensures ∙ ap form_known c.in-Some.is) (sym c.form_of-2.ensures ∙ ap form_known c.in_default-form_of.is))

pub returns-in_err-own : goal.returns-in_err-own
returns-in_err-own c =
    let p = err_from_is_err_and c.from_residual.result c.from_residual.ensures.1 in
    let i = c.args.image.now in
    let d = c.in_err-own.ensures in
    rw (p.1, p.2)
    ((λ s. record { number = d.number s; value = d.value s; image = c.args.target.now; events = [] })
    ∙ sym (not_accepted i c.args.target.now (sym c.form_of.ensures ∙ ap form_known c.in-Some.is) (sym c.form_of-2.ensures ∙ ap form_known c.in-Some-form_of.is) (image_test i) refl d.not))

pub convert_tested-requires : goal.convert_tested-requires
convert_tested-requires c = (c.in_ok-own.ensures, sym c.form_of-2.ensures ∙ ap form_known c.in-Some-form_of.is)
