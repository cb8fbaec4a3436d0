-- `save_reset`: in each form the contents, the vectors where its places name them, and all else.
use Rattle.basics.proofs.Prelude.{refl, sym, ap, ◌∙◌}
use Rattle.rules.specs.{Device.reset, Numbering.from_zero}
use Rattle.images.specs.{Form.form_length, Image.encode_as}
use Rattle.images.specs.Form as rules-form
use Rattle.image.specs.{Shown.form_view}
use Rattle.stored.proofs.{saves.Putting.reset_saved}
use Rattle.stored.proofs.save_reset.save_reset.Goals as goal

pub returns-in-One : goal.returns-in-One
returns-in-One c =
    let e = c.in-One.is in
    reset_saved rules-form.one c.args.image.now 158 (c.requires ∙ ap (λ k. form_length (form_view k)) e) refl c.put_contents.ensures c.put_order.ensures c.save_others.ensures
    ∙ sym (ap (λ k. encode_as (form_view k) reset (from_zero 0)) e)

pub returns-in-Two : goal.returns-in-Two
returns-in-Two c =
    let e = c.in-Two.is in
    reset_saved rules-form.two c.args.image.now 150 (c.requires ∙ ap (λ k. form_length (form_view k)) e) refl c.put_contents-in-Two.ensures c.put_order-in-Two.ensures c.save_others-in-Two.ensures
    ∙ sym (ap (λ k. encode_as (form_view k) reset (from_zero 0)) e)

pub returns-in-Numbered : goal.returns-in-Numbered
returns-in-Numbered c =
    let e = c.in-Numbered.is in
    reset_saved rules-form.numbered c.args.image.now 155 (c.requires ∙ ap (λ k. form_length (form_view k)) e) refl c.put_contents-in-Numbered.ensures c.put_order-in-Numbered.ensures c.save_others-in-Numbered.ensures
    ∙ sym (ap (λ k. encode_as (form_view k) reset (from_zero 0)) e)
