-- `reset`: refused for its length alone; done, the image is that of the device after reset, with numbers from 0.
use Rattle.basics.proofs.Prelude.{◌≡◌, sym, ap, ◌∙◌, [], length}
use Rattle.rules.specs.{Device.none, Device.reset, Numbering.from_zero}
use Rattle.images.{specs.Form.forms, specs.Form.known, specs.Form.form_of, proofs.laws.Tests.form_known_lem}
use Rattle.laws.proofs.laws.Images.{encode_as_lem}
use Rattle.calls.proofs.laws.Outcomes.{reset_refused, reset_done}
use Rattle.image.specs.Shown.{form_view, form_known}
use Rattle.six_calls.proofs.reset_drain.reset.Goals as goal

pub returns-in_default : goal.returns-in_default
returns-in_default c = sym (reset_refused c.args.image.now (sym c.form_of.ensures ∙ ap form_known c.in_default.is))

pub returns : goal.returns
returns c = let i = c.args.image.now in
    let f = form_view c.in-Some.form in
    let told : form_of (length i) ≡ known f = sym c.form_of.ensures ∙ ap form_known c.in-Some.is in
    (λ k. record {
      number = 0;
      value = none;
      image = (c.save_reset.ensures ∙ sym (encode_as_lem f i (form_known_lem forms _ _ told) reset (from_zero 0))) k;
      events = [];
    })
    ∙ sym (reset_done i f told)
