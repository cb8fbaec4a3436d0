-- `convert_tested`: the target is the image of the device that was loaded, with its numbers.
use Rattle.basics.proofs.Prelude.{sym, ap, ◌∙◌}
use Rattle.rules.specs.Device.{Device}
use Rattle.images.specs.{Form.forms, Image.encode_as, Image.numbers_in, Image.number_body}
use Rattle.images.proofs.laws.Tests.{form_known_lem}
use Rattle.laws.proofs.laws.Images.{decode_as_lem, numbers_as_lem}
use Rattle.calls.proofs.laws.Conversions.{convert_done}
use Rattle.image.specs.Shown.{form_view}
use Rattle.fields.proofs.inplace.Passing.{long, few}
use Rattle.pch_pic_convert.proofs.convert.convert_tested.Goals as goal

pub load_numbers-numbers-requires : goal.load_numbers-numbers-requires
load_numbers-numbers-requires c = let p = c.requires.0 in (long p, few p)

pub load-requires : goal.load-requires
load-requires c = let p = c.requires.0 in (long p, few p)

pub save-requires : goal.save-requires
save-requires c = (form_known_lem forms _ _ c.requires.1, c.load.ensures.well)

pub returns : goal.returns
returns c =
    let p = c.requires.0 in
    let i = c.args.image.now in
    let f = form_view c.args.own in
    convert_done i c.args.target.now p.known c.requires.1 p.good
    (c.save.ensures (numbers_in i) (ap number_body (numbers_as_lem f i (long p)) ∙ sym (c.load_numbers-numbers.ensures p.good))
    ∙ ap (λ (d : Device). encode_as (form_view c.args.form) d (numbers_in i)) (c.load.ensures.shows ∙ sym (decode_as_lem f i (long p))))
