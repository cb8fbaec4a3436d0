-- `load_lines`: the registers end within the image.
use Rattle.basics.proofs.Prelude.{true, ◌≡◌, refl, ◌+◌, ◌≤◌, arith, length}
use Rattle.images.{specs.Form.mask, specs.Form.irr, specs.Form.isr, specs.Form.Field, specs.Form.word, specs.Form.size, proofs.laws.Layout.always}
use Rattle.image.{specs.Shown.form_view, specs.Shown.place_in, proofs.Forms.always_within}
use Rattle.pch_pic_convert.proofs.load_words.load_lines.Goals as goal
use Rattle.pch_pic_convert.proofs.load_words.load_lines.Goals.{After-places_of-p}

-- a field ends within the image
within : (c : After-places_of-p) (q : Field) → always q ≡ true → place_in c.places_of-p.result q + size q ≤ length c.args.image.now
within c = always_within (form_view c.args.form) c.args.image.now c.requires c.places_of-p.result c.places_of-p.ensures

pub word_at-int_mask-requires : goal.word_at-int_mask-requires
word_at-int_mask-requires c = within c (word mask) refl

pub word_at-intirr-requires : goal.word_at-intirr-requires
word_at-intirr-requires c = within (goal.at.word_at-intirr-requires c).After-places_of-p (word irr) refl

pub word_at-intisr-requires : goal.word_at-intisr-requires
word_at-intisr-requires c = let p = (goal.at.word_at-intisr-requires c).After-places_of-p in omega (arith, within p (word irr) refl, within p (word isr) refl)
