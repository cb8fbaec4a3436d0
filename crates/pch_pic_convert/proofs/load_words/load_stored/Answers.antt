-- `load_stored`: the registers end within the image.
use Rattle.basics.proofs.Prelude.{true, ◌≡◌, refl, ◌+◌, ◌≤◌, length}
use Rattle.images.{specs.Form.stored, specs.Form.Field, specs.Form.word, specs.Form.size, proofs.laws.Layout.always}
use Rattle.rules.specs.Core.{htmsi_en, edge, pol, auto0, auto1}
use Rattle.image.{specs.Shown.form_view, specs.Shown.place_in, proofs.Forms.always_within}
use Rattle.pch_pic_convert.proofs.load_words.load_stored.Goals as goal
use Rattle.pch_pic_convert.proofs.load_words.load_stored.Goals.{After-places_of-p}

-- a field ends within the image
within : (c : After-places_of-p) (q : Field) → always q ≡ true → place_in c.places_of-p.result q + size q ≤ length c.args.image.now
within c = always_within (form_view c.args.form) c.args.image.now c.requires c.places_of-p.result c.places_of-p.ensures

pub word_at-htmsi_en-requires : goal.word_at-htmsi_en-requires
word_at-htmsi_en-requires c = within c (word (stored htmsi_en)) refl

pub word_at-intedge-requires : goal.word_at-intedge-requires
word_at-intedge-requires c = within (goal.at.word_at-intedge-requires c).After-places_of-p (word (stored edge)) refl

pub word_at-int_polarity-requires : goal.word_at-int_polarity-requires
word_at-int_polarity-requires c = within (goal.at.word_at-int_polarity-requires c).After-places_of-p (word (stored pol)) refl

pub word_at-auto_ctrl0-requires : goal.word_at-auto_ctrl0-requires
word_at-auto_ctrl0-requires c = within (goal.at.word_at-auto_ctrl0-requires c).After-places_of-p (word (stored auto0)) refl

pub word_at-auto_ctrl1-requires : goal.word_at-auto_ctrl1-requires
word_at-auto_ctrl1-requires c = within (goal.at.word_at-auto_ctrl1-requires c).After-places_of-p (word (stored auto1)) refl
