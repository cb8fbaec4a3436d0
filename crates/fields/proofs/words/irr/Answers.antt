-- `irr`: the eight bytes from its place on spell it.
use Rattle.basics.proofs.Prelude.{refl, arith}
use Rattle.images.specs.Form.{irr, word}
use Rattle.image.{specs.Shown.form_view, proofs.Forms.placed}
use Rattle.fields.proofs.words.{Registers.word_within, Registers.word_read}
use Rattle.fields.proofs.words.irr.Goals as goal

pub returns : goal.returns
returns c = word_read (form_view c.args.form) c.args.image.now c.requires irr (placed c.places_of-p.ensures (word irr) refl) refl c.word_at.ensures

pub word_at-requires : goal.word_at-requires
word_at-requires c = omega (arith, word_within (form_view c.args.form) irr (placed c.places_of-p.ensures (word irr) refl) refl)
