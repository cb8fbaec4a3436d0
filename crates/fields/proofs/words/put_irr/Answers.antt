-- `put_irr`: its eight bytes are replaced, and those of its copy.
use Rattle.basics.proofs.Prelude.{refl, arith, rules}
use Rattle.images.specs.Form.{irr, word}
use Rattle.image.{specs.Shown.form_view, proofs.Forms.placed}
use Rattle.fields.proofs.words.{Registers.word_within, Registers.irr_stored}
use Rattle.fields.proofs.words.put_irr.Goals as goal

pub returns : goal.returns
returns c = irr_stored (form_view c.args.form) c.args.image.now c.requires (search rules) c.places_of-p.result c.places_of-p.ensures c.put_word.ensures c.put_word-2.ensures

pub put_word-requires : goal.put_word-requires
put_word-requires c = omega (arith, word_within (form_view c.args.form) irr (placed c.places_of-p.ensures (word irr) refl) refl)
