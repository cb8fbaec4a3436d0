-- `put_mask`: its eight bytes are replaced.
use Rattle.basics.proofs.Prelude.{refl, arith, rules}
use Rattle.images.specs.Form.{mask, word}
use Rattle.image.{specs.Shown.form_view, proofs.Forms.placed}
use Rattle.fields.proofs.words.{Registers.word_within, Registers.mask_stored}
use Rattle.fields.proofs.words.put_mask.Goals as goal

pub returns : goal.returns
returns c = mask_stored (form_view c.args.form) c.args.image.now c.requires (search rules) c.put_word.ensures (placed c.places_of-p.ensures (word mask) refl)

pub put_word-requires : goal.put_word-requires
put_word-requires c = omega (arith, word_within (form_view c.args.form) mask (placed c.places_of-p.ensures (word mask) refl) refl)
