-- `put_vectors`: the bytes from the input's place on are replaced.
use Rattle.basics.proofs.Prelude.{refl, arith}
use Rattle.images.specs.Form.{vectors}
use Rattle.image.{specs.Shown.form_view, proofs.Forms.placed, proofs.Forms.always_fits}
use Rattle.fields.proofs.entries.Tables.{vectors_stored}
use Rattle.fields.proofs.entries.put_vectors.Goals as goal

pub returns : goal.returns
returns c = vectors_stored (form_view c.args.form) c.args.image.now c.requires.0 c.args.input c.args.n c.args.x c.requires.1 c.put_bytes.ensures (placed c.places_of-p.ensures vectors refl)

pub overflow_add-p : goal.overflow_add-p
overflow_add-p c = omega (arith, placed c.places_of-p.ensures vectors refl, always_fits (form_view c.args.form) vectors refl)

pub put_bytes-requires : goal.put_bytes-requires
put_bytes-requires c = omega (arith, placed c.places_of-p.ensures vectors refl, always_fits (form_view c.args.form) vectors refl)
