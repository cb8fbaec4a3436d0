-- `plain`: the eight bytes from its place on spell it.
use Rattle.basics.proofs.Prelude.{refl}
use Rattle.images.specs.Form.{stored}
use Rattle.image.specs.Shown.{form_view}
use Rattle.device.specs.map.Views.{plain_view}
use Rattle.fields.proofs.words.{Registers.word_read}
use Rattle.fields.proofs.words.plain.Goals as goal

pub returns : goal.returns
returns c = word_read (form_view c.args.form) c.args.image.now c.requires (stored (plain_view c.args.register)) c.place_of.ensures refl c.word_at.ensures
