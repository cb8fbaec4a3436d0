-- `put_plain`: the eight bytes from its place on are replaced.
use Rattle.basics.proofs.Prelude.{rules}
use Rattle.image.specs.Shown.{form_view}
use Rattle.device.specs.map.Views.{plain_view}
use Rattle.fields.proofs.words.{Registers.plain_stored}
use Rattle.fields.proofs.words.put_plain.Goals as goal

pub returns : goal.returns
returns c = plain_stored (form_view c.args.form) c.args.image.now c.requires (search rules) c.put_word.ensures (plain_view c.args.register) c.place_of.ensures
