-- `headed`: an image without the form's contents is refused by them.
use Rattle.basics.proofs.Prelude.{sym, ◌∙◌}
use Rattle.image.specs.Shown.{form_view}
use Rattle.image.proofs.head.{Orders.bad_contents}
use Rattle.image.proofs.head.headed.Goals as goal

pub returns : goal.returns
returns c = bad_contents c.args.image.now (form_view c.args.form) c.requires (sym c.contents_good.ensures ∙ c.if-contents_good.false)
