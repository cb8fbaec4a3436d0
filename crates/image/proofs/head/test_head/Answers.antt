-- `test_head`: no form has the length.
use Rattle.image.proofs.head.Orders.{no_form}
use Rattle.image.proofs.head.test_head.Goals as goal

pub returns-in_default : goal.returns-in_default
returns-in_default c = no_form c.args.image.now c.form_of.result c.form_of.ensures c.in_default.is
