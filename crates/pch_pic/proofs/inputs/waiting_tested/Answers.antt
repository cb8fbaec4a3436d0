-- `waiting_tested`: what the call tells stands in the answer area.
use Rattle.answer.proofs.fronts.Told.{told_of_waiting}
use Rattle.pch_pic.proofs.inputs.waiting_tested.Goals as goal

pub returns : goal.returns
returns c = told_of_waiting c.args.image.now c.args.answer.now c.requires c.waiting-told.result c.tell.ensures c.waiting-told.ensures
