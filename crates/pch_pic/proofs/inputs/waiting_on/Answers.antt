-- `waiting_on`: the set is told.
use Rattle.std.proofs.Common.{Some, Ok}
use Rattle.answer.proofs.fronts.Told.{told_of_waiting}
use Rattle.six_calls.proofs.who_waits.Telling.{waits_told}
use Rattle.pch_pic.proofs.inputs.waiting_on.Goals as goal

pub returns : goal.returns
returns c = let i = c.args.image.now in
    told_of_waiting i c.args.answer.now c.requires.1 (Ok (Some c.set_of-set.result)) c.tell.ensures (waits_told i c.requires.0 c.set_of-set.ensures)
