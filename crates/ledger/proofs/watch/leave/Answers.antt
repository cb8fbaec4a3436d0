-- `leave`: those in service are those that `served` tells of, and their deasserts are offered.
use Rattle.basics.proofs.Prelude.{rules}
use Rattle.ledger.specs.watch.Kept.{lines_of}
use Rattle.ledger.proofs.watch.Moving.{leave_all}
use Rattle.ledger.proofs.watch.leave.Goals as goal

pub returns : goal.returns
returns c = let a = c.args in
    leave_all (lines_of a.w) a.k a.set c.served-served.ensures (search rules) (search rules) c.offer_each-waiting.ensures
