-- `leave_one`: `served` tells whether this one is in service.
use Rattle.basics.proofs.Prelude.{false, rules}
use Rattle.ledger.specs.watch.Kept.{lines_of}
use Rattle.passes.proofs.tallies.laws.Turning.{offers_returned}
use Rattle.ledger.proofs.watch.{Moving.leave_one_none, Moving.leave_one_some}
use Rattle.ledger.proofs.watch.leave_one.Goals as goal

pub returns-then-served-eq0 : goal.returns-then-served-eq0
returns-then-served-eq0 c = let a = c.args in
    leave_one_none a.n c.requires.1 (lines_of a.w) a.sheet.now a.k a.w.waiting c.served.ensures (search rules) c.if-served-eq0.true

pub returns : goal.returns
returns c = let a = c.args in
    leave_one_some a.n c.requires.1 (lines_of a.w) a.sheet.now a.k a.w.waiting c.served.ensures (search rules) c.if-served-eq0.false (offers_returned a.n a.k false a.w.waiting c.event.ensures)
