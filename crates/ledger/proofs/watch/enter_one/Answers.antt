-- `enter_one`: `pending` tells whether this one waits.
use Rattle.basics.proofs.Prelude.{true, rules}
use Rattle.ledger.specs.watch.Kept.{lines_of}
use Rattle.passes.proofs.tallies.laws.Turning.{offers_returned}
use Rattle.ledger.proofs.watch.{Moving.enter_one_none, Moving.enter_one_some}
use Rattle.ledger.proofs.watch.enter_one.Goals as goal

pub returns-then-pending-eq0 : goal.returns-then-pending-eq0
returns-then-pending-eq0 c = let a = c.args in
    enter_one_none a.n c.requires.1 (lines_of a.w) a.sheet.now a.k a.w.waiting c.pending.ensures c.if-pending-eq0.true

pub returns : goal.returns
returns c = let a = c.args in
    enter_one_some a.n c.requires.1 (lines_of a.w) a.sheet.now a.k a.w.waiting c.pending.ensures c.if-pending-eq0.false (search rules) (offers_returned a.n a.k true a.w.waiting c.event.ensures)
