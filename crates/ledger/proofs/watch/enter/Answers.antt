-- `enter`: the inputs that wait are those that `pending` tells of, and the lowest of them goes into service.
use Rattle.basics.proofs.Prelude.{true, rules, first_below}
use Rattle.ledger.specs.watch.Kept.{lines_of}
use Rattle.ledger.proofs.watch.{Moving.enter_none, Moving.enter_some}
use Rattle.ledger.proofs.watch.enter.Goals as goal

pub returns-then-waits-eq0 : goal.returns-then-waits-eq0
returns-then-waits-eq0 c = let a = c.args in
    enter_none (lines_of a.w) a.sheet.now a.k a.w.waiting a.set c.pending-waits.ensures true c.if-waits-eq0.true

pub returns : goal.returns
returns c = let a = c.args in
    enter_some (lines_of a.w) a.sheet.now a.k a.w.waiting a.set c.pending-waits.ensures (search rules) c.if-waits-eq0.false (search rules) (first_below c.pending-waits.result (search rules) c.if-waits-eq0.false) true c.offer-waiting.ensures
