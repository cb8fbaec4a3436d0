-- `count_raise`: a wait begins where neither its latch nor its service is on.
use Rattle.ledger.specs.watch.Kept.{lines_of}
use Rattle.ledger.proofs.watch.{Moving.raise_counted, Moving.raise_begins, Moving.raise_found}
use Rattle.ledger.proofs.watch.count_raise.Goals as goal

pub returns-then-served-eq0 : goal.returns-then-served-eq0
returns-then-served-eq0 c = let a = c.args in
    raise_begins a.n c.requires.1 (lines_of a.w) c.served.ensures c.if-served-eq0.true a.k (raise_counted a.n c.count.ensures) c.begin.ensures

pub returns-else-served-eq0 : goal.returns-else-served-eq0
returns-else-served-eq0 c = let a = c.args in
    raise_found a.n c.requires.1 (lines_of a.w) c.served.ensures c.if-served-eq0.false a.k (raise_counted a.n c.count.ensures)
