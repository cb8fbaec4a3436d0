-- `event`: the column of its kind, the columns of its fate, and for an assert the wait.
use Rattle.ledger.proofs.cells.{Held.asserted_taken, Held.deasserted_taken}
use Rattle.ledger.proofs.cells.event.Goals as goal

pub returns-then-asserted : goal.returns-then-asserted
returns-then-asserted c = let a = c.args in
    asserted_taken a.n a.k a.asserted a.fate c.kind_column.ensures c.if-asserted.true c.count.ensures c.count_fate.ensures c.settle.ensures

pub returns-else-asserted : goal.returns-else-asserted
returns-else-asserted c = let a = c.args in
    deasserted_taken a.n a.k a.asserted a.fate c.kind_column.ensures c.if-asserted.false c.count.ensures c.count_fate.ensures
