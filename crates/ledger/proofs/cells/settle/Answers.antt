-- `settle`: a wait that is over stays so; one that is not gives its length and is over.
use Rattle.basics.proofs.Prelude.{max, ap, ◌∙◌}
use Rattle.ledger.proofs.cells.{Held.over_settles, Held.settles}
use Rattle.ledger.proofs.cells.settle.Goals as goal

pub returns-then-since-eq0 : goal.returns-then-since-eq0
returns-then-since-eq0 c = over_settles c.args.n c.requires.1 c.cell-since.ensures c.args.k c.if-since-eq0.true

pub returns : goal.returns
returns c = let a = c.args in
    settles a.n c.requires.1 c.cell-since.ensures c.if-since-eq0.false a.k c.requires.2 c.cell-most.ensures
    (c.max.ensures ∙ ap (max c.cell-most.result) c.elapsed.ensures) c.put_cell.ensures c.put_cell-2.ensures
