-- `count`: the number read, and one more, as four bytes hold it.
use Rattle.basics.proofs.Prelude.{refl}
use Rattle.ledger.proofs.cells.Held.{counts}
use Rattle.ledger.proofs.cells.count.Goals as goal

pub returns : goal.returns
returns c = let a = c.args in
    counts a.row a.column c.requires.3 c.cell-x.ensures refl c.put_cell.ensures
