-- `join`: the number read is joined to the total.
use Rattle.ledger.proofs.totals.Rows.{joins}
use Rattle.ledger.proofs.totals.join.Goals as goal

pub returns : goal.returns
returns c = joins c.args.n c.args.column c.requires.1 c.cell-x.ensures c.cell-total.ensures c.join_with.ensures c.put_cell.ensures
