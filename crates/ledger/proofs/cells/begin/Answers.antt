-- `begin`: the number behind the record's stands in the last column.
use Rattle.ledger.proofs.cells.Held.{begins_at}
use Rattle.ledger.proofs.cells.begin.Goals as goal

pub returns : goal.returns
returns c = begins_at c.args.n c.args.k c.requires.2 c.put_cell.ensures
