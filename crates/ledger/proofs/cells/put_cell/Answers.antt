-- `put_cell`: the bytes at its place are the number's.
use Rattle.ledger.proofs.cells.Held.{puts_cell}
use Rattle.ledger.proofs.cells.put_cell.Goals as goal

pub returns : goal.returns
returns c =
    let a = c.args in
    puts_cell a.wide a.sheet.now a.row a.column c.requires.1 c.requires.2 a.x c.place-at.ensures c.bytes.ensures c.put_bytes.ensures
