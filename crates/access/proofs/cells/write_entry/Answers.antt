-- `write_entry`: a run of one byte.
use Rattle.basics.proofs.Prelude.{arith, rules}
use Rattle.access.proofs.cells.{Entries.entry_written, Entries.routes_acts, Entries.vectors_acts, Entries.none_written}
use Rattle.access.proofs.cells.write_entry.Goals as goal

pub returns-in-4 : goal.returns-in-4
returns-in-4 c = let p = c in
    let a = p.args in
    entry_written a.image.now a.offset a.val (search rules) (routes_acts a.image.now a.offset 1 a.val (omega arith) p.in-4.is p.put_routes.ensures)

pub returns-in-8 : goal.returns-in-8
returns-in-8 c = let p = c in
    let a = p.args in
    entry_written a.image.now a.offset a.val (search rules) (vectors_acts a.image.now a.offset 1 a.val (omega arith) p.in-8.is p.put_vectors.ensures)

pub returns-in_default : goal.returns-in_default
returns-in_default c = none_written c.args.image.now c.args.offset c.args.val (omega arith) (omega arith)
