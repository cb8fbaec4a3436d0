-- `read_entry`: by the table that the offset lies in.
use Rattle.basics.proofs.Prelude.{arith}
use Rattle.access.proofs.cells.{Entries.route_entry, Entries.vector_entry, Entries.none_entry}
use Rattle.access.proofs.cells.read_entry.Goals as goal

pub returns-in-4 : goal.returns-in-4
returns-in-4 c = let a = c.args in route_entry a.image.now a.offset c.in-4.is c.route.ensures

pub returns-in-8 : goal.returns-in-8
returns-in-8 c = let a = c.args in vector_entry a.image.now a.offset c.in-8.is c.vector.ensures

pub returns-in_default : goal.returns-in_default
returns-in_default c = none_entry c.args.image.now c.args.offset (omega arith) (omega arith)
