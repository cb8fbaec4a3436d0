-- `write_byte`: by what the offset means; a register's half is read, and written with the byte replaced.
use Rattle.basics.proofs.Prelude.{arith, rules}
use Rattle.pch_pic_table.proofs.table_bytes.Parts.{part_writes, silent_writes, nothing_writes, route_writes, vector_writes}
use Rattle.pch_pic_table.proofs.table_bytes.write_byte.Goals as goal

pub returns-then-silent : goal.returns-then-silent
returns-then-silent c = let a = c.args in (omega arith, silent_writes a.image.now a.offset a.val c.in-Part.ensures c.if-silent.true)

pub returns-else-silent : goal.returns-else-silent
returns-else-silent c = let a = c.args in
    let w = c.write_half.ensures in
    (w.0, part_writes a.image.now a.offset a.val c.in-Part.ensures c.if-silent.false c.value_of.ensures c.half-old.ensures c.with_byte.ensures w.1)

pub returns-in-Route : goal.returns-in-Route
returns-in-Route c = let a = c.args in (omega arith, route_writes a.image.now a.offset a.val (search rules) c.in-Route.ensures c.put_routes.ensures)

pub returns-in-Vector : goal.returns-in-Vector
returns-in-Vector c = let a = c.args in (omega arith, vector_writes a.image.now a.offset a.val (search rules) c.in-Vector.ensures c.put_vectors.ensures)

pub returns-in-Nothing : goal.returns-in-Nothing
returns-in-Nothing c = let a = c.args in (omega arith, nothing_writes a.image.now a.offset a.val c.in-Nothing.ensures)
