-- `write_dword`: by what the offset means.
use Rattle.basics.proofs.Prelude.{arith}
use Rattle.pch_pic_table.proofs.table_dwords.Dwords.{half_writes, between_writes, nothing_writes}
use Rattle.pch_pic_table.proofs.table_dwords.write_dword.Goals as goal

pub returns-then-byte-ne0 : goal.returns-then-byte-ne0
returns-then-byte-ne0 c = let a = c.args in (omega arith, between_writes a.offset a.image.now a.val c.in-Part.ensures c.if-byte-ne0.true)

pub returns-else-byte-ne0 : goal.returns-else-byte-ne0
returns-else-byte-ne0 c = let a = c.args in
    let w = c.write_half.ensures in
    (w.0, half_writes a.offset a.image.now a.val c.in-Part.ensures c.if-byte-ne0.false w.1)

pub returns-in-Nothing : goal.returns-in-Nothing
returns-in-Nothing c = let a = c.args in (omega arith, nothing_writes a.offset a.image.now a.val c.in-Nothing.ensures)
