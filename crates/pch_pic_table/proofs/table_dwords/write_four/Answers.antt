-- `write_four`: the four Bytes that a Dword among the bytes is, each of which drops nothing.
use Rattle.pch_pic_table.proofs.table_dwords.Dwords.{four_writes}
use Rattle.pch_pic_table.proofs.table_dwords.write_four.Goals as goal

pub returns : goal.returns
returns c = let a = c.args in
    four_writes a.offset a.val c.requires.2 c.byte_of.ensures c.byte_of-2.ensures c.byte_of-3.ensures c.byte_of-4.ensures
    c.write_byte.ensures.1 c.write_byte-2.ensures.1 c.write_byte-3.ensures.1 c.write_byte-4.ensures.1
