use Rattle.basics.proofs.Prelude.{arith}
use Rattle.access.proofs.narrow.Bytes.{word_written}
use Rattle.pch_pic_table.proofs.table_widths.write_word.Goals as goal

pub returns : goal.returns
returns c = let a = c.args in
    let p = c.write_byte-first.ensures in
    let q = c.write_byte.ensures in
    (omega arith, word_written a.offset a.low c.byte_of.ensures c.byte_of-2.ensures p.1 q.1)
