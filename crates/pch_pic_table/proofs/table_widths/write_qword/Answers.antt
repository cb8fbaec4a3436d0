-- `write_qword`: a Dword, and the next one.
use Rattle.basics.proofs.Prelude.{arith}
use Rattle.access.proofs.wide.Dwords.{qword_both}
use Rattle.pch_pic_table.proofs.table_widths.write_qword.Goals as goal

pub returns : goal.returns
returns c = let a = c.args in
    let p = c.write_dword-first.ensures in
    let q = c.write_dword.ensures in
    (omega arith, qword_both a.offset a.value c.half.ensures c.half-2.ensures p.1 q.1)
