-- `read_qword`: a Dword, and the next one.
use Rattle.laws.proofs.laws.Widths.{qword_both}
use Rattle.pch_pic_table.proofs.table_widths.read_qword.Goals as goal

pub returns : goal.returns
returns c d ns h = qword_both d.core _ _ _ c.read_dword-low.type_inv c.read_dword.type_inv (c.read_dword-low.ensures d ns h) (c.read_dword.ensures d ns h)
