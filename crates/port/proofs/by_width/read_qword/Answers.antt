-- `read_qword` is right since the second Dword stands above the 32 bits of the first.
use Rattle.laws.proofs.laws.Widths.{qword_both}
use Rattle.port.proofs.by_width.read_qword.Goals as goal

pub returns : goal.returns
returns c = rw (c.from.ensures, c.from-2.ensures) (qword_both _ _ _ _ c.read_dword-low.type_inv c.read_dword-high.type_inv c.read_dword-low.ensures c.read_dword-high.ensures)
