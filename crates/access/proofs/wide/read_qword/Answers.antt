-- `read_qword`: eight bytes of a run at once; and else a Dword, and the next one.
use Rattle.laws.proofs.laws.Widths.{qword_both}
use Rattle.access.proofs.cells.Entries.{eight_read}
use Rattle.access.proofs.wide.read_qword.Goals as goal

pub returns-then-eight_together : goal.returns-then-eight_together
returns-then-eight_together c = let t = c in
    let a = t.args in
    eight_read a.image.now a.offset (t.eight_together.ensures t.if-eight_together.true) c.read_run.ensures

pub returns : goal.returns
returns c d ns h = qword_both d.core _ _ _ c.read_dword-low.type_inv c.read_dword.type_inv (c.read_dword-low.ensures d ns h) (c.read_dword.ensures d ns h)
