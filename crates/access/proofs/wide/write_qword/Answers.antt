-- `write_qword`: eight bytes of a run at once; and else a Dword, and the next one.
use Rattle.basics.proofs.Prelude.{arith}
use Rattle.access.proofs.{cells.Entries.eight_together, wide.Dwords.qword_both}
use Rattle.access.proofs.wide.write_qword.Goals as goal

pub returns-then-eight_together : goal.returns-then-eight_together
returns-then-eight_together c = let w = c in
    let t = w in
    let a = t.args in
    (omega arith, eight_together a.image.now a.offset a.value (t.eight_together.ensures t.if-eight_together.true) w.write_run.ensures)

pub returns : goal.returns
returns c = let q = c in
    let p = q in
    let a = p.args in
    (omega (arith, p.write_dword-first.ensures.0, q.write_dword.ensures.0), qword_both a.offset a.value p.half.ensures q.half-2.ensures p.write_dword-first.ensures.1 q.write_dword.ensures.1)
