-- `write_isr`: its half replaced is the act.
use Rattle.lines.proofs.halves.Halves.{isr_half}
use Rattle.lines.proofs.halves.write_isr.Goals as goal

pub returns : goal.returns
returns c = let p = c in
    let r = p in
    let a = r.args in
    isr_half a.image.now a.high a.val p.replace_u32.ensures r.isr-old.ensures p.put_isr.ensures
