-- `write_plain`: its half replaced is the act.
use Rattle.device.specs.map.Views.{plain_view}
use Rattle.lines.proofs.halves.Halves.{plain_half}
use Rattle.lines.proofs.halves.write_plain.Goals as goal

pub returns : goal.returns
returns c = let p = c in
    let r = p in
    let a = r.args in
    plain_half a.image.now a.high a.val p.replace_u32.ensures (plain_view a.plain) r.plain-old.ensures p.put_plain.ensures
