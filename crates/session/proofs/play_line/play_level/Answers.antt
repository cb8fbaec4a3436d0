-- `play_level` is right since an input of 64 or more is refused, and of any other the engine's answer is said.
use Rattle.device.specs.state.View.{view}
use Rattle.session.proofs.play_line.{Playing.plays_as, Playing.level_routed}
use Rattle.session.proofs.play_line.play_level.Goals as goal

pub returns : goal.returns
returns c = let e = c in
    let t = e in
    let a = t.args in
    plays_as c.routed.ensures (level_routed (view a.state) a.input e.set_irq_level-moved.result t.if-input-ge64.false a.raise e.set_irq_level-moved.ensures)
