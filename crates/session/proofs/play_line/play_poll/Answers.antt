-- `play_poll` is right since an input of 64 or more is refused, and of any other the engine's answer is said.
use Rattle.device.specs.state.View.{view}
use Rattle.session.proofs.play_line.{Playing.plays_as, Playing.poll_routed}
use Rattle.session.proofs.play_line.play_poll.Goals as goal

pub returns : goal.returns
returns c = let e = c in
    let t = e in
    let a = t.args in
    plays_as c.routed.ensures (poll_routed (view a.state) a.input e.pending_vector-moved.result t.if-input-ge64.false e.pending_vector-moved.ensures)
