-- `play_drain` is right since 32 bytes hold all that can wait, and the pairs in them are the events.
use Rattle.basics.proofs.Prelude.{refl, arith}
use Rattle.device.specs.state.View.{view}
use Rattle.session.proofs.play_line.{Playing.plays_as, Playing.drained_few, Playing.drain_done}
use Rattle.session.proofs.play_line.play_drain.Goals as goal

pub put_drained-len-requires : goal.put_drained-len-requires
put_drained-len-requires c = let e = c in
    let s = e in
    omega (arith, drained_few (view s.args.state) _ _ _ refl e.drain_output_events-drained.ensures)

pub returns : goal.returns
returns c = let e = c in
    let s = e in
    plays_as
    (record {
      state = record { well = record { ring = e.drain_output_events-drained.ensures.well_ring }; shows = refl };
      says = c.put_drained-len.ensures;
    })
    (drain_done (view s.args.state) e.drain_output_events-drained.result _ _ refl e.drain_output_events-drained.ensures)
