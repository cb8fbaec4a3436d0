-- `play_line` is right since the answer has at most the 65 bytes that are lent, so that there is room for the ending behind it.
use Rattle.basics.proofs.Prelude.{sym, List, ◌++◌, ℕ, ◌≤◌, arith, drop, length-take-le}
use Rattle.sessions.specs.Session.{newline, played}
use Rattle.device.specs.state.View.{view}
use Rattle.session.specs.reply.Says.{Says}
use Rattle.session.proofs.reply.Writing.{put_byte, filled, fits, size, in_front_lem, says}
use Rattle.session.proofs.line_end.play_line.Goals as goal
use Rattle.session.proofs.line_end.play_line.Goals.{After-play-played}

abbrev buffer : After-play-played → List ℕ
buffer c = c.args.out.now

short : (c : After-play-played) → c.play-played.result.len ≤ 65
short c = rw (length-take-le 65 (buffer c) (omega arith)) at (fits c.play-played.ensures.says c.play-played.auto.out)

answered : (c : After-play-played)
    → Says c.play-played.result.len (buffer c) (c.play-played.new.out ++ drop 65 (buffer c)) (played (view c.args.state) c.args.line.now).answer
answered c = in_front_lem 65 _ (buffer c) _ _ (omega arith) (short c) c.play-played.ensures.says

pub returns : goal.returns
returns c =
    let p = c in
    (record { state = p.play-played.ensures.state; says = says (put_byte (filled (answered (goal.at.returns c).After-play-played)) newline (omega (arith, short (goal.at.returns c).After-play-played))) }, omega (arith, short (goal.at.returns c).After-play-played))

pub slice_bounds-play-end-2 : goal.slice_bounds-play-end-2
slice_bounds-play-end-2 c = sym (length-take-le 65 c.args.out.now (omega arith))

pub play-played-requires : goal.play-played-requires
play-played-requires c = (c.requires.0, rw (length-take-le 65 c.args.out.now (omega arith)) (omega arith))

pub bounds-out-len : goal.bounds-out-len
bounds-out-len c = let p = c in
    rw (size (answered (goal.at.bounds-out-len c).After-play-played) (omega (arith, short (goal.at.bounds-out-len c).After-play-played))) (omega (arith, short (goal.at.bounds-out-len c).After-play-played))
