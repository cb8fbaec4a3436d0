-- `close` is right since a line so far is the last line, and there is none where nothing is kept.
use Rattle.basics.proofs.Prelude.{subst, ◌+◌, ◌-◌, ◌<◌, ◌≤◌, arith, length, take, length-take-le}
use Rattle.device.specs.state.View.{view}
use Rattle.session.specs.reply.Says.{Says}
use Rattle.session.proofs.{reply.Writing.filled, reply.Writing.put_part, reply.Writing.says, Feeding.none_kept, Feeding.last_line}
use Rattle.session.proofs.close.Goals as goal

pub returns-then-kept-eq0 : goal.returns-then-kept-eq0
returns-then-kept-eq0 c = let t = c in
    let s = t.args in
    subst (Says c.end.result s.out.now c.end.new.out) (none_kept (view s.session.state) s.line.now s.session.kept t.if-kept-eq0.true)
    c.end.ensures.0

pub returns : goal.returns
returns c = let p = c in
    let t = p in
    let s = t in
    let a = s.args in
    let k : 0 < length (take a.session.kept a.line.now) = rw (length-take-le a.session.kept a.line.now s.requires.0.kept) (omega (arith, t.if-kept-eq0.false)) in
    let len = p.play_line-played.result.len in
    let left = length p.play_line-played.new.out - len in
    let within : len + left ≤ length a.out.now = omega (arith, p.play_line-played.auto.out, p.play_line-played.ensures.1, s.requires.1) in
    let enough : c.end-more.result ≤ left = omega (arith, p.play_line-played.auto.out, p.play_line-played.ensures.1, s.requires.1, c.end-more.ensures.1) in
    subst (Says _ a.out.now _) (last_line (view a.session.state) _ (take a.session.kept a.line.now) s.requires.0.unended k p.play_line-played.ensures.0.state.shows)
    (says
    (put_part (filled p.play_line-played.ensures.0.says) _ _ _ _ within enough c.end-more.ensures.0))
