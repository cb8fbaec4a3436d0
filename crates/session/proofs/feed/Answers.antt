-- `feed` is right since the bytes are taken one after another, as long as there is room for an answer.
use Rattle.session.proofs.{Feeding.feed_next}
use Rattle.session.proofs.feed.Goals as goal

pub loop-taken-preserved : goal.loop-taken-preserved
loop-taken-preserved c = let f = c in
    let t = f in
    let l = t.loop-taken in
    let s = t in
    feed_next s.args.session _ _ s.args.line.now _ _ s.args.chunk.now s.args.out.now l.out _ l.taken l.len _ l.invariant t.loop-taken-test.true c.if-len-room.true
    s.requires.1 f.feed_byte-step.ensures.feeds f.feed_byte-step.ensures.short f.feed_byte-step.auto.line
