-- `feed_byte` is right since an ending closes the line so far, and any other byte only makes it longer; a long line may lose it.
use Rattle.basics.proofs.Prelude.{arith}
use Rattle.session.proofs.{Feeding.fed_ending, Feeding.fed_kept, Feeding.fed_lost}
use Rattle.session.proofs.feed_byte.Goals as goal

pub returns-then-byte-eq10 : goal.returns-then-byte-eq10
returns-then-byte-eq10 c = let p = c in
    let t = p in
    let s = t in
    record {
      feeds = fed_ending s.args.session s.args.line.now s.requires.0 s.args.byte p.play_line-played.result _ _ t.if-byte-eq10.true p.play_line-played.ensures.0;
      short = p.play_line-played.ensures.1;
    }

pub returns-then-line-kept : goal.returns-then-line-kept
returns-then-line-kept c = let s = c in
    record { feeds = fed_lost s.args.session s.args.line.now s.requires.0 s.args.byte _ c.if-byte-eq10.false c.if-line-kept.true; short = omega arith }

pub returns : goal.returns
returns c = let s = c in
    record { feeds = fed_kept s.args.session s.args.line.now s.requires.0 s.args.byte _ c.if-byte-eq10.false c.if-line-kept.false; short = omega arith }
