-- `copy_records`: the records copied so far are the source's.
use Rattle.basics.proofs.Prelude.{arith, rules}
use Rattle.pch_pic_salvage.proofs.rebuilt.Copied.{record_next}
use Rattle.pch_pic_salvage.proofs.rebuilt.copy_records.Goals as goal

pub loop-k-preserved : goal.loop-k-preserved
loop-k-preserved c =
    let l = c.loop-k in
    record_next c.args.src.now c.args.dst.now (search rules) l.k (omega (arith, c.requires.1)) l.invariant c.word_at-first.ensures c.put_word.ensures c.word_at-second.ensures c.put_word-in-loop-k.ensures
