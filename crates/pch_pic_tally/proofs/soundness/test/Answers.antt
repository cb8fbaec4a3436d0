-- `test`: two passes settle that a tally is whole.
use Rattle.basics.proofs.Prelude.{arith, ◌^◌, and-eq-true_iff, ltb, leb, ltb-true, leb-true}
use Rattle.pch_pic_tally.proofs.soundness.Whole.{whole}
use Rattle.pch_pic_tally.proofs.soundness.test.Goals as goal

pub returns-then-bits-last : goal.returns-then-bits-last
returns-then-bits-last c =
    let r = c.all_bits-bits.result in
    let m = c.latest-last.result in
    let n = c.word_at-counted.result in
    let both = (and-eq-true_iff (ltb r (2 ^ 63)) (leb m n)).0 c.if-bits-last.true in
    whole c.args.tally.now c.all_bits-bits.ensures c.latest-last.ensures (ltb-true r (2 ^ 63) both.0) (omega (arith, leb-true m n both.1, c.word_at-counted.ensures))
