-- `recount`: after each turn, what was counted so far and what is left come to all.
use Rattle.basics.proofs.Prelude.{◌≤◌, arith, length, rules, one_less}
use Rattle.pch_pic_board.proofs.counts.Counting.{counting_starts, counting_next, counting_done, zeroed_length, zeroed_past}
use Rattle.pch_pic_board.proofs.counts.recount.Goals as goal

pub loop-left-init : goal.loop-left-init
loop-left-init c = counting_starts c.args.board.now c.put_zeros.new.dst c.requires.1 c.put_zeros.ensures c.args.image.now c.isr-left.result (search rules)

pub loop-left-smaller : goal.loop-left-smaller
loop-left-smaller c = omega (arith, one_less c.loop-left.left c.loop-left.invariant.below c.loop-left-test.true)

pub loop-left-preserved : goal.loop-left-preserved
loop-left-preserved c =
    let wide : 256 ≤ length c.loop-left.board = omega (arith, c.loop-left.invariant.sized, zeroed_length c.args.board.now c.put_zeros.new.dst c.requires.1 c.put_zeros.ensures) in
    counting_next c.loop-left.invariant c.loop-left-test.true wide c.vector-carried.result (search rules) c.vector-carried.ensures

pub returns : goal.returns
returns c =
    counting_done c.loop-left.invariant c.loop-left-test.false (omega (arith, zeroed_length c.args.board.now c.put_zeros.new.dst c.requires.1 c.put_zeros.ensures)) c.isr-left.ensures
    c.args.board.now (zeroed_past c.args.board.now c.put_zeros.new.dst c.requires.1 c.put_zeros.ensures)
