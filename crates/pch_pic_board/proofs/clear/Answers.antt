-- `clear`: a done reset's counts are zeros.
use Rattle.basics.proofs.Prelude.{◌≡◌, arith}
use Rattle.answer.{specs.Given.told_number, proofs.refusals.Numbers.done_0}
use Rattle.pch_pic_board.proofs.Ended.{cleared}
use Rattle.pch_pic_board.proofs.clear.Goals as goal

pub returns-then-is_ok : goal.returns-then-is_ok
returns-then-is_ok c =
    let z : told_number c.args.told ≡ 0 = grind (arith, done_0) in
    cleared (told_number c.args.told) c.args.board.now c.put_zeros.new.dst c.requires z c.put_zeros.ensures
