-- `bring`: the image that a done call leaves is accepted, so that it has a form, and its device is counted.
use Rattle.basics.proofs.Prelude.{◌≡◌, arith}
use Rattle.pch_pic_board.proofs.counts.Counting.{has_form, done_counts}
use Rattle.pch_pic_board.proofs.counts.bring.Goals as goal

pub returns-in-Some : goal.returns-in-Some
returns-in-Some c =
    let z : c.args.number ≡ 0 = grind arith in
    done_counts _ c.args.image.now c.args.board.now z c.requires.0 (λ n. omega (arith, c.type_inv.image n)) c.recount.ensures

pub returns-in_default : goal.returns-in_default
returns-in_default c =
    let z : c.args.number ≡ 0 = grind arith in
    absurd (has_form _ c.args.image.now c.args.board.now z c.requires.0 c.form_of.result c.form_of.ensures c.in_default.is)
