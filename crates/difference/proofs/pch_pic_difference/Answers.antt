-- `pch_pic_difference`: what the subtract that wraps gives is how far later is ahead; the one cast keeps it below 32,768, the other what it is less 65,536.
use Rattle.std.proofs.Common.{arith}
use Rattle.difference.proofs.Signed.{near, far, sum_fits, cast_fits}
use Rattle.difference.proofs.pch_pic_difference.Goals as goal

pub overflow_sub-result : goal.overflow_sub-result
overflow_sub-result c = sum_fits c.wrapping_sub_u16-ahead.result _ c.wrapping_sub_u16-ahead.type_inv (omega arith) (omega arith)

pub overflow_cast-result-else-ahead-lt32768-2 : goal.overflow_cast-result-else-ahead-lt32768-2
overflow_cast-result-else-ahead-lt32768-2 c =
    let s = c.wrapping_sub_u16-ahead in
    cast_fits s.result _ s.type_inv (omega arith) (omega arith) (omega (arith, s.type_inv)) (omega (arith, c.if-ahead-lt32768.false))

pub returns-then-ahead-lt32768 : goal.returns-then-ahead-lt32768
returns-then-ahead-lt32768 c =
    let s = c.wrapping_sub_u16-ahead in
    let a = c.args in
    near a.later a.earlier s.result (omega (arith, s.ensures, s.type_inv, c.ranges.earlier.fits)) (omega (arith, c.if-ahead-lt32768.true))

pub returns-else-ahead-lt32768 : goal.returns-else-ahead-lt32768
returns-else-ahead-lt32768 c =
    let s = c.wrapping_sub_u16-ahead in
    let a = c.args in
    far s.result _ s.type_inv (omega arith) (omega arith) (omega (arith, s.type_inv)) (omega (arith, c.if-ahead-lt32768.false)) a.later a.earlier
    (omega (arith, s.ensures, s.type_inv, c.ranges.earlier.fits)) (omega (arith, c.if-ahead-lt32768.false)) (omega arith)
