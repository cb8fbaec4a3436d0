-- `number_of` is right since what is left of the text, read on from the value so far, is the number of the whole.
use Rattle.basics.proofs.Prelude.{sym, ap, ◌∙◌, arith, drop_of_length-le}
use Rattle.sessions.specs.Session.{digits_spell}
use Rattle.session.specs.hex.Reads.{number_view}
use Rattle.session.proofs.hex.{Digits.reading_next, Digits.digits_spell_wrong}
use Rattle.session.proofs.hex.number_of.Goals as goal

pub returns-in_err-digit : goal.returns-in_err-digit
returns-in_err-digit c =
    let l = c.loop-byte in
    ap number_view c.from_residual.ensures ∙ sym (digits_spell_wrong _ l.byte-index _ (omega arith) (sym c.in_err-digit.ensures)) ∙ l.invariant.same

pub overflow_mul-value : goal.overflow_mul-value
overflow_mul-value c =
    -- the byte of this turn is a digit
    let turned = reading_next _ _ c.loop-byte.byte-index _ c.loop-byte.invariant (omega arith) c.requires (sym c.in_ok-digit.ensures) in
    omega (arith, turned.1)

pub overflow_add-value : goal.overflow_add-value
overflow_add-value c =
    let turned = reading_next _ _ c.loop-byte.byte-index _ c.loop-byte.invariant (omega arith) c.requires (sym c.in_ok-digit.ensures) in
    omega (arith, c.from.ensures, turned.1)

pub loop-byte-preserved : goal.loop-byte-preserved
loop-byte-preserved c =
    let turned = reading_next _ _ c.loop-byte.byte-index _ c.loop-byte.invariant (omega arith) c.requires (sym c.in_ok-digit.ensures) in
    rw c.from.ensures turned.0

pub returns : goal.returns
returns c = unfold digits_spell in let l = c.loop-byte in
    ap (digits_spell l.value) (sym (drop_of_length-le _ c.loop-byte-test.false)) ∙ l.invariant.same
