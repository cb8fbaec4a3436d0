-- `accepted`: by the bodies' test, or by the search for what is wrong in them.
use Rattle.std.proofs.lemmas.Result.{err_from_is_err_and}
use Rattle.basics.proofs.Prelude.{sym}
use Rattle.answer.proofs.accepted.Refused.{by_bodies, by_test, by_search}
use Rattle.answer.proofs.accepted.accepted.Goals as goal

pub returns-in_err-first_fault : goal.returns-in_err-first_fault
returns-in_err-first_fault c =
    let p = err_from_is_err_and c.from_residual-in_err-first_fault.result c.from_residual-in_err-first_fault.ensures.1 in
    rw (p.1, p.2) (by_bodies c.args.image.now c.in_ok-form.form c.in_ok-form.ensures _ c.in_err-first_fault.ensures)

pub returns-in_ok-first_fault : goal.returns-in_ok-first_fault
returns-in_ok-first_fault c = by_search c.args.image.now c.in_ok-form.form c.in_ok-form.ensures (λ i. (c.type_inv.image i).fits) c.in_ok-first_fault.ensures

pub returns-else-not-test_bodies : goal.returns-else-not-test_bodies
returns-else-not-test_bodies c = by_test c.args.image.now c.in_ok-form.form c.in_ok-form.ensures (λ i. (c.type_inv.image i).fits) (sym c.if-not-test_bodies.ensures)
