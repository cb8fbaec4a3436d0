-- `poll_request` is right since it reads the one field at its place, and asks for nothing where it is missing or more follows.
use Rattle.basics.proofs.Prelude.{sym, [], ◌∷◌}
use Rattle.sessions.specs.Session.{joined, poll_line}
use Rattle.session.proofs.request.{Fields.fields_at, Fields.ends, Fields.goes_on, Fields.asked, Fields.none_asked}
use Rattle.session.proofs.request.poll_request.Goals as goal

pub returns-in_err-input : goal.returns-in_err-input
returns-in_err-input c =
    let l = c.args.line.now in
    none_asked l (2 ∷ []) poll_line c.from_residual.ensures (λ i. joined (sym c.in_err-input.ensures i) (fields_at l 4 []))

pub returns-then-line-gt4 : goal.returns-then-line-gt4
returns-then-line-gt4 c =
    let l = c.args.line.now in
    asked l (2 ∷ []) poll_line (λ i. joined (sym c.in_ok-input.ensures i) (goes_on l 4 c.if-line-gt4.true i))

pub returns : goal.returns
returns c =
    let l = c.args.line.now in
    asked l (2 ∷ []) poll_line (λ i. joined (sym c.in_ok-input.ensures i) (ends l 4 c.if-line-gt4.false i))
