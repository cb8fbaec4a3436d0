-- `read_request` is right since it reads the two fields at their places, and asks for nothing where one is missing or more follows.
use Rattle.basics.proofs.Prelude.{sym, [], ◌∷◌}
use Rattle.sessions.specs.Session.{joined, read_line}
use Rattle.session.proofs.request.{Fields.fields_at, Fields.ends, Fields.goes_on, Fields.asked, Fields.none_asked}
use Rattle.session.proofs.request.read_request.Goals as goal

pub returns-in_err-width : goal.returns-in_err-width
returns-in_err-width c =
    let l = c.args.line.now in
    none_asked l (1 ∷ 4 ∷ []) read_line c.from_residual.ensures (λ i. joined (sym c.in_err-width.ensures i) (fields_at l 3 (4 ∷ [])))

pub returns-in_err-address : goal.returns-in_err-address
returns-in_err-address c =
    let l = c.args.line.now in
    none_asked l (1 ∷ 4 ∷ []) read_line c.from_residual-in_err-address.ensures (λ i. joined (sym c.in_ok-width.ensures i) (joined (sym c.in_err-address.ensures i) (fields_at l 8 [])))

pub returns-then-line-gt8 : goal.returns-then-line-gt8
returns-then-line-gt8 c =
    let l = c.args.line.now in
    asked l (1 ∷ 4 ∷ []) read_line (λ i. joined (sym c.in_ok-width.ensures i) (joined (sym c.in_ok-address.ensures i) (goes_on l 8 c.if-line-gt8.true i)))

pub returns : goal.returns
returns c =
    let l = c.args.line.now in
    asked l (1 ∷ 4 ∷ []) read_line (λ i. joined (sym c.in_ok-width.ensures i) (joined (sym c.in_ok-address.ensures i) (ends l 8 c.if-line-gt8.false i)))
