-- `level_request` is right since it reads the two fields at their places, and asks for nothing where one is missing, more follows, or V is above 1.
use Rattle.basics.proofs.Prelude.{sym, [], ◌∷◌, le-leb, lt-leb}
use Rattle.sessions.specs.Session.{joined, level_line}
use Rattle.session.proofs.request.{Fields.fields_at, Fields.ends, Fields.goes_on, Fields.asked, Fields.none_asked}
use Rattle.session.proofs.request.level_request.Goals as goal

pub returns-in_err-input : goal.returns-in_err-input
returns-in_err-input c =
    let l = c.args.line.now in
    none_asked l (2 ∷ 1 ∷ []) level_line c.from_residual.ensures (λ i. joined (sym c.in_err-input.ensures i) (fields_at l 4 (1 ∷ [])))

pub returns-in_err-level : goal.returns-in_err-level
returns-in_err-level c =
    let l = c.args.line.now in
    none_asked l (2 ∷ 1 ∷ []) level_line c.from_residual-in_err-level.ensures (λ i. joined (sym c.in_ok-input.ensures i) (joined (sym c.in_err-level.ensures i) (fields_at l 6 [])))

pub returns-then-line-gt6 : goal.returns-then-line-gt6
returns-then-line-gt6 c =
    let l = c.args.line.now in
    asked l (2 ∷ 1 ∷ []) level_line (λ i. joined (sym c.in_ok-input.ensures i) (joined (sym c.in_ok-level.ensures i) (goes_on l 6 c.if-line-gt6.true i)))

pub returns-then-level-gt1 : goal.returns-then-level-gt1
returns-then-level-gt1 c =
    let l = c.args.line.now in
    (rw (lt-leb c.in_ok-level.level 1 c.if-level-gt1.true) at
    (asked l (2 ∷ 1 ∷ []) level_line (λ i. joined (sym c.in_ok-input.ensures i) (joined (sym c.in_ok-level.ensures i) (ends l 6 c.if-line-gt6.false i)))))

pub returns : goal.returns
returns c =
    let l = c.args.line.now in
    (rw (le-leb c.in_ok-level.level 1 c.if-level-gt1.false) at
    (asked l (2 ∷ 1 ∷ []) level_line (λ i. joined (sym c.in_ok-input.ensures i) (joined (sym c.in_ok-level.ensures i) (ends l 6 c.if-line-gt6.false i)))))
