-- `parse` is right since each letter has its own function, and a line with another letter, or with none, is of no form.
use Rattle.basics.proofs.Prelude.{refl, sym, ap, ◌∙◌, get_or, arith, ne_eqb}
use Rattle.sessions.specs.Session.{letter_l, letter_p, letter_r, letter_w, letter_d}
use Rattle.session.specs.request.Requests.{request_view}
use Rattle.session.proofs.request.{Fields.by_letter_lem, Fields.line_empty}
use Rattle.session.proofs.request.parse.Goals as goal

pub returns-in_err-first : goal.returns-in_err-first
returns-in_err-first c = ap request_view c.from_residual.ensures ∙ sym (line_empty _ (omega (arith, c.in_err-first.ensures.item.3)))

pub returns-in-108 : goal.returns-in-108
returns-in-108 c = let first = c.in_ok-first.ensures.item.3 in c.level_request.ensures ∙ by_letter_lem c.args.line.now letter_l first.0 (sym (first.1 0) ∙ c.in-108.is)

pub returns-in-112 : goal.returns-in-112
returns-in-112 c = let first = c.in_ok-first.ensures.item.3 in c.poll_request.ensures ∙ by_letter_lem c.args.line.now letter_p first.0 (sym (first.1 0) ∙ c.in-112.is)

pub returns-in-114 : goal.returns-in-114
returns-in-114 c = let first = c.in_ok-first.ensures.item.3 in c.read_request.ensures ∙ by_letter_lem c.args.line.now letter_r first.0 (sym (first.1 0) ∙ c.in-114.is)

pub returns-in-119 : goal.returns-in-119
returns-in-119 c = let first = c.in_ok-first.ensures.item.3 in c.write_request.ensures ∙ by_letter_lem c.args.line.now letter_w first.0 (sym (first.1 0) ∙ c.in-119.is)

pub returns-in-100 : goal.returns-in-100
returns-in-100 c = let first = c.in_ok-first.ensures.item.3 in c.drain_request.ensures ∙ by_letter_lem c.args.line.now letter_d first.0 (sym (first.1 0) ∙ c.in-100.is)

pub returns-in_default : goal.returns-in_default
returns-in_default c =
    let l = c.args.line.now in
    let first = c.in_ok-first.ensures.item.3 in
    let x = get_or l 0 0 in
    let e = first.1 0 in
    (rw (ne_eqb x letter_l (λ z. omega (arith, e)), ne_eqb x letter_p (λ z. omega (arith, e)), ne_eqb x letter_r (λ z. omega (arith, e)), ne_eqb x letter_w (λ z. omega (arith, e)), ne_eqb x letter_d (λ z. omega (arith, e))) at
    (by_letter_lem l x first.0 refl))
