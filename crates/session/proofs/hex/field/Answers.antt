-- `field` is right since a line that ends too early, or has another byte before the digits, has no such field.
use Rattle.basics.proofs.Prelude.{sym, arith}
use Rattle.session.proofs.hex.{OneField.field_short, OneField.field_unmarked}
use Rattle.session.proofs.hex.field.Goals as goal
use Rattle.session.proofs.hex.field.Goals.{then-line-end-via-then-line-end, then-line-end-via-else-line-end+then-line-at-ne32}

pub returns-then-line-end : goal.returns-then-line-end
returns-then-line-end c =
    let a = c.args in
    elim c.then-line-end.branch [
      | then-line-end-via-then-line-end w ↦ sym (field_short a.line.now a.at a.n w.if-line-end.true)
      | then-line-end-via-else-line-end+then-line-at-ne32 w ↦ sym (field_unmarked a.line.now a.at a.n (omega (arith, w.if-line-end.false)) w.if-line-at-ne32.true)
    ]
