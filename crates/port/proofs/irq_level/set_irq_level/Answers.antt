-- `set_irq_level` latches the input and polls it, or takes its latch off and lets it leave service.
use Rattle.basics.proofs.Prelude.{◌≡◌, ap, subst, ◌∙◌, Bool, true, false, List, ℕ, ◌-◌, ◌<◌, ◌^◌, bit_and, bit_or, rules, put_is, without_only_is}
use Rattle.rules.specs.Lines.{with_irr, levelled}
use Rattle.device.specs.{state.View.lines_view, declared.state.Lines.Lines}
use Rattle.port.specs.{irq_level.Moves.Answers, irq_level.Moves.updated, declared.irq_level.Routed.Routed}
use Rattle.port.proofs.irq_level.{Turns.bit, Turns.raise_is, Turns.lower_is}
use Rattle.port.proofs.irq_level.set_irq_level.Goals as goal
use Rattle.port.proofs.irq_level.set_irq_level.Goals.{then-level, else-level}

abbrev with_latches : Lines → ℕ → Lines
with_latches l y = record { int_mask = l.int_mask; intirr = y; intisr = l.intisr }

-- what the poll, or the leave, of the changed lines comes to
module _ (vs : List ℕ) (l out : Lines) (n : ℕ) (r : Routed) (level : Bool) (h : n < 64) (hirr : l.intirr < 2 ^ 64) (hisr : l.intisr < 2 ^ 64)
    (answers : Answers r (updated vs (lines_view out) (bit n) level)) where
  raise_answers : level ≡ true → out ≡ with_latches l (bit_or l.intirr (bit n)) → Answers r (levelled vs (lines_view l) n level)
  raise_answers e f =
      rw e
      (subst (Answers r) (raise_is vs n h (lines_view l) (lines_view out) (ap lines_view f ∙ ap (with_irr (lines_view l)) (put_is l.intirr n hirr h)))
      (rw e at answers))

  lower_answers : level ≡ false → out ≡ with_latches l (bit_and l.intirr ((2 ^ 64 - 1) - bit n)) → Answers r (levelled vs (lines_view l) n level)
  lower_answers e f =
      rw e
      (subst (Answers r) (lower_is vs n h (lines_view l) (lines_view out) hisr (ap lines_view f ∙ ap (with_irr (lines_view l)) (without_only_is l.intirr n hirr h)))
      (rw e at answers))

pub returns : goal.returns
returns c =
    let a = c.args in
    elim c.if-level.branch [
      | then-level w ↦ raise_answers a.vectors.now a.lines c.if-level.out a.irq c.update_irq.result a.level (search rules) (search rules) (search rules) c.update_irq.ensures w.if-level.true w.out-is
      | else-level w ↦ lower_answers a.vectors.now a.lines c.if-level.out a.irq c.update_irq.result a.level (search rules) (search rules) (search rules) c.update_irq.ensures w.if-level.false w.out-is
    ]
