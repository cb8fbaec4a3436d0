-- `update_int_mask` in its two stages: where the ways of the first meet, what entered service is known (`entered`); the second takes out what is newly masked.
use Rattle.basics.proofs.Prelude.{ap, subst, false, ℕ, ◌<◌, ◌^◌, arith, rules, on, with_half}
use Rattle.rules.specs.Lines.{with_mask, enter}
use Rattle.device.specs.state.View.{lines_view}
use Rattle.port.specs.{irq_level.Moves.Answers, declared.irq_level.Routed.Routed}
use Rattle.port.proofs.mask_and_clear.MaskWrite.{Entered, entered_one, entered_none, entered_skip, entered_few, left_some, left_none}
use Rattle.port.proofs.events_for_mask.Offering.{events_lost}
use Rattle.port.proofs.mask_and_clear.update_int_mask.Goals as goal
use Rattle.port.proofs.mask_and_clear.update_int_mask.Goals.{Joined-newly_unmasked-ne0, then-newly_unmasked-ne0+in-Some, then-newly_unmasked-ne0+in_default, else-newly_unmasked-ne0}

isr_fits : (c : Joined-newly_unmasked-ne0) → c.args.lines.intisr < 2 ^ 64
isr_fits c = search rules

entered : (c : Joined-newly_unmasked-ne0) → let s = c in
    Entered s.args.vectors.now s.args.lines s.args.ring (with_half s.args.high s.args.lines.int_mask s.args.val) c.newly_unmasked-newly_unmasked.result c.newly_unmasked-newly_unmasked.ensures (isr_fits c)
    c.if-newly_unmasked-ne0.out c.if-newly_unmasked-ne0.queue c.if-newly_unmasked-ne0.dropped
entered c =
    let s = c in
    let a = s.args in
    let vs = a.vectors.now in
    let l = a.lines in
    let r = a.ring in
    let new = with_half a.high l.int_mask a.val in
    let up = c.newly_unmasked-newly_unmasked.result in
    let ups = c.newly_unmasked-newly_unmasked.ensures in
    let stored = c.replace_u32.ensures in
    let answers : (a : Routed) → Answers a (enter vs false (on up) (with_mask (lines_view l) c.replace_u32.result)) → Answers a (enter vs false (on up) (with_mask (lines_view l) new))
    = λ a e. subst (λ (x : ℕ). Answers a (enter vs false (on up) (with_mask (lines_view l) x))) stored e in
    elim c.if-newly_unmasked-ne0.branch [
      | then-newly_unmasked-ne0+in-Some w ↦ simp (w.out-is, w.queue-is, w.dropped-is) (entered_one vs l r new up ups (isr_fits c) w.update_irq-routed.result (answers _ w.update_irq-routed.ensures) _ w.push_output_event-pushed.result w.lost-dropped.result w.in-Some.is w.push_output_event-pushed.ensures w.lost-dropped.ensures)
      | then-newly_unmasked-ne0+in_default w ↦ simp (w.out-is, w.queue-is, w.dropped-is) (entered_none vs l r new up ups (isr_fits c) w.update_irq-routed.result (answers _ w.update_irq-routed.ensures) w.in_default.is s.requires)
      | else-newly_unmasked-ne0 w ↦ simp (w.out-is, w.queue-is, w.dropped-is) (entered_skip vs l r new up ups (isr_fits c) _ w.if-newly_unmasked-ne0.false s.requires (ap (with_mask (lines_view l)) stored))
    ]

pub overflow_add-dropped : goal.overflow_add-dropped
overflow_add-dropped c =
    let q = c in
    let m = q in
    let j = m in
    let s = j in
    let a = s.args in
    omega (
      arith,
      entered_few a.vectors.now a.lines a.ring _ j.newly_unmasked-newly_unmasked.result j.newly_unmasked-newly_unmasked.ensures _ (entered (goal.at.overflow_add-dropped c).Joined-newly_unmasked-ne0),
      events_lost a.vectors.now q.served-active.result false q.queue_events_for_mask-queued.ensures,
    )

pub returns-then-newly_masked-ne0 : goal.returns-then-newly_masked-ne0
returns-then-newly_masked-ne0 c =
    let q = c in
    let m = q in
    let j = m in
    let a = j.args in
    left_some a.vectors.now a.lines a.ring _ _ _ _ m.newly_masked-newly_masked.result m.newly_masked-newly_masked.ensures j.if-newly_unmasked-ne0.out j.if-newly_unmasked-ne0.queue j.if-newly_unmasked-ne0.dropped (entered (goal.at.returns-then-newly_masked-ne0 c).Joined-newly_unmasked-ne0) _ _ _ q.served-active.ensures q.queue_events_for_mask-queued.ensures

pub returns-else-newly_masked-ne0 : goal.returns-else-newly_masked-ne0
returns-else-newly_masked-ne0 c =
    let m = c in
    let j = m in
    let a = j.args in
    left_none a.vectors.now a.lines a.ring _ _ _ _ m.newly_masked-newly_masked.result m.newly_masked-newly_masked.ensures j.if-newly_unmasked-ne0.out j.if-newly_unmasked-ne0.queue j.if-newly_unmasked-ne0.dropped (entered (goal.at.returns-else-newly_masked-ne0 c).Joined-newly_unmasked-ne0) c.if-newly_masked-ne0.false
