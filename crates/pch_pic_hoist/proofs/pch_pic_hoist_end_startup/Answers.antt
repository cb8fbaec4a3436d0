-- `pch_pic_hoist_end_startup`: with room what the call tells stands in the answer area, and where it is done the phase is stored.
use Rattle.std.specs.Prelude.{cond}
use Rattle.basics.proofs.Prelude.{◌≡◌, ap, ◌∙◌, arith, true, eqb}
use Rattle.hoists.specs.Profile.{after_start_up}
use Rattle.hoists.specs.HoistCalls.{hoist_room, phase_leaves, phase_settled, end_ending, end_startup}
use Rattle.pch_pic_hoist.proofs.pch_pic_hoist_end_startup.Goals as goal

pub returns : goal.returns
unfolding end_startup
returns c = let i = c.args.image.now in let p = c.args.phase.now in let a = c.args.answer.now in
    let room : hoist_room p a ≡ true = grind arith in
    let phased = c.begin.ensures ∙ ap (λ n. cond (eqb n 0) (after_start_up p) p) c.tell-number.ensures.0 in
    (λ s. phase_leaves (c.tell-number.ensures.0 s) i (phased s) (c.tell-number.ensures.1 s))
    ∙ ap (phase_settled p a (after_start_up p)) (c.end_startup-told.ensures ∙ ap (λ y. end_ending y i) c.is_running-running.ensures) ∙ rw room
