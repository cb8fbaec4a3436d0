-- `pch_pic_hoist_reset`: with room what the call tells stands in the answer area, and where it is done the phase is stored.
use Rattle.std.specs.Prelude.{cond}
use Rattle.basics.proofs.Prelude.{◌≡◌, ap, ◌∙◌, arith, true, eqb}
use Rattle.hoists.specs.Profile.{in_start_up}
use Rattle.hoists.specs.HoistCalls.{hoist_room, phase_leaves, phase_settled, hoist_reset}
use Rattle.pch_pic_hoist.proofs.pch_pic_hoist_reset.Goals as goal

pub returns : goal.returns
unfolding hoist_reset
returns c = let p = c.args.phase.now in let a = c.args.answer.now in
    let room : hoist_room p a ≡ true = grind arith in
    let phased = c.begin.ensures ∙ ap (λ n. cond (eqb n 0) (in_start_up p) p) c.tell-number.ensures.0 in
    (λ s. phase_leaves (c.tell-number.ensures.0 s) c.reset-told.new.image (phased s) (c.tell-number.ensures.1 s)) ∙ ap (phase_settled p a (in_start_up p)) c.reset-told.ensures ∙ rw room
