-- `pch_pic_hoist_write`: with room what the call tells stands in the answer area.
use Rattle.basics.proofs.Prelude.{◌≡◌, ap, ◌∙◌, arith, true, []}
use Rattle.calls.specs.Calls.{leaves, settled}
use Rattle.hoists.specs.HoistCalls.{hoist_ending, hoist_room, hoist_write}
use Rattle.calls.specs.Calls as asked
use Rattle.pch_pic_hoist.proofs.pch_pic_hoist_write.Goals as goal

pub returns : goal.returns
unfolding hoist_write
returns c = let a = c.args in
    let room : hoist_room a.phase.now a.answer.now ≡ true = grind arith in
    (λ s. leaves (c.tell.ensures.0 s) c.write-told.new.image (c.tell.ensures.1 s) [])
    ∙ ap (settled a.answer.now) (c.write-told.ensures ∙ ap (λ y. hoist_ending y (asked.write a.base a.size a.address a.width a.value) a.image.now) c.is_running-running.ensures) ∙ rw room
