-- `play_all`: a record in each round.
use Rattle.basics.proofs.Prelude.{◌≡◌, refl, ◌+◌, ◌-◌, arith}
use Rattle.trace.specs.record_bytes.Shown.{record_view}
use Rattle.pch_pic_trace.proofs.play_records.Rounds.{first_turn, turn_playable, next_turn}
use Rattle.pch_pic_trace.proofs.play_records.play_all.Goals as goal

pub loop-at-preserved : goal.loop-at-preserved
loop-at-preserved c =
    let l = c.loop-at in
    let a = c.args in
    let z : (l.at + 16) - l.at ≡ 16 = omega arith in
    next_turn a.trace.now a.first a.records a.image.now a.answers.now a.events.now c.requires l.invariant (omega arith) (record_view c.record_at-r.result) c.record_at-r.ensures
    z refl c.step-used.ensures

pub loop-at-init : goal.loop-at-init
loop-at-init c = let a = c.args in
    first_turn a.trace.now a.first a.records a.image.now a.answers.now a.events.now c.requires

pub step-used-requires : goal.step-used-requires
step-used-requires c = let l = c.loop-at in
    let a = c.args in
    let z : (l.at + 16) - l.at ≡ 16 = omega arith in
    turn_playable a.trace.now a.first a.records a.image.now a.answers.now a.events.now c.requires l.invariant (omega arith) (record_view c.record_at-r.result) c.record_at-r.ensures
    z refl
