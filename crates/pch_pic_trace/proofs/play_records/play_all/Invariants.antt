-- `play_all`: a record in each round.
use Rattle.basics.proofs.Prelude.{◌-◌, ◌*◌}
use Rattle.image.specs.Shown.{form_view}
use Rattle.pch_pic_trace.proofs.play_records.Rounds.{Turn}
use Rattle.pch_pic_trace.proofs.play_records.play_all.Given as goal

abbrev pub invariant-loop-at : goal.invariant-loop-at
invariant-loop-at l = Turn l.trace l.records (form_view l.form) l.initial.image l.initial.answers l.initial.events l.at l.used l.image l.answers l.events

abbrev pub decreases-loop-at : goal.decreases-loop-at
decreases-loop-at l = 16 * l.records - l.at
