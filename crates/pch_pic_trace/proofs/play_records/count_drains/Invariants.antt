-- `count_drains`: of the records looked at so far so many drain.
use Rattle.basics.proofs.Prelude.{◌≡◌}
use Rattle.traces.specs.{Played.records_from, plays.Playing.drains_in}
use Rattle.pch_pic_trace.proofs.play_records.count_drains.Given as goal

abbrev pub invariant-loop-k : goal.invariant-loop-k
invariant-loop-k l = l.drains ≡ drains_in (records_from l.trace l.k 0)
