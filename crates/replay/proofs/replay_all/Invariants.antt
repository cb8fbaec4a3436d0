-- `replay_all` is safe and ends: each turn goes on to a later record, and the image buffer keeps its length.
use Rattle.std.proofs.Common.{◌≡◌, ◌-◌, length}
use Rattle.replay.proofs.replay_all.Given as goal

abbrev pub invariant-loop-at : goal.invariant-loop-at
invariant-loop-at g l = length l.image ≡ 300

abbrev pub decreases-loop-at : goal.decreases-loop-at
decreases-loop-at g l = l.records - l.at
