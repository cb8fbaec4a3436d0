-- `put_map` is safe and ends: each row is at least one offset.
use Rattle.std.proofs.Common.{◌-◌, ◌≤◌}
use Rattle.map_main.proofs.put_map.Given as goal

abbrev pub invariant-loop-at : goal.invariant-loop-at
invariant-loop-at g l = l.at ≤ 1024

abbrev pub decreases-loop-at : goal.decreases-loop-at
decreases-loop-at g l = 1024 - l.at
