-- `play_chunk` is safe and ends: each turn takes at least one byte of the chunk, and leaves the session ready for the rest.
use Rattle.std.proofs.Common.{◌-◌, ◌≤◌, length}
use Rattle.session.specs.Feeds.{Ready}
use Rattle.session_main.proofs.play_chunk.Given as goal

abbrev pub invariant-loop-at : goal.invariant-loop-at
invariant-loop-at g l = Ready l.session l.line × (l.at ≤ length l.chunk)

abbrev pub decreases-loop-at : goal.decreases-loop-at
decreases-loop-at g l = length l.chunk - l.at
