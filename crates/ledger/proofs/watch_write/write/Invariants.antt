use Rattle.basics.proofs.Prelude.{◌+◌, ◌-◌, ◌^◌, ◌<◌, ◌≤◌}
use Rattle.ledger.specs.{watch.Kept.lines_of, watch_write.Pieces.Sized}
use Rattle.ledger.proofs.watch_write.{Arms.Finishes}
use Rattle.ledger.proofs.watch_write.write.Given as goal

abbrev pub invariant-loop-left : goal.invariant-loop-left
invariant-loop-left l = Sized l.left × (l.at + l.left ≤ 2 ^ 64 - 1) × (l.x < 2 ^ 64) × Finishes l.wide (lines_of l.initial.kept) l.initial.kept.waiting l.initial.sheet l.width l.offset l.value (lines_of l.kept) l.kept.waiting l.sheet l.left l.at l.x l.k

abbrev pub decreases-loop-left : goal.decreases-loop-left
decreases-loop-left l = l.left
