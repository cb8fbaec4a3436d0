-- `lower`: counted, taken back, unlatched, and then it leaves.
use Rattle.basics.proofs.Prelude.{rules}
use Rattle.ledger.specs.watch.Kept.{lines_of}
use Rattle.passes.proofs.tallies.laws.Taking.{takes_then}
use Rattle.ledger.proofs.watch.{Moving.lower_counted, Moving.lower_done}
use Rattle.ledger.proofs.watch.lower.Goals as goal

pub returns : goal.returns
returns c = let a = c.args in
    lower_done a.n c.requires.1 (lines_of a.w) (search rules) a.k (takes_then _ _ (lower_counted a.n c.count.ensures) c.withdraw.ensures) c.leave_one.ensures
