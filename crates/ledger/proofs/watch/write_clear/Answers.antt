-- `write_clear`: waits are taken back, latches go off, and what is in service leaves.
use Rattle.basics.proofs.Prelude.{rules}
use Rattle.ledger.specs.watch.Kept.{lines_of}
use Rattle.ledger.proofs.watch.Moving.{clear_done}
use Rattle.ledger.proofs.watch.write_clear.Goals as goal

pub returns : goal.returns
returns c = let a = c.args in
    clear_done (lines_of a.w) a.bits (search rules) (search rules) a.k c.withdraw_each.ensures c.leave.ensures
