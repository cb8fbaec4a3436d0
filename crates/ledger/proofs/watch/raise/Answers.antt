-- `raise`: counted, latched, and then it enters.
use Rattle.basics.proofs.Prelude.{rules}
use Rattle.ledger.specs.watch.Kept.{lines_of}
use Rattle.ledger.proofs.watch.Moving.{raise_done}
use Rattle.ledger.proofs.watch.raise.Goals as goal

pub returns : goal.returns
returns c = let a = c.args in
    raise_done a.n c.requires.1 (lines_of a.w) (search rules) a.k c.count_raise.ensures c.enter_one.ensures
