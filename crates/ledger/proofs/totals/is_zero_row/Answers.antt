-- `is_zero_row`: forty bytes from its place on, and of a wide row the forty behind them.
use Rattle.ledger.proofs.totals.{Skipping.wide_row}
use Rattle.ledger.proofs.totals.is_zero_row.Goals as goal

pub returns-then-wide : goal.returns-then-wide
returns-then-wide c =
    let a = c.args in
    wide_row a.sheet.now a.n c.if-wide.true c.place-at.ensures c.forty_zeros-first.ensures c.forty_zeros.ensures
