-- `finish_row`: a row of zeros stays, and joins nothing.
use Rattle.ledger.proofs.totals.Skipping.{skipped}
use Rattle.ledger.proofs.totals.finish_row.Goals as goal

pub returns-then-is_zero_row : goal.returns-then-is_zero_row
returns-then-is_zero_row c = skipped c.args.n c.requires.1 (c.is_zero_row.ensures c.if-is_zero_row.true)

pub returns : goal.returns
returns c = λ f rest h. c.join_row.ensures _ rest (c.close.ensures f rest h)
