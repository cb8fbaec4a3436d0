-- `count_fate`: each fate has its columns.
use Rattle.basics.proofs.Prelude.{sym}
use Rattle.passes.specs.tallies.Marks.{bumped}
use Rattle.ledger.proofs.cells.Held.{fated}
use Rattle.ledger.proofs.cells.count_fate.Goals as goal

pub returns-in-Returned : goal.returns-in-Returned
returns-in-Returned c = unfold bumped in fated c.args.n (sym c.in-Returned.is) (λ f rest h. c.count.ensures f rest h)

pub returns-in-Kept : goal.returns-in-Kept
returns-in-Kept c = unfold bumped in fated c.args.n (sym c.in-Kept.is) (λ f rest h. c.count-in-Kept.ensures f rest h)

pub returns-in-Dropped : goal.returns-in-Dropped
returns-in-Dropped c = unfold bumped in fated c.args.n (sym c.in-Dropped.is) (λ f rest h. c.count-in-Dropped-2.ensures _ rest (c.count-in-Dropped.ensures f rest h))
