-- `join_all`: after each turn, the rows so far are shut and joined.
use Rattle.basics.proofs.Prelude.{arith, ◌≡◌}
use Rattle.ledger.proofs.totals.{Rows.finished_none, Rows.finished_next, Rows.all_done}
use Rattle.passes.specs.{Finish.finished}
use Rattle.ledger.proofs.totals.join_all.Goals as goal

pub loop-n-init : goal.loop-n-init
loop-n-init c = finished_none c.args.sheet.now

pub loop-n-preserved : goal.loop-n-preserved
loop-n-preserved c = let l = c.loop-n in
    finished_next l.n l.invariant c.finish_row.ensures

pub returns : goal.returns
returns c = let l = c.loop-n in
    let e : l.n ≡ 64 = omega arith in
    all_done (finished) l.n 64 e l.invariant
