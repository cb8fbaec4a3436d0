-- `join_row`: after each turn, the columns so far are joined.
use Rattle.basics.proofs.Prelude.{arith, ◌≡◌}
use Rattle.ledger.proofs.totals.{Rows.row_none, Rows.row_next, Rows.all_done}
use Rattle.passes.specs.{Finish.row_joined}
use Rattle.ledger.proofs.totals.join_row.Goals as goal

pub loop-c-init : goal.loop-c-init
loop-c-init c = row_none c.args.sheet.now c.args.n

pub loop-c-preserved : goal.loop-c-preserved
loop-c-preserved c = let l = c.loop-c in
    row_next c.args.n l.c l.invariant c.join.ensures

pub returns : goal.returns
returns c = let l = c.loop-c in
    let e : l.c ≡ 10 = omega arith in
    all_done (λ f i. row_joined f c.args.n i) l.c 10 e l.invariant
