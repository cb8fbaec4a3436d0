use Rattle.basics.proofs.Prelude.{arith, ◌≡◌}
use Rattle.ledger.proofs.{follow.Loops.zero_none, follow.Loops.zero_next, totals.Rows.all_done}
use Rattle.passes.specs.{Finish.row_cleared}
use Rattle.ledger.proofs.follow.zero_row.Goals as goal

pub loop-c-init : goal.loop-c-init
loop-c-init c = zero_none c.args.sheet.now c.args.n

pub loop-c-preserved : goal.loop-c-preserved
loop-c-preserved c = let l = c.loop-c in
    zero_next c.args.n l.c l.invariant c.put_cell.ensures

pub returns : goal.returns
returns c = let l = c.loop-c in
    let e : l.c ≡ 10 = omega arith in
    all_done (λ f i. row_cleared f c.args.n i) l.c 10 e l.invariant
