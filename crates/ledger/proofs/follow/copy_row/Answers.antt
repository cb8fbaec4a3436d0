-- `copy_row`: a number in each round.
use Rattle.basics.proofs.Prelude.{arith}
use Rattle.ledger.proofs.follow.{Loops.copies, Loops.copies_next, Loops.copies_none, Loops.all_copied}
use Rattle.ledger.proofs.follow.copy_row.Goals as goal

pub loop-c-init : goal.loop-c-init
loop-c-init c = copies_none c.args.from.now c.args.sheet.now c.args.n

pub loop-c-preserved : goal.loop-c-preserved
loop-c-preserved c = let n = c.args.n in
    let l = c.loop-c in
    copies_next n l.c l.invariant (copies n l.c c.requires.2 c.loop-c-test.true c.cell.ensures c.put_cell.ensures)

pub returns : goal.returns
returns c = let l = c.loop-c in
    all_copied c.args.n l.c 10 (omega arith) l.invariant
