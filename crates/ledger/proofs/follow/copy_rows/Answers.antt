-- `copy_rows`: a row in each round.
use Rattle.basics.proofs.Prelude.{List, ℕ, arith}
use Rattle.ledger.proofs.follow.Loops.{copied_none, copied_next}
use Rattle.ledger.proofs.watch.Visiting.{visiting_starts, visited, fewer, visiting_next}
use Rattle.passes.specs.Finish.{rows_from}
use Rattle.ledger.specs.follow.Reached.{CopiesOf}
use Rattle.ledger.proofs.follow.copy_rows.Goals as goal
use Rattle.ledger.proofs.follow.copy_rows.Goals.{At-loop-left}

-- what is done so far, for these inputs
abbrev So : At-loop-left → List ℕ → Type 0
So l = λ ns. CopiesOf l.args.from.now l.args.sheet.now l.loop-left.sheet (λ g f. rows_from g f ns)

pub loop-left-init : goal.loop-left-init
loop-left-init c = let a = c.args in
    visiting_starts (λ ns. CopiesOf a.from.now a.sheet.now a.sheet.now (λ g f. rows_from g f ns)) 0xffff_ffff_ffff_ffff (omega arith) (copied_none a.from.now a.sheet.now)

pub loop-left-smaller : goal.loop-left-smaller
loop-left-smaller c = omega (arith, fewer (So (goal.at.loop-left-smaller c).At-loop-left) c.loop-left.invariant c.loop-left-test.true)

pub loop-left-preserved : goal.loop-left-preserved
loop-left-preserved c = let a = c.args in
    let q = c.loop-left.invariant in
    visiting_next (So (goal.at.loop-left-preserved c).At-loop-left) q c.loop-left-test.true (λ ns. CopiesOf a.from.now a.sheet.now c.copy_row.new.sheet (λ g f. rows_from g f ns)) (copied_next q.sofar _ q.does c.copy_row.ensures)

pub returns : goal.returns
returns c = visited (So (goal.at.returns c).At-loop-left) c.loop-left.invariant c.loop-left-test.false
