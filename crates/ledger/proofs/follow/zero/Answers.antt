use Rattle.basics.proofs.Prelude.{arith}
use Rattle.ledger.proofs.follow.Loops.{cleared_none, cleared_next}
use Rattle.ledger.proofs.watch.Visiting.{visiting_starts, visited, fewer, visiting_next}
use Rattle.passes.specs.{Finish.cleared, tallies.Grid.Becomes}
use Rattle.ledger.proofs.follow.zero.Goals as goal

pub loop-left-init : goal.loop-left-init
loop-left-init c = let a = c.args in
    visiting_starts (λ ns. Becomes a.wide a.sheet.now a.sheet.now (λ f. cleared f ns)) 0xffff_ffff_ffff_ffff (omega arith) (cleared_none a.sheet.now)

pub loop-left-smaller : goal.loop-left-smaller
loop-left-smaller c = omega (arith, fewer (λ ns. Becomes c.args.wide c.args.sheet.now c.loop-left.sheet (λ f. cleared f ns)) c.loop-left.invariant c.loop-left-test.true)

pub loop-left-preserved : goal.loop-left-preserved
loop-left-preserved c = let a = c.args in
    let q = c.loop-left.invariant in
    visiting_next (λ ns. Becomes c.args.wide c.args.sheet.now c.loop-left.sheet (λ f. cleared f ns)) q c.loop-left-test.true (λ ns. Becomes a.wide a.sheet.now c.zero_row.new.sheet (λ f. cleared f ns)) (cleared_next q.sofar _ q.does c.zero_row.ensures)

pub returns : goal.returns
returns c = visited (λ ns. Becomes c.args.wide c.args.sheet.now c.loop-left.sheet (λ f. cleared f ns)) c.loop-left.invariant c.loop-left-test.false
