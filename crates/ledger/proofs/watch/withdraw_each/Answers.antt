-- `withdraw_each`: after each turn, what was taken back so far and then what is left is all.
use Rattle.basics.proofs.Prelude.{arith, rules}
use Rattle.passes.proofs.tallies.laws.Taking.{takes_none}
use Rattle.ledger.proofs.watch.Visiting.{visiting_starts, visited, fewer, visiting_next, Withdrawn, withdraws_one}
use Rattle.ledger.proofs.watch.withdraw_each.Goals as goal

pub loop-left-init : goal.loop-left-init
loop-left-init c = let a = c.args in
    visiting_starts (Withdrawn a.wide a.sheet.now a.sheet.now) a.set (search rules) (takes_none a.sheet.now)

pub loop-left-smaller : goal.loop-left-smaller
loop-left-smaller c = omega (arith, fewer (Withdrawn c.args.wide c.args.sheet.now c.loop-left.sheet) c.loop-left.invariant c.loop-left-test.true)

pub loop-left-preserved : goal.loop-left-preserved
loop-left-preserved c = let a = c.args in
    let q = c.loop-left.invariant in
    visiting_next (Withdrawn c.args.wide c.args.sheet.now c.loop-left.sheet) q c.loop-left-test.true (Withdrawn a.wide a.sheet.now c.withdraw.new.sheet) (withdraws_one q.sofar _ q.does c.withdraw.ensures)

pub returns : goal.returns
returns c = visited (Withdrawn c.args.wide c.args.sheet.now c.loop-left.sheet) c.loop-left.invariant c.loop-left-test.false
