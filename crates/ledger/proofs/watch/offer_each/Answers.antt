-- `offer_each`: after each turn, what was offered so far and then what is left is all.
use Rattle.basics.proofs.Prelude.{arith, rules}
use Rattle.passes.proofs.tallies.laws.Turning.{offers_none}
use Rattle.ledger.proofs.watch.Visiting.{visiting_starts, visited, fewer, visiting_next, Deasserted, deasserts_one}
use Rattle.ledger.proofs.watch.offer_each.Goals as goal

pub loop-left-init : goal.loop-left-init
loop-left-init c = let a = c.args in
    visiting_starts (Deasserted a.wide a.sheet.now a.sheet.now a.k a.waiting a.waiting) a.set (search rules) (offers_none a.sheet.now a.k a.waiting)

pub loop-left-smaller : goal.loop-left-smaller
loop-left-smaller c = omega (arith, fewer (Deasserted c.args.wide c.args.sheet.now c.loop-left.sheet c.args.k c.args.waiting c.loop-left.wait) c.loop-left.invariant c.loop-left-test.true)

pub loop-left-preserved : goal.loop-left-preserved
loop-left-preserved c = let a = c.args in
    let q = c.loop-left.invariant in
    visiting_next (Deasserted c.args.wide c.args.sheet.now c.loop-left.sheet c.args.k c.args.waiting c.loop-left.wait) q c.loop-left-test.true (Deasserted a.wide a.sheet.now c.offer-wait.new.sheet a.k a.waiting c.offer-wait.result) (deasserts_one a.k q.sofar _ q.does c.offer-wait.ensures)

pub returns : goal.returns
returns c = visited (Deasserted c.args.wide c.args.sheet.now c.loop-left.sheet c.args.k c.args.waiting c.loop-left.wait) c.loop-left.invariant c.loop-left-test.false
