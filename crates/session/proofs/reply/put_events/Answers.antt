-- `put_events` is right since after i turns the first i pairs are said at the front, and what lies behind is as it was.
use Rattle.basics.proofs.Prelude.{◌≡◌, subst, ℕ, ◌+◌, ◌-◌, ◌*◌, arith, start}
use Rattle.session.specs.reply.Says.{Says, pairs_said}
use Rattle.session.proofs.reply.{Writing.pair_said_lem, Writing.says}
use Rattle.session.proofs.reply.put_events.Goals as goal

pub loop-i-init : goal.loop-i-init
unfolding pairs_said
loop-i-init c = start _

pub loop-i-preserved : goal.loop-i-preserved
loop-i-preserved c =
    let l = c.loop-i in
    let k : 4 * l.i + 4 - 4 * l.i ≡ 4 = omega arith in
    pair_said_lem l.out c.args.out.now c.args.pairs.now _ l.i _ l.invariant k (omega (arith, c.requires, l.auto.out)) c.put_event.ensures

pub returns : goal.returns
returns c =
    let l = c.loop-i in
    let done : l.i ≡ c.args.count = omega arith in
    subst (λ (n : ℕ). Says (4 * n) c.args.out.now l.out (pairs_said n c.args.pairs.now)) done (says l.invariant)
