-- `put_events` is right since after i turns the first i pairs are said at the front, and what lies behind is as it was.
use Rattle.basics.proofs.Prelude.{◌*◌, Filled}
use Rattle.session.specs.reply.Says.{pairs_said}
use Rattle.session.proofs.reply.put_events.Given as goal

abbrev pub invariant-loop-i : goal.invariant-loop-i
invariant-loop-i l = Filled l.out l.initial.out (pairs_said l.i l.pairs) (4 * l.i)
