-- `put_digits` is right since the digits still to come, and what stands behind them, are the whole at every turn.
use Rattle.basics.proofs.Prelude.{◌≡◌, ◌++◌, drop}
use Rattle.sessions.specs.Session.{digits}
use Rattle.session.proofs.hex.put_digits.Given as goal

abbrev pub invariant-loop-i : goal.invariant-loop-i
invariant-loop-i l = digits l.i l.rest ++ drop l.i l.out ≡ digits l.n l.x ++ drop l.n l.initial.out
