-- `play_all` is safe: each turn leaves the session ready for the next.
use Rattle.session.specs.Feeds.{Ready}
use Rattle.session_main.proofs.play_all.Given as goal

abbrev pub invariant-loop : goal.invariant-loop
invariant-loop g l = Ready l.session l.line
