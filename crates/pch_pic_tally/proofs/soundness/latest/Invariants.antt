-- `latest`: no wait of those that were looked at began later.
use Rattle.basics.proofs.Prelude.{ℕ, ◌+◌, ◌*◌, ◌<◌, ◌≤◌}
use Rattle.passes.specs.tallies.Tally.{number_at}
use Rattle.pch_pic_tally.proofs.soundness.latest.Given as goal

abbrev pub invariant-loop-n : goal.invariant-loop-n
invariant-loop-n l = (j : ℕ) → j < l.n → number_at l.tally (10 * j + 9) ≤ l.most
