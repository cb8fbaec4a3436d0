-- `all_bits`: no number of those that were looked at is greater than the bits that they have together.
use Rattle.basics.proofs.Prelude.{ℕ, ◌<◌, ◌≤◌}
use Rattle.passes.specs.tallies.Tally.{number_at}
use Rattle.pch_pic_tally.proofs.soundness.all_bits.Given as goal

abbrev pub invariant-loop-k : goal.invariant-loop-k
invariant-loop-k l = (j : ℕ) → j < l.k → number_at l.tally j ≤ l.found
