-- What the test of a tally finds, as the rules see it, and one number tested.
use Rattle.std.specs.Prelude.{Bool, ◌&&◌, ◌||◌, List, ℕ, ◌+◌, ◌*◌, ◌^◌, ◌<◌, ◌≤◌, leb, ltb, ⊤, Result, Ok, Err}
use Rattle.passes.specs.tallies.Tally.{number_at, of_open_wait, TallyTest, sound, wrong_at}
use Rattle.pch_pic_tally.specs.declared.soundness.WrongAt.{WrongAt}

abbrev pub sound_view : Result ⊤ WrongAt → TallyTest
sound_view (Ok u) = sound
sound_view (Err w) = wrong_at w.0

-- the number x at place k, where so many records were counted
abbrev pub wrong_number : ℕ → ℕ → ℕ → Bool
wrong_number x k n = leb (2 ^ 63) x || (of_open_wait k && ltb n x)

-- no number is greater than r; no wait began later than at r
abbrev pub NoneAbove : List ℕ → ℕ → Type 0
NoneAbove t r = (k : ℕ) → k < 650 → number_at t k ≤ r

abbrev pub NoneLater : List ℕ → ℕ → Type 0
NoneLater t r = (n : ℕ) → n < 64 → number_at t (10 * n + 9) ≤ r
