-- 02, C-21: every raise that found its input neither latched nor in service is answered, withdrawn or open, and these add up.
use Rattle.basics.proofs.Prelude.{◌≡◌, refl, ◌∙◌, List, [], ◌∷◌, ℕ, ◌+◌, arith, length, test}
use Rattle.rules.specs.Account.{tally}
use Rattle.sheets.specs.{Day.Moment, Day.day_of, Waits.begins, Waits.End, Waits.answered, Waits.withdrawn, Waits.still_open, Waits.waits, Waits.is_answered, Waits.is_withdrawn, Waits.is_open, Sheet.row_of}

-- a wait has one end
each_ends : (ws : List End) → length ws ≡ tally is_answered ws + tally is_withdrawn ws + tally is_open ws
unfolding tally
each_ends [] = refl
each_ends (answered k ∷ ws) = omega (arith, each_ends ws)
each_ends (withdrawn ∷ ws) = omega (arith, each_ends ws)
each_ends (still_open ∷ ws) = omega (arith, each_ends ws)

-- and begins at such a raise
each_begins : (n : ℕ) (ms : List Moment) → tally (begins n) ms ≡ length (waits n ms)
unfolding tally waits
each_begins n [] = refl
each_begins n (m ∷ ms) = test (begins n m) (λ t. rw t (omega (arith, each_begins n ms))) (λ t. rw t (omega (arith, each_begins n ms)))

-- Of any trace and input: the raises that found the input idle are as many as the waits that were answered, with those withdrawn and those open of the sheet's row.
pub raises_end : (l : List ℕ) (n : ℕ)
    → tally (begins n) (day_of l).moments ≡ tally is_answered (waits n (day_of l).moments) + (row_of (day_of l) n).withdrawn + (row_of (day_of l) n).still_open
unfolding row_of
raises_end l n = each_begins n (day_of l).moments ∙ each_ends (waits n (day_of l).moments)
