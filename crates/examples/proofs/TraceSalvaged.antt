-- A torn trace salvaged (02, C-23): three blocks, of which the second was not written to its end; and what came out, salvaged again.
use Rattle.basics.proofs.Prelude.{◌≡◌, refl, List, [], ◌∷◌, ◌++◌, ℕ, zero, suc, ◌-◌, arith, length, take, replicate, bytes_known}
use Rattle.rules.specs.Device.{some}
use Rattle.calls.specs.Calls.{answered, value_in}
use Rattle.traces.specs.{Trace.good, Trace.trace_test, plays.Playing.in_front, salvages.Salvaging.SalvageLeft, salvages.Salvaging.salvage_leaves, salvages.Salvaging.salvaging}
use Rattle.traces.specs.{Trace.block_count, salvages.Kept.body_of, salvages.Kept.bodies, salvages.Kept.entries_in, salvages.Which.GoodBlock, salvages.Which.good_before, salvages.Which.times_listed}
use Rattle.traces.proofs.salvages.demands.Exactly.{kept_if_good, listed_once_if_torn}
use Rattle.traces.proofs.{laws.Computed.tracing, salvages.laws.Computed.computed, salvages.demands.Left.good_left, salvages.demands.Left.again_left}

abbrev raise : ℕ → List ℕ
raise n = 1 ∷ n ∷ replicate 14 0

-- one record, three of which the last two are zeros, two
abbrev torn : List ℕ
torn = (3 ∷ 0 ∷ 14 ∷ 0 ∷ 1 ∷ 0 ∷ 30 ∷ 0 ∷ 3 ∷ 0 ∷ 78 ∷ 0 ∷ 2 ∷ 0 ∷ []) ++ (raise 1 ++ (raise 2 ++ (replicate 32 0 ++ (raise 3 ++ raise 4))))

abbrev left : List ℕ
left = (2 ∷ 0 ∷ 10 ∷ 0 ∷ 1 ∷ 0 ∷ 26 ∷ 0 ∷ 2 ∷ 0 ∷ []) ++ (raise 1 ++ (raise 3 ++ raise 4))

-- buffers of 60 and 5 bytes, and an answer area of 17
abbrev outcome : SalvageLeft
outcome = salvaging torn (replicate 60 7) (replicate 5 8) (replicate 17 9)

-- two blocks are kept; block 1 is listed, with record 1
salvaged : outcome ≡ salvage_leaves 0 (left ++ (7 ∷ 7 ∷ [])) (1 ∷ 0 ∷ 1 ∷ 0 ∷ 8 ∷ []) ((0 ∷ 1 ∷ replicate 6 0) ++ ((58 ∷ replicate 7 0) ++ (9 ∷ [])))
unfolding computed salvaging answered
salvaged = refl

-- so the call was done, and a second one on what it left gives the same bytes again
was_done : outcome.number ≡ 0
unfolding computed salvaging
was_done = refl

came_out : left ≡ take (value_in outcome.answer) outcome.second
unfolding computed salvaging answered
came_out = refl

again : salvaging left (replicate 60 7) [] (replicate 16 9) ≡ salvage_leaves 0 (in_front left (replicate 60 7)) [] (answered 0 (some (length left)) (replicate 16 9))
again = again_left torn (replicate 60 7) (replicate 5 8) (replicate 17 9) (omega arith) was_done left came_out (replicate 60 7) [] (replicate 16 9) (omega arith) (omega arith)

-- block 2, all good, is kept as number 1; block 1, whose record 1 is bad, is listed once, and so is the only one
last_kept : body_of 1 (take (value_in outcome.answer) outcome.second) ≡ raise 3 ++ raise 4
unfolding computed salvaging good_before
last_kept = (kept_if_good torn (replicate 60 7) (replicate 5 8) (replicate 17 9) was_done 2 (omega arith) both).1
  where
    both : GoodBlock torn 2
    both zero h = refl
    both (suc zero) h = refl
    both (suc (suc j)) h = absurd (omega (arith, h))

torn_listed : times_listed 1 (entries_in (block_count torn - block_count outcome.second) outcome.list) ≡ 1
unfolding computed
torn_listed = listed_once_if_torn torn (replicate 60 7) (replicate 5 8) (replicate 17 9) was_done 1 (omega arith) 1 (omega arith) refl

-- and a good trace comes out as it is
left_good : trace_test left ≡ good 10 3
unfolding tracing
left_good = refl

unchanged : salvaging left left [] (replicate 16 9) ≡ salvage_leaves 0 (in_front left left) [] (answered 0 (some (length left)) (replicate 16 9))
unchanged = good_left left (bytes_known left refl) left_good left [] (replicate 16 9) (omega arith) (omega arith)
