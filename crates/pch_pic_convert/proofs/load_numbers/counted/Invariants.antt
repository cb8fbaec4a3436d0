-- `counted`: the count and a zero byte, so many of the numbers from 0 on, and zeros behind them.
use Rattle.basics.proofs.Prelude.{◌≡◌, List, ◌∷◌, ℕ}
use Rattle.rules.specs.{Device.up_from, Numbering.number_twos}
use Rattle.images.specs.Image.{sixteen}
use Rattle.pch_pic_convert.proofs.load_numbers.counted.Given as goal

-- the count, and i numbers from 0 on
abbrev pub sofar : ℕ → ℕ → List ℕ
sofar n i = n ∷ 0 ∷ sixteen number_twos (up_from 0 i)

abbrev pub invariant-loop-i : goal.invariant-loop-i
invariant-loop-i l = l.body ≡ sofar l.count l.i
