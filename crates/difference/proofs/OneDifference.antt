-- 02, C-19: 'the only one in that range that is congruent to later minus earlier modulo 65,536', and 'So 32,768 ahead reads as -32,768'. The exported call
-- returns `difference_of` of its two numbers, so what is said of that here is said of what it returns.
use mathlib.Core.{Path.◌≡◌, Path.sym, Path.ap, Path.subst, Bool.cond}
use Rattle.std.proofs.Common.{ℕ, ◌+◌, ◌-◌, ◌*◌, ◌/◌, ◌%◌, ◌<◌, arith, ltb-false, ltb-true}
use lib.{Dec.ltb, IntN.ℤ, IntN.pos, IntN.neg_ℤ, IntN.◌+ℤ◌, IntN.◌-ℤ◌, IntN.◌*ℤ◌}
use Rattle.difference.specs.Difference.{ahead, is_ahead, difference_of, Congruent, IsDifference}
use Rattle.difference.proofs.Integers.{over, under, same, choice, sum, minus, times, of_≤ℤ, to_≤ℤ}

-- ---- congruence in naturals

shifted : (w k : ℤ) → over (w +ℤ k *ℤ pos 65536) + under w + under k * 65536 ≡ under (w +ℤ k *ℤ pos 65536) + over w + over k * 65536
shifted w k = let h = sum w (k *ℤ pos 65536) in omega (arith, (times k 65536).0, (times k 65536).1)

shifted_by : (z w k : ℤ) → z ≡ w +ℤ k *ℤ pos 65536 → over z + under w + under k * 65536 ≡ under z + over w + over k * 65536
shifted_by z w k e = subst (λ (v : ℤ). over v + under w + under k * 65536 ≡ under v + over w + over k * 65536) (sym e) (shifted w k)

pub congruent_by : (z : ℤ) (later earlier m n : ℕ) → over z + earlier + n * 65536 ≡ under z + later + m * 65536 → Congruent z (pos later -ℤ pos earlier)
congruent_by z later earlier m n e =
    let w = pos later -ℤ pos earlier in
    let k = pos m -ℤ pos n in
    (k, same z (w +ℤ k *ℤ pos 65536) (omega (arith, shifted w k, minus (pos later) (pos earlier), minus (pos m) (pos n))))

-- two that are in the range, and congruent to one, are less than 65,536 apart: so they are one
pub one_in_range : (later earlier : ℕ) (y z : ℤ) → IsDifference later earlier y → IsDifference later earlier z → y ≡ z
one_in_range later earlier y z p q =
    let w = pos later -ℤ pos earlier in
    same y z
    (omega (
      arith,
      shifted_by y w p.congruent.0 p.congruent.1,
      shifted_by z w q.congruent.0 q.congruent.1,
      of_≤ℤ p.least,
      of_≤ℤ p.most,
      of_≤ℤ q.least,
      of_≤ℤ q.most,
    ))

-- ---- what is promised of the difference

-- it lies from -32,768 to 32,767, and is congruent to later minus earlier modulo 65,536
pub is_difference : (later earlier : ℕ) → earlier < 65536 → IsDifference later earlier (difference_of later earlier)
is_difference later earlier l =
    choice (is_ahead later earlier) (IsDifference later earlier)
    (λ e.
    let near = ltb-true a _ e in
    record { least = to_≤ℤ _ _ (omega arith); most = to_≤ℤ _ _ (omega arith); congruent = congruent_by _ later earlier 1 n (omega arith) })
    (λ e.
    let far = ltb-false a _ e in
    let less = minus (pos a) (pos 65536) in
    record { least = to_≤ℤ _ _ (omega arith); most = to_≤ℤ _ _ (omega arith); congruent = congruent_by _ later earlier 0 n (omega arith) })
  where
    a : ℕ
    a = ahead later earlier

    -- how often 65,536 was left out
    n : ℕ
    n = (later + 65536 - earlier) / 65536

-- it is the only one
pub only_difference : (later earlier : ℕ) → earlier < 65536 → (z : ℤ) → IsDifference later earlier z → z ≡ difference_of later earlier
only_difference later earlier l z p = one_in_range later earlier z (difference_of later earlier) p (is_difference later earlier l)

-- So the contract of the exported call, r ≡ difference_of later earlier, says of r what the paper says and no more: it holds exactly where r lies from -32,768 to 32,767 and is congruent to later minus
-- earlier modulo 65,536. A number of 16 bits is below 65,536.
pub contract_is_the_paper : (later earlier : ℕ) → earlier < 65536 → (r : ℤ) → (r ≡ difference_of later earlier → IsDifference later earlier r) × (IsDifference later earlier r → r ≡ difference_of later earlier)
contract_is_the_paper later earlier l r = (λ e. subst (IsDifference later earlier) (sym e) (is_difference later earlier l), only_difference later earlier l r)

-- 32,768 ahead reads as -32,768, from every number
pub half_way_round : (earlier : ℕ) → earlier < 65536 → difference_of ((earlier + 32768) % 65536) earlier ≡ neg_ℤ (pos 32768)
half_way_round earlier l =
    let e : ahead ((earlier + 32768) % 65536) earlier ≡ 32768 = omega arith in
    ap (λ (a : ℕ). cond (ltb a 32768) (pos a) (pos a -ℤ pos 65536)) e
