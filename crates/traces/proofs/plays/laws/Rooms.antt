-- How many of the first records drain: one record more, and no fewer in all.
use Rattle.basics.proofs.Prelude.{◌≡◌, ap, List, ℕ, zero, suc, ◌+◌, ◌≤◌, arith}
use Rattle.traces.specs.{Trace.nth, Played.records_from, plays.Playing.drains, plays.Playing.drains_in}

pub drains_last : (l : List ℕ) (n k : ℕ) → drains_in (records_from l (suc n) k) ≡ drains_in (records_from l n k) + drains (nth l (k + n))
unfolding drains_in records_from
drains_last l zero k =
    let z : k ≡ k + 0 = omega arith in
    let same : drains (nth l k) ≡ drains (nth l (k + 0)) = ap (λ (m : ℕ). drains (nth l m)) z in
    omega (arith, same)
drains_last l (suc n) k =
    let z : suc k + n ≡ k + suc n = omega arith in
    let same : drains (nth l (suc k + n)) ≡ drains (nth l (k + suc n)) = ap (λ (m : ℕ). drains (nth l m)) z in
    omega (arith, same, drains_last l n (suc k))

pub drains_more : (l : List ℕ) (n m k : ℕ) → drains_in (records_from l n k) ≤ drains_in (records_from l (n + m) k)
unfolding drains_in records_from
drains_more l zero m k = omega arith
drains_more l (suc n) m k =
    let z : suc n + m ≡ suc (n + m) = omega arith in
    let same : drains_in (records_from l (suc n + m) k) ≡ drains (nth l k) + drains_in (records_from l (n + m) (suc k)) = ap (λ (j : ℕ). drains_in (records_from l j k)) z in
    omega (arith, same, drains_more l n m (suc k))
