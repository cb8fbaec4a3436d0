-- The bound on the length of a trace is exact (02, C-11): a good trace of 64 blocks and 4,000 records is there, and it has 2 + 64 * 4 + 4,000 * 16 bytes.
use Rattle.basics.proofs.Prelude.{◌≡◌, refl, sym, ap, subst, ◌∙◌, true, List, [], ◌∷◌, ◌++◌, ℕ, zero, suc, ◌+◌, ◌*◌, ◌<◌, ◌≤◌, arith, length, take, replicate, drop-append-add, Each}
use Rattle.traces.specs.Trace.{record_length, block_count, first_place, record_count, record_of, record_at, is_good, good, trace_test}
use Rattle.traces.specs.salvages.Kept.{all_good, joined, trace_of}
use Rattle.traces.proofs.demands.Sizes.{trace_length}
use Rattle.traces.proofs.salvages.laws.{Built.Whole, Built.Fit, Built.length_trace, Built.count_is, Built.bodies_are, Built.contents_good_lem, Chosen.joined_none, Chosen.length_joined, Taken.are_all_good}
use Rattle.traces.proofs.salvages.demands.Blocks.{all_good_tested}

-- ---- drains of all, one after another

abbrev drain_record : List ℕ
drain_record = 6 ∷ replicate 15 0

drains_of : ℕ → List ℕ
drains_of zero = []
drains_of (suc n) = drain_record ++ drains_of n

drains_length : (n : ℕ) → length (drains_of n) ≡ record_length * n
unfolding drains_of
drains_length zero = refl
drains_length (suc n) = omega (arith, drains_length n)

drain_at : (n j : ℕ) → j < n → is_good (record_at (record_length * j) (drains_of n)) ≡ true
unfolding drains_of is_good
drain_at zero j h = absurd (omega arith)
drain_at (suc n) zero h = refl
drain_at (suc n) (suc j) h =
    let z : record_length * suc j ≡ 16 + record_length * j = omega arith in
    ap (λ a. is_good (record_at a (drains_of (suc n)))) z ∙ ap (λ xs. is_good (record_of (take record_length xs))) (drop-append-add drain_record (drains_of n) (record_length * j)) ∙ drain_at n j (omega arith)

drains_whole : (n : ℕ) → 1 ≤ n → Whole (drains_of n)
drains_whole n h = record { records = omega (arith, drains_length n); some = omega (arith, drains_length n) }

drains_good : (n : ℕ) → all_good (drains_of n) ≡ true
drains_good n = are_all_good (drains_of n) (λ j h. drain_at n j (omega (arith, h, drains_length n)))

-- ---- sixty-three blocks of one record, and one of all the others

abbrev long_block : List ℕ
long_block = drains_of 3937

blocks_before : ℕ → List (List ℕ)
blocks_before zero = long_block ∷ []
blocks_before (suc n) = drains_of 1 ∷ blocks_before n

each_before : (P : List ℕ → Type 0) → P (drains_of 1) → P long_block → (n : ℕ) → Each P (blocks_before n)
unfolding blocks_before
each_before P p q zero = (q, tt)
each_before P p q (suc n) = (p, each_before P p q n)

before_count : (n : ℕ) → length (blocks_before n) ≡ n + 1
unfolding blocks_before
before_count zero = refl
before_count (suc n) = omega (arith, before_count n)

before_joined : (n : ℕ) → length (joined (blocks_before n)) ≡ record_length * (n + 3937)
unfolding blocks_before
before_joined zero = omega (arith, length_joined long_block [], ap length joined_none, drains_length 3937)
before_joined (suc n) = omega (arith, length_joined (drains_of 1) (blocks_before n), before_joined n, drains_length 1)

pub longest : List ℕ
longest = trace_of (blocks_before 63)

fit : Fit (blocks_before 63)
fit = record {
  whole = each_before Whole (drains_whole 1 (omega arith)) (drains_whole 3937 (omega arith)) 63;
  few = omega (arith, before_count 63);
  most = omega (arith, before_joined 63);
}

-- A good trace, of 64,258 bytes, 4,000 records and 64 blocks.
pub longest_is_good : (trace_test longest ≡ good (first_place longest) (record_count longest)) × (length longest ≡ 64258) × (record_count longest ≡ 4000) × (block_count longest ≡ 64)
unfolding longest
longest_is_good =
    let c = contents_good_lem (blocks_before 63) fit (omega (arith, before_count 63)) in
    let long : length (trace_of (blocks_before 63)) ≡ 64258 = omega (arith, length_trace (blocks_before 63), before_count 63, before_joined 63) in (
      all_good_tested longest c (subst (Each (λ x. all_good x ≡ true)) (sym (bodies_are (blocks_before 63) fit)) (each_before (λ x. all_good x ≡ true) (drains_good 1) (drains_good 3937) 63)),
      long,
      omega (arith, long, trace_length longest c, count_is (blocks_before 63) fit, before_count 63),
      omega (arith, count_is (blocks_before 63) fit, before_count 63),
    )
