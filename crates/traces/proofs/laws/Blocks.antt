-- Blocks that stand back to back: where each begins, and the block and the place in it of each record.
use Rattle.basics.proofs.Prelude.{◌≡◌, refl, ap, ◌∙◌, true, ◌&&◌, and-eq-true_iff, List, ℕ, zero, suc, ◌+◌, ◌-◌, ◌*◌, ◌<◌, ◌≤◌, arith, eqb, leb, ltb, leb-true, eqb-true, ltb-true, ltb-false, test}
use Rattle.traces.specs.Trace.{record_length, block_at, blocks_from, records_in, back_to_back}
use Rattle.traces.proofs.laws.Computed as computed

-- ---- one block more

module _ (l : List ℕ) where
  pub records_none : (b : ℕ) → records_in (blocks_from 0 b l) ≡ 0
  unfolding blocks_from records_in
  records_none b = refl

  pub records_front : (n b : ℕ) → records_in (blocks_from (suc n) b l) ≡ (block_at b l).records + records_in (blocks_from n (suc b) l)
  unfolding blocks_from records_in
  records_front n b = refl

  pub stand_none : (at b : ℕ) → back_to_back at (blocks_from 0 b l) ≡ true
  unfolding blocks_from back_to_back
  stand_none at b = refl

  pub stand_next : (at n b : ℕ) → back_to_back at (blocks_from (suc n) b l)
      ≡ eqb (block_at b l).offset at && (leb 1 (block_at b l).records && back_to_back (at + record_length * (block_at b l).records) (blocks_from n (suc b) l))
  unfolding blocks_from back_to_back
  stand_next at n b = refl

  -- what it is that the next block and those behind it stand
  pub record Stands (at n b : ℕ) : Type 0 where
    pub here : (block_at b l).offset ≡ at
    pub some : 1 ≤ (block_at b l).records
    pub rest : back_to_back (at + record_length * (block_at b l).records) (blocks_from n (suc b) l) ≡ true

  pub stand_front : (at n b : ℕ) → back_to_back at (blocks_from (suc n) b l) ≡ true → Stands at n b
  unfolding blocks_from back_to_back
  stand_front at n b e =
      let f = (and-eq-true_iff _ _).0 e in
      let g = (and-eq-true_iff _ _).0 f.1 in
      record { here = eqb-true (block_at b l).offset at f.0; some = leb-true 1 (block_at b l).records g.0; rest = g.1 }

-- ---- the block with a number

-- how many records stand before block i of those from b on
abbrev pub before : List ℕ → ℕ → ℕ → ℕ
before l b i = records_in (blocks_from i b l)

pub before_next : (l : List ℕ) (b i : ℕ) → before l b (suc i) ≡ before l b i + (block_at (b + i) l).records
before_next l b zero =
    let s : b + 0 ≡ b = omega arith in
    records_front l 0 b ∙ omega (arith, records_none l (suc b), records_none l b, ap (λ c. (block_at c l).records) s)
before_next l b (suc i) =
    let s : suc b + i ≡ b + suc i = omega arith in
    records_front l (suc i) b ∙ omega (arith, before_next l (suc b) i, records_front l i b, ap (λ c. (block_at c l).records) s)

-- it begins behind those before it, and it is not empty
pub record Begins (l : List ℕ) (at b i : ℕ) : Type 0 where
  pub offset : (block_at (b + i) l).offset ≡ at + record_length * before l b i
  pub some : 1 ≤ (block_at (b + i) l).records

pub begins : (l : List ℕ) (n at b i : ℕ) → back_to_back at (blocks_from n b l) ≡ true → i < n → Begins l at b i
begins l zero at b i e h = absurd (omega arith)
begins l (suc n) at b zero e h =
    let s = stand_front l at n b e in
    let z : b ≡ b + 0 = omega arith in
    record {
      offset = omega (arith, s.here, records_none l b, ap (λ c. (block_at c l).offset) z);
      some = omega (arith, s.some, ap (λ c. (block_at c l).records) z);
    }
begins l (suc n) at b (suc i) e h =
    let s = stand_front l at n b e in
    let r = begins l n (at + record_length * (block_at b l).records) (suc b) i s.rest (omega arith) in
    let z : suc b + i ≡ b + suc i = omega arith in
    record {
      offset = omega (arith, r.offset, records_front l i b, ap (λ c. (block_at c l).offset) z);
      some = omega (arith, r.some, ap (λ c. (block_at c l).records) z);
    }

-- ---- the block of a record

-- record k of n blocks from b on stands in one of them
pub record Found (l : List ℕ) (n b k : ℕ) : Type 0 where
  pub block : ℕ
  pub in_it : ℕ
  pub listed : block < n
  pub inside : in_it < (block_at (b + block) l).records
  pub number : k ≡ before l b block + in_it

pub find : (l : List ℕ) (n b k : ℕ) → k < before l b n → Found l n b k
find l zero b k h = absurd (omega (arith, records_none l b))
find l (suc n) b k h =
    let z : b ≡ b + 0 = omega arith in
    test (ltb k (block_at b l).records)
    (λ t. let u = ltb-true k (block_at b l).records t in
    record { block = 0; in_it = k; listed = omega arith; inside = omega (arith, u, ap (λ c. (block_at c l).records) z); number = omega (arith, records_none l b) })
    (λ t. let u = ltb-false k (block_at b l).records t in
    let f = find l n (suc b) (k - (block_at b l).records) (omega (arith, u, records_front l n b)) in
    let s : suc b + f.block ≡ b + suc f.block = omega arith in
    record {
      block = suc f.block;
      in_it = f.in_it;
      listed = omega (arith, f.listed);
      inside = omega (arith, f.inside, ap (λ c. (block_at c l).records) s);
      number = omega (arith, u, f.number, records_front l f.block b);
    })

-- later blocks have no fewer records before them
pub before_grows : (l : List ℕ) (b i m : ℕ) → before l b i ≤ before l b (i + m)
before_grows l b i zero = let z : i ≡ i + 0 = omega arith in omega (arith, ap (before l b) z)
before_grows l b i (suc m) = let z : suc (i + m) ≡ i + suc m = omega arith in omega (arith, before_grows l b i m, before_next l b (i + m), ap (before l b) z)

-- so two records in different blocks have different numbers
pub apart : (l : List ℕ) (b i j m n : ℕ) → i < j → m < (block_at (b + i) l).records → before l b i + m ≡ before l b j + n → ⊥
apart l b i j m n h u e =
    let z : suc i + (j - suc i) ≡ j = omega arith in
    omega (arith, before_next l b i, before_grows l b (suc i) (j - suc i), ap (before l b) z)
