-- The loops over rows and columns of a sheet, one round more, and those of its end.
use Rattle.basics.proofs.Prelude.{Bool, ◌≡◌, sym, ap, subst, ◌∙◌, cond, List, ℕ, suc, ◌+◌, ◌%◌, ◌^◌, max, ◌<◌, arith, eqb, eqb-true, eqb-false, eq-eqb, ne_eqb, true, false, test}
use Rattle.passes.specs.{tallies.Grid.Grid, tallies.Grid.put, tallies.Grid.Holds, tallies.Grid.Reads, tallies.Grid.Puts, tallies.Grid.limit, tallies.Grid.Becomes, Finish.is_on, Finish.shut, Finish.joined, Finish.row_joined, Finish.finished}
use Rattle.passes.proofs.tallies.laws.Grids.{small_low, sum_low}
use Rattle.ledger.proofs.cells.Held.{fits_small}

-- before the first round
pub none_done : {wide : Bool} (b : List ℕ) → Becomes wide b b (λ f. f)
none_done b f rest h = h

-- a family of grids, and one of it more
pub next_done : {wide : Bool} {b c a : List ℕ} (g : Grid → ℕ → Grid) (n : ℕ) → Becomes wide b c (λ f. g f n) → ((f : Grid) (rest : List ℕ) → Holds wide c (g f n) rest → Holds wide a (g f (suc n)) rest) → Becomes wide b a (λ f. g f (n + 1))
next_done {wide} {a} g n s t f rest h = let z : suc n ≡ n + 1 = omega arith in subst (λ k. Holds wide a (g f k) rest) z (t f rest (s f rest h))

module _ {b c a : List ℕ} where
  pub row_next : {wide : Bool} (n k : ℕ) → Becomes wide b c (λ f. row_joined f n k) → Becomes wide c a (λ f. put f 64 k (joined k (f 64 k) (f n k))) → Becomes wide b a (λ f. row_joined f n (k + 1))
  unfolding row_joined
  row_next n k s t = next_done (λ f i. row_joined f n i) k s (λ f rest h. t _ rest h)

  pub finished_next : {wide : Bool} (n : ℕ) → Becomes wide b c (λ f. finished f n) → Becomes wide c a (λ f. row_joined (shut f n) n 10) → Becomes wide b a (λ f. finished f (n + 1))
  unfolding finished
  finished_next n s t = next_done finished n s (λ f rest h. t _ rest h)

-- before the first round of each
module _ (b : List ℕ) where
  pub row_none : {wide : Bool} (n : ℕ) → Becomes wide b b (λ f. row_joined f n 0)
  unfolding row_joined
  row_none n = none_done b

  pub finished_none : {wide : Bool} → Becomes wide b b (λ f. finished f 0)
  unfolding finished
  finished_none = none_done b

-- so many rounds as there are
pub all_done : {wide : Bool} {b a : List ℕ} (g : Grid → ℕ → Grid) (n k : ℕ) → n ≡ k → Becomes wide b a (λ f. g f n) → Becomes wide b a (λ f. g f k)
all_done {wide} {b} {a} g n k e s = subst (λ j. Becomes wide b a (λ f. g f j)) e s

-- ---- one number read and another written

pub shuts : {wide : Bool} {b a : List ℕ} (n : ℕ) → n < 64 → {x v : ℕ} → Reads wide b x n 9 → v ≡ is_on x → Puts wide b a n 9 v → Becomes wide b a (λ f. shut f n)
shuts {wide} n p {x} {v} r e s f rest h =
    let is : v ≡ is_on (f n 9) = e ∙ ap is_on (r f rest h ∙ small_low wide (f n 9) (h.late n p)) in
    s (is_on (f n 9)) (ap (λ u. u % limit wide) (sym is)) (fits_small wide n 9 (is_on (f n 9)) (on_small wide (eqb (f n 9) 0))) f rest h
  where
    on_small : (w : Bool) (b : Bool) → cond b 0 1 < limit w
    on_small true true = omega arith
    on_small true false = omega arith
    on_small false true = omega arith
    on_small false false = omega arith

module _ {wide : Bool} {b a : List ℕ} (n c : ℕ) (p : n < 64) {x t v : ℕ} (r : Reads wide b x n c) (q : Reads wide b t 64 c) (e : v ≡ joined c t x % 2 ^ 64) (s : Puts wide b a 64 c v) where
  joins_greatest : c ≡ 7 → Becomes wide b a (λ f. put f 64 c (joined c (f 64 c) (f n c)))
  joins_greatest z f rest h =
      let great : (m : ℕ) → m < 65 → f m c < limit wide = λ m i. subst (λ k. f m k < limit wide) (sym z) (h.great m i) in
      let small : max (f 64 c) (f n c) < limit wide = most (limit wide) (f 64 c) (f n c) (great 64 (omega arith)) (great n (omega (arith, p))) in
      let is : joined c (f 64 c) (f n c) ≡ max (f 64 c) (f n c) = ap (λ k. cond k (max (f 64 c) (f n c)) (f 64 c + f n c)) (eq-eqb c 7 z) in
      let its : joined c t x ≡ max (f 64 c) (f n c) = (λ i. joined c ((q f rest h ∙ small_low wide (f 64 c) (great 64 (omega arith))) i) ((r f rest h ∙ small_low wide (f n c) (great n (omega (arith, p)))) i)) ∙ is in
      let same : max (f 64 c) (f n c) ≡ v = sym (e ∙ ap (λ y. y % 2 ^ 64) its ∙ fits_word wide (max (f 64 c) (f n c)) small) in
      s (joined c (f 64 c) (f n c)) (ap (λ y. y % limit wide) (is ∙ same)) (fits_small wide 64 c (joined c (f 64 c) (f n c)) (subst (λ y. y < limit wide) (sym is) small)) f rest h
    where
      most : (b x y : ℕ) → x < b → y < b → max x y < b
      most b x y h q = omega (arith, h, q)

      fits_word : (w : Bool) (y : ℕ) → y < limit w → y % 2 ^ 64 ≡ y
      fits_word true y h = omega (arith, h)
      fits_word false y h = omega (arith, h)

  joins_sum : (c ≡ 7 → ⊥) → Becomes wide b a (λ f. put f 64 c (joined c (f 64 c) (f n c)))
  joins_sum z f rest h =
      let is : (y w : ℕ) → joined c y w ≡ y + w = λ y w. ap (λ k. cond k (max y w) (y + w)) (ne_eqb c 7 z) in
      let same = sum_low wide (f n c) (f 64 c) x t v (r f rest h) (q f rest h) (e ∙ ap (λ y. y % 2 ^ 64) (is t x)) in
      s (joined c (f 64 c) (f n c)) (ap (λ y. y % limit wide) (is (f 64 c) (f n c)) ∙ same) (λ k. absurd (z k), λ k i. absurd (omega (arith, i))) f rest h

  pub joins : Becomes wide b a (λ f. put f 64 c (joined c (f 64 c) (f n c)))
  joins = test (eqb c 7) (λ k. joins_greatest (eqb-true c 7 k)) (λ k. joins_sum (eqb-false c 7 k))
