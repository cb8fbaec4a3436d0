-- A row of zeros: it has no open wait, and joins nothing to the total, so that the bytes stay as they are.
use Rattle.basics.proofs.Prelude.{Bool, true, false, ◌≡◌, sym, ap, subst, ◌∙◌, List, [], ◌∷◌, ◌++◌, ℕ, zero, suc, ◌+◌, ◌*◌, ◌-◌, ◌%◌, ◌^◌, ◌<◌, ◌≤◌, max, arith, refl, take, drop, take-append-drop, part, part_add, number_of, put_mid, eqb, test, eqb-true, ◌&&◌, and-eq-true_iff}
use Rattle.passes.specs.{tallies.Grid.cell_bytes, tallies.Grid.cell_place, tallies.Grid.limit, tallies.Grid.put, tallies.Grid.Reads, tallies.Grid.Puts, tallies.Grid.Becomes, tallies.Grid.Holds, Finish.shut, Finish.joined, Finish.row_joined}
use Rattle.passes.proofs.tallies.laws.Grids.{bytes_same, cell_read, cell_put}
use Rattle.ledger.specs.totals.Zeros.{FoundZero}
use Rattle.ledger.proofs.totals.Rows.{row_none, row_next, shuts, joins}

-- ---- bytes that spell 0

both_zero : (a b : List ℕ) → number_of a ≡ 0 → number_of b ≡ 0 → number_of (a ++ b) ≡ 0
both_zero [] b e g = g
both_zero (x ∷ a) b e g = omega (arith, e, both_zero a b (omega (arith, e)) g)

first_zero : (a b : List ℕ) → number_of (a ++ b) ≡ 0 → number_of a ≡ 0
first_zero [] b e = refl
first_zero (x ∷ a) b e = omega (arith, e, first_zero a b (omega (arith, e)))

second_zero : (a b : List ℕ) → number_of (a ++ b) ≡ 0 → number_of b ≡ 0
second_zero [] b e = e
second_zero (x ∷ a) b e = second_zero a b (omega (arith, e))

-- one part behind another, and a part of a part
module _ (l : List ℕ) where
  zeros_add : (at n m : ℕ) → number_of (part at n l) ≡ 0 → number_of (part (at + n) m l) ≡ 0 → number_of (part at (n + m) l) ≡ 0
  zeros_add at n m z w = ap number_of (sym (part_add l at n m)) ∙ both_zero (part at n l) (part (at + n) m l) z w

  zeros_within : (at to n k m j : ℕ) → to ≡ at + k → n ≡ k + (m + j) → number_of (part at n l) ≡ 0 → number_of (part to m l) ≡ 0
  zeros_within at to n k m j e g z =
      let rest = second_zero (part at k l) (part (at + k) (m + j) l) (ap number_of (part_add l at k (m + j)) ∙ ap (λ i. number_of (part at i l)) (sym g) ∙ z) in
      ap (λ i. number_of (part i m l)) e ∙ first_zero (part (at + k) m l) (part (at + k + m) j l) (ap number_of (part_add l (at + k) m j) ∙ rest)

  -- each number of a row
  cell_zero : (w : Bool) (n c : ℕ) → c < 10 → number_of (part (cell_place w n 0) (10 * cell_bytes w) l) ≡ 0 → number_of (part (cell_place w n c) (cell_bytes w) l) ≡ 0
  cell_zero true n c p z = zeros_within (cell_place true n 0) (cell_place true n c) 80 (8 * c) 8 (72 - 8 * c) (omega arith) (omega (arith, p)) z
  cell_zero false n c p z = zeros_within (cell_place false n 0) (cell_place false n c) 40 (4 * c) 4 (36 - 4 * c) (omega arith) (omega (arith, p)) z

-- ---- what is found of a row: five words, and of a wide one five more

-- the word at a place
abbrev IsWord : ℕ → ℕ → List ℕ → Type 0
IsWord x p l = x ≡ number_of (part p 8 l)

module _ (l : List ℕ) (at : ℕ) {a b c d e : ℕ} where
  pub five_zeros : IsWord a at l → IsWord b (at + 8) l → IsWord c (at + 16) l → IsWord d (at + 24) l → IsWord e (at + 32) l → FoundZero (eqb a 0 && eqb b 0 && eqb c 0 && eqb d 0 && eqb e 0) at 40 l
  five_zeros p q r s t z =
      let f = (and-eq-true_iff (eqb a 0 && eqb b 0 && eqb c 0 && eqb d 0) (eqb e 0)).0 z in
      let g = (and-eq-true_iff (eqb a 0 && eqb b 0 && eqb c 0) (eqb d 0)).0 f.0 in
      let h = (and-eq-true_iff (eqb a 0 && eqb b 0) (eqb c 0)).0 g.0 in
      let k = (and-eq-true_iff (eqb a 0) (eqb b 0)).0 h.0 in
      let two = zeros_add l at 8 8 (sym p ∙ eqb-true a 0 k.0) (sym q ∙ eqb-true b 0 k.1) in
      let three = zeros_add l at 16 8 two (sym r ∙ eqb-true c 0 h.1) in
      let four = zeros_add l at 24 8 three (sym s ∙ eqb-true d 0 g.1) in
      zeros_add l at 32 8 four (sym t ∙ eqb-true e 0 f.1)

module _ (l : List ℕ) (n : ℕ) where
  module _ {w : Bool} {at : ℕ} where
    pub wide_row : w ≡ true → at ≡ cell_place w n 0 → {a b : Bool} → FoundZero a at 40 l → FoundZero b (at + 40) 40 l → FoundZero (a && b) (cell_place w n 0) (10 * cell_bytes w) l
    wide_row e p {a} {b} f g t =
        let both = (and-eq-true_iff a b).0 t in
        let all : 80 ≡ 10 * cell_bytes w = ap (λ v. 10 * cell_bytes v) (sym e) in
        (λ i. number_of (part (sym p i) (sym all i) l)) ∙ zeros_add l at 40 40 (f both.0) (g both.1)

-- ---- such a row

-- a number that is written where it stands
stays : {w : Bool} {l : List ℕ} {x : ℕ} (n c : ℕ) → n < 65 → c < 10 → Reads w l x n c → (v : ℕ) → v % limit w ≡ x % limit w → Puts w l l n c v
stays {w} {l} {x} n c p q r v e u k fits f rest h =
    let a = cell_place w n c in
    let m = cell_bytes w in
    let same : put_mid a m l (part a m l) ≡ l = ap (λ y. take a l ++ y) (take-append-drop m (drop a l)) ∙ take-append-drop a l in
    let low : u % limit w ≡ f n c % limit w = k ∙ e ∙ ap (λ y. y % limit w) (r f rest h) ∙ again w (f n c) in
    subst (λ y. Holds w y (put f n c u) rest) same (cell_put w h n c p q u (part a m l) (h.cells n c p q ∙ bytes_same w u (f n c) low) fits)
  where
    again : (w : Bool) (y : ℕ) → y % limit w % limit w ≡ y % limit w
    again true y = omega arith
    again false y = omega arith

module _ {w : Bool} {l : List ℕ} (n : ℕ) (p : n < 64) (z : number_of (part (cell_place w n 0) (10 * cell_bytes w) l) ≡ 0) where
  none_read : (c : ℕ) → c < 10 → Reads w l 0 n c
  none_read c q f rest h = sym (cell_zero l w n c q z) ∙ cell_read w h n c (omega (arith, p)) q

  none_joined : (k : ℕ) → k ≤ 10 → Becomes w l l (λ f. row_joined f n k)
  none_joined zero q = row_none l n
  none_joined (suc k) q =
      let t = number_of (part (cell_place w 64 k) (cell_bytes w) l) in
      let total : Reads w l t 64 k = λ f rest h. cell_read w h 64 k (omega arith) (omega (arith, q)) in
      let one : k + 1 ≡ suc k = omega arith in
      subst (λ j. Becomes w l l (λ f. row_joined f n j)) one
      (row_next n k (none_joined k (omega (arith, q)))
      (joins n k p (none_read k (omega (arith, q))) total refl (stays 64 k (omega arith) (omega (arith, q)) total (joined k t 0 % 2 ^ 64) (nothing w k t))))
    where
      nothing : (w : Bool) (k t : ℕ) → joined k t 0 % 2 ^ 64 % limit w ≡ t % limit w
      nothing w k t = test (eqb k 7) (λ e. rw e (low w (max t 0) (omega arith))) (λ e. rw e (low w (t + 0) (omega arith)))
        where
          low : (w : Bool) (y : ℕ) → y ≡ t → y % 2 ^ 64 % limit w ≡ t % limit w
          low true y e = omega (arith, e)
          low false y e = omega (arith, e)

  pub skipped : Becomes w l l (λ f. row_joined (shut f n) n 10)
  skipped f rest h =
      none_joined 10 (omega arith) _ rest (shuts n p (none_read 9 (omega arith)) refl (stays n 9 (omega (arith, p)) (omega arith) (none_read 9 (omega arith)) 0 refl) f rest h)
