-- The loops that set rows to zero, and the grid that any bytes hold.
use Rattle.basics.proofs.Prelude.{◌≡◌, refl, sym, subst, Bool, true, false, List, [], ◌∷◌, ◌++◌, ℕ, ◌+◌, ◌%◌, ◌^◌, ◌<◌, ◌≤◌, arith, length, drop, number_of, part, Bytes, part_number, part_below}
use Rattle.passes.specs.{tallies.Grid.Grid, tallies.Grid.cell_bytes, tallies.Grid.cell_place, tallies.Grid.grid_length, tallies.Grid.limit, tallies.Grid.put, tallies.Grid.Holds, tallies.Grid.Reads, tallies.Grid.Puts, tallies.Grid.Becomes, Finish.zeros, Finish.row_from, Finish.rows_from, Finish.row_cleared, Finish.cleared}
use Rattle.passes.proofs.{tallies.laws.Grids.inside, laws.Finishing.from_more}
use Rattle.ledger.specs.follow.Reached.{CopiesOf}
use Rattle.ledger.proofs.{totals.Rows.none_done, totals.Rows.next_done, cells.Held.puts_zero}

module _ {wide : Bool} {b c a : List ℕ} where
  pub cleared_next : (ns : List ℕ) (n : ℕ) → Becomes wide b c (λ f. cleared f ns) → Becomes wide c a (λ f. row_cleared f n 10) → Becomes wide b a (λ f. cleared f (ns ++ (n ∷ [])))
  cleared_next ns n s t f rest h = subst (λ (g : Grid). Holds wide a g rest) (from_more zeros f ns n) (t _ rest (s f rest h))

  pub zero_next : (n k : ℕ) → Becomes wide b c (λ f. row_cleared f n k) → Puts wide c a n k 0 → Becomes wide b a (λ f. row_cleared f n (k + 1))
  unfolding row_from
  zero_next n k s t = next_done (λ f i. row_cleared f n i) k s (λ f rest h. puts_zero n k t _ rest h)

-- a number taken over
pub copies : {l b a : List ℕ} (n c : ℕ) → n < 64 → c < 10 → {x : ℕ} → Reads true l x n c → Puts true b a n c x → CopiesOf l b a (λ g f. put f n c (g n c))
copies n c p q {x} r s g rest h = s (g n c) (same (g n c) x (r g rest h)) ((λ e. subst (λ k. g n k < 2 ^ 64) (sym e) (h.great n (omega (arith, p)))), (λ e i. subst (λ k. g n k < 2 ^ 64) (sym e) (h.late n i)))
  where
    same : (v x : ℕ) → x ≡ v % 2 ^ 64 → v % 2 ^ 64 ≡ x % 2 ^ 64
    same v x e = omega (arith, e)

module _ {l b c a : List ℕ} where
  pub copies_next : (n k : ℕ) → CopiesOf l b c (λ g f. row_from g f n k) → CopiesOf l c a (λ g f. put f n k (g n k)) → CopiesOf l b a (λ g f. row_from g f n (k + 1))
  unfolding row_from
  copies_next n k s t g rest h = next_done (λ f i. row_from g f n i) k (s g rest h) (λ f r i. t g rest h _ r i)

  pub copied_next : (ns : List ℕ) (n : ℕ) → CopiesOf l b c (λ g f. rows_from g f ns) → CopiesOf l c a (λ g f. row_from g f n 10) → CopiesOf l b a (λ g f. rows_from g f (ns ++ (n ∷ [])))
  copied_next ns n s t g rest h f r i = subst (λ (x : Grid). Holds true a x r) (from_more g f ns n) (t g rest h _ r (s g rest h f r i))

module _ (l b : List ℕ) where
  pub copies_none : (n : ℕ) → CopiesOf l b b (λ g f. row_from g f n 0)
  unfolding row_from
  copies_none n g rest h = none_done b

  pub copied_none : CopiesOf l b b (λ g f. rows_from g f [])
  unfolding rows_from
  copied_none g rest h = none_done b

pub all_copied : {l b a : List ℕ} (n : ℕ) (j k : ℕ) → j ≡ k → CopiesOf l b a (λ g f. row_from g f n j) → CopiesOf l b a (λ g f. row_from g f n k)
all_copied {l} {b} {a} n j k e s = subst (λ i. CopiesOf l b a (λ g f. row_from g f n i)) e s

-- before the first round of each
module _ {wide : Bool} (b : List ℕ) where
  pub cleared_none : Becomes wide b b (λ f. cleared f [])
  unfolding rows_from
  cleared_none = none_done b

  pub zero_none : (n : ℕ) → Becomes wide b b (λ f. row_cleared f n 0)
  unfolding row_from
  zero_none n = none_done b

-- ---- any bytes hold a grid

abbrev pub some_grid : Bool → List ℕ → Grid
some_grid w l n c = number_of (part (cell_place w n c) (cell_bytes w) l)

below_limit : (w : Bool) (l : List ℕ) (n c : ℕ) → Bytes l → cell_place w n c + cell_bytes w ≤ length l → some_grid w l n c < limit w
below_limit true l n c b h = part_below l (cell_place true n c) 8 b h
below_limit false l n c b h = part_below l (cell_place false n c) 4 b h

pub holds_some : (w : Bool) (l : List ℕ) → Bytes l → grid_length w ≤ length l → Holds w l (some_grid w l) (drop (grid_length w) l)
holds_some w l b h = record {
  long = h;
  cells = λ n c p q. sym (part_number l (cell_place w n c) (cell_bytes w) b (inside w n c (length l) p q h));
  great = λ n p. below_limit w l n 7 b (inside w n 7 (length l) p (omega arith) h);
  late = λ n p. below_limit w l n 9 b (inside w n 9 (length l) (omega (arith, p)) (omega arith) h);
  past = refl;
}
