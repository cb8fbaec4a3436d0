-- The numbers of a sheet or a tally, as the functions of this module read and write them.
use Rattle.basics.proofs.Prelude.{◌≡◌, refl, sym, ap, subst, ◌∙◌, Bool, true, false, ◌||◌, List, [], ◌∷◌, ◌++◌, ℕ, ◌+◌, ◌-◌, ◌%◌, ◌^◌, ◌<◌, max, arith, eqb, take, drop-drop, eq-eqb, ne_eqb, true≢false, bytes_of}
use Rattle.bits.specs.bytes.Put.{with_bytes}
use Rattle.passes.specs.tallies.{Grid.Grid, Grid.cell_bytes, Grid.cell_place, Grid.limit, Grid.record_limit, Grid.is_wait, Grid.Fits, Grid.put, Grid.bump, Grid.Holds, Grid.Reads, Grid.Puts, Grid.Becomes, Following.Takes}
use Rattle.passes.specs.tallies.Marks.{happened, kind_column, fate_columns, bumped, settled, withdrawn, began}
use Rattle.passes.proofs.tallies.laws.{Taking.takes_one, Grids.cell_put, Grids.bytes_same, Grids.small_low, Grids.soon_small, Grids.next_low}
use Rattle.ledger.specs.{cells.Fates.fate_view, cells.Fates.note_with, declared.cells.Fate.Fate}

module _ (wide : Bool) (l : List ℕ) (n c : ℕ) (p : n < 65) (q : c < 10) where
  pub puts_cell : (x : ℕ) {at k : ℕ} → at ≡ cell_place wide n c → k ≡ cell_bytes wide → {m : List ℕ} → m ≡ with_bytes at k x l → Puts wide l m n c x
  puts_cell x a b e v s fits f rest h =
      subst (λ (k : List ℕ). Holds wide k (put f n c v) rest)
      ((λ i. take (cell_place wide n c) l ++ (bytes_of (cell_bytes wide) x ++ drop-drop (cell_bytes wide) (cell_place wide n c) l i)) ∙ sym (e ∙ (λ i. with_bytes (a i) (b i) x l)))
      (cell_put wide h n c p q v (bytes_of (cell_bytes wide) x) (bytes_same wide v x s) fits)

-- a column that is counted has no number that must fit
no_wait : (wide : Bool) (n c v : ℕ) → is_wait c ≡ false → Fits wide n c v
no_wait wide n c v w = (
  λ e. absurd (true≢false (sym (ap (λ b. b || eqb c 9) (eq-eqb c 7 e)) ∙ w)),
  λ e p. absurd (true≢false (sym (ap is_wait e) ∙ w)),
)

pub fits_small : (wide : Bool) (n c v : ℕ) → v < limit wide → Fits wide n c v
fits_small wide n c v h = (λ e. h, λ e p. h)

-- a number that fits is put as it is
pub puts_small : {wide : Bool} {l m : List ℕ} (n c x : ℕ) → x < limit wide → Puts wide l m n c x → Becomes wide l m (λ f. put f n c x)
puts_small {wide} n c x h s = s x refl (fits_small wide n c x h)

pub puts_zero : {wide : Bool} {l m : List ℕ} (n c : ℕ) → Puts wide l m n c 0 → Becomes wide l m (λ f. put f n c 0)
puts_zero {wide} n c s = puts_small n c 0 (none wide) s
  where
    none : (w : Bool) → 0 < limit w
    none true = omega arith
    none false = omega arith

module _ {wide : Bool} {l : List ℕ} (n c : ℕ) (no : is_wait c ≡ false) where
  pub counts : {x : ℕ} → Reads wide l x n c → {v : ℕ} → v ≡ (x + 1) % 2 ^ 64 → {m : List ℕ} → Puts wide l m n c v → Becomes wide l m (λ f. bump f n c)
  counts {x} r {v} e b f rest h = b (f n c + 1) (next_low wide (f n c) x v (r f rest h) e) (no_wait wide n c (f n c + 1) no) f rest h

-- ---- waits

-- a wait begins
pub begins_at : {wide : Bool} {l m : List ℕ} (n k : ℕ) → k < record_limit wide → Puts wide l m n 9 (k + 1) → Takes wide l m (began n k ∷ [])
unfolding bumped
begins_at {wide} n k h s = takes_one (began n k) (puts_small n 9 (k + 1) (soon_small wide k h) s)

module _ {wide : Bool} {l : List ℕ} (n : ℕ) (p : n < 64) {x : ℕ} (r : Reads wide l x n 9) where
  since : (f : Grid) (rest : List ℕ) → Holds wide l f rest → x ≡ f n 9
  since f rest h = r f rest h ∙ small_low wide (f n 9) (h.late n p)

  pub over_settles : (k : ℕ) → x ≡ 0 → Becomes wide l l (λ f. settled f n k)
  over_settles k z f rest h = rw (eq-eqb (f n 9) 0 (sym (since f rest h) ∙ z)) h

  pub over_withdraws : x ≡ 0 → Becomes wide l l (λ f. withdrawn f n)
  over_withdraws z f rest h = rw (eq-eqb (f n 9) 0 (sym (since f rest h) ∙ z)) h

  module _ (some : x ≡ 0 → ⊥) where
    lasts : (f : Grid) (rest : List ℕ) → Holds wide l f rest → eqb (f n 9) 0 ≡ false
    lasts f rest h = ne_eqb (f n 9) 0 (λ z. some (since f rest h ∙ z))

    pub settles : (k : ℕ) → k < record_limit wide → {y : ℕ} → Reads wide l y n 7 → {v : ℕ} → v ≡ max y (k + 1 - x) → {m o : List ℕ} → Puts wide l m n 7 v → Puts wide m o n 9 0 → Becomes wide l o (λ f. settled f n k)
    settles k soon {y} s {v} e {m} {o} b c f rest h =
        let most : y ≡ f n 7 = s f rest h ∙ small_low wide (f n 7) (h.great n (omega (arith, p))) in
        let z : v ≡ max (f n 7) (k + 1 - f n 9) = e ∙ (λ i. max (most i) (k + 1 - since f rest h i)) in
        let small : v < limit wide = subst (λ u. u < limit wide) (sym z) (longer (limit wide) (f n 7) k (f n 9) (h.great n (omega (arith, p))) (soon_small wide k soon)) in
        rw (lasts f rest h) (subst (λ (w : ℕ). Holds wide o (put (put f n 7 w) n 9 0) rest) z (puts_zero n 9 c _ rest (puts_small n 7 v small b f rest h)))
      where
        longer : (b g k s : ℕ) → g < b → k + 1 < b → max g (k + 1 - s) < b
        longer b g k s h q = omega (arith, h, q)

    pub withdraws : {m o : List ℕ} → Becomes wide l m (λ f. bump f n 8) → Puts wide m o n 9 0 → Becomes wide l o (λ f. withdrawn f n)
    withdraws b c f rest h = rw (lasts f rest h) (puts_zero n 9 c _ rest (b f rest h))

-- ---- fates

pub fated : {wide : Bool} {l m : List ℕ} (n : ℕ) {x y : Fate} → x ≡ y → Becomes wide l m (λ f. bumped f n (fate_columns (fate_view x))) → Becomes wide l m (λ f. bumped f n (fate_columns (fate_view y)))
fated {wide} {l} {m} n e b = subst (λ (z : Fate). Becomes wide l m (λ f. bumped f n (fate_columns (fate_view z)))) e b

-- ---- events

module _ {wide : Bool} (n k : ℕ) (b : Bool) (x : Fate) {c : ℕ} (e : c ≡ kind_column b) where
  pub asserted_taken : b ≡ true → {l m o p : List ℕ} → Becomes wide l m (λ f. bump f n c) → Becomes wide m o (λ f. bumped f n (fate_columns (fate_view x))) → Becomes wide o p (λ f. settled f n k)
      → Takes wide l p (happened (note_with n k b (fate_view x)) ∷ [])
  unfolding bumped
  asserted_taken t {l} {m} {o} {p} f g s = takes_one (happened (note_with n k b (fate_view x))) (λ q rest h. rw t (s _ rest (g _ rest (subst (λ (a : ℕ). Holds wide m (bump q n a) rest) (e ∙ ap kind_column t) (f q rest h)))))

  pub deasserted_taken : b ≡ false → {l m o : List ℕ} → Becomes wide l m (λ f. bump f n c) → Becomes wide m o (λ f. bumped f n (fate_columns (fate_view x)))
      → Takes wide l o (happened (note_with n k b (fate_view x)) ∷ [])
  unfolding bumped
  deasserted_taken t {l} {m} {o} f g = takes_one (happened (note_with n k b (fate_view x))) (λ q rest h. rw t (g _ rest (subst (λ (a : ℕ). Holds wide m (bump q n a) rest) (e ∙ ap kind_column t) (f q rest h))))
