-- The register map: an offset by its range, what stands at an offset that the table does not list, and where the bytes stand.
use Rattle.basics.proofs.Prelude.{◌≡◌, refl, sym, ap, ◌∙◌, Bool, true, false, cond, ◌||◌, false≢true, and-eq-true_iff, List, [], ◌∷◌, ℕ, zero, suc, ◌+◌, ◌-◌, ◌*◌, ◌/◌, ◌%◌, ◌≤◌, ◌<◌, arith, eqb, leb, ltb, le-leb, lt-ltb, leb-true, ltb-true, ne_eqb}
use Rattle.rules.specs.Map.{Register, Row, Cell, half_of, bytes, nothing, table, lookup, within, in_routes, in_vectors, in_byte_area, cell_at}

-- ---- ranges
module _ (a e o : ℕ) where
  pub inside : a ≤ o → o < e → within a e o ≡ true
  inside h k = simp (le-leb a o h, lt-ltb o e k)

  pub inside_from : within a e o ≡ true → (a ≤ o) × (o < e)
  inside_from t =
      let r = (and-eq-true_iff (leb a o) (ltb o e)).0 t in
      (leb-true a o r.0, ltb-true o e r.1)

  pub outside : (a ≤ o → o < e → ⊥) → within a e o ≡ false
  outside n = by (within a e o) refl
    where
      by : (t : Bool) → within a e o ≡ t → within a e o ≡ false
      by true u = let r = inside_from u in absurd (n r.0 r.1)
      by false u = u

-- in neither of the two ranges of bytes
pub record Elsewhere (o : ℕ) : Type 0 where
  pub routes : in_routes o ≡ false
  pub vectors : in_vectors o ≡ false

module _ (o : ℕ) where
  pub below : o < 0x100 → Elsewhere o
  below h = record { routes = outside 0x100 0x140 o (λ p q. omega arith); vectors = outside 0x200 0x240 o (λ p q. omega arith) }

  pub between : 0x140 ≤ o → o < 0x200 → Elsewhere o
  between h k = record { routes = outside 0x100 0x140 o (λ p q. omega arith); vectors = outside 0x200 0x240 o (λ p q. omega arith) }

  pub beyond : 0x240 ≤ o → Elsewhere o
  beyond h = record { routes = outside 0x100 0x140 o (λ p q. omega arith); vectors = outside 0x200 0x240 o (λ p q. omega arith) }

  -- a vector byte is no route byte
  pub not_route : 0x200 ≤ o → in_routes o ≡ false
  not_route h = outside 0x100 0x140 o (λ p q. omega arith)

  either : (in_routes o || in_vectors o) ≡ true → (0x100 ≤ o) × (o < 0x240)
  either t = by (in_routes o) (in_vectors o) refl refl t
    where
      by : (p q : Bool) → in_routes o ≡ p → in_vectors o ≡ q → (p || q) ≡ true → (0x100 ≤ o) × (o < 0x240)
      by true q u v t = omega (arith, inside_from 0x100 0x140 o u)
      by false true u v t = omega (arith, inside_from 0x200 0x240 o v)
      by false false u v t = absurd (false≢true t)

-- ---- the table

-- o is none of the offsets of the rows, said in the order of the rows
abbrev pub Missed : Type 0 → List Row → ℕ → Type 0
Missed A [] o = A
Missed A (r ∷ rs) o = Missed ((A × (o ≡ r.low → ⊥)) × (o ≡ r.high → ⊥)) rs o

missed_all : (A : Type 0) (rs : List Row) (other : Cell) (o : ℕ) → Missed A rs o → (lookup rs other o ≡ other) × A
missed_all A [] other o m = (refl, m)
missed_all A (r ∷ rs) other o m =
    let t = missed_all ((A × (o ≡ r.low → ⊥)) × (o ≡ r.high → ⊥)) rs other o m in
    (rw (ne_eqb o r.low t.1.0.1, ne_eqb o r.high t.1.1) t.0, t.1.0.0)

-- at an offset that rows do not list stands the other cell
pub missed : (rs : List Row) (other : Cell) (o : ℕ) → Missed Unit rs o → lookup rs other o ≡ other
missed rs other o m = (missed_all Unit rs other o m).0

-- ---- the table by its low halves

-- the offset of the low half, of a register whose half stands at o
abbrev pub low_of : ℕ → ℕ
low_of o = o - 4 * (o / 4 % 2)

-- o is none of the low offsets of the rows
abbrev pub MissedLow : Type 0 → List Row → ℕ → Type 0
MissedLow A [] o = A
MissedLow A (r ∷ rs) o = MissedLow (A × (o ≡ r.low → ⊥)) rs o

-- high halves stand 4 above the low ones, which are divisible by 8
abbrev Paired : List Row → Type 0
Paired [] = Unit
Paired (r ∷ rs) = ((r.low / 4 % 2 ≡ 0) × (r.high ≡ r.low + 4)) × Paired rs

paired : Paired table
paired =
    ((refl, refl), ((refl, refl), ((refl, refl), ((refl, refl), ((refl, refl), ((refl, refl), ((refl, refl), ((refl, refl), ((refl, refl), ((refl, refl), tt))))))))))

module _ (o : ℕ) where
  missed_rows : (A B : Type 0) → (A → B) → (rs : List Row) → Paired rs → MissedLow A rs (low_of o) → Missed B rs o
  missed_rows A B f [] p m = f m
  missed_rows A B f (r ∷ rs) p m =
      missed_rows (A × (low_of o ≡ r.low → ⊥)) ((B × (o ≡ r.low → ⊥)) × (o ≡ r.high → ⊥))
      (λ a. ((f a.0, λ e. a.1 (omega (arith, p.0.0))), λ e. a.1 (omega (arith, p.0.0, p.0.1)))) rs p.1 m

  pub halves_missed : MissedLow Unit table (low_of o) → Missed Unit table o
  halves_missed m = missed_rows Unit Unit (λ u. u) table paired m

  -- what stands at an offset, by the low half that it goes with
  pub half_of_lem : (r : Register) (l : ℕ) → cell_at l ≡ half_of r false → cell_at (l + 4) ≡ half_of r true → low_of o ≡ l → half_of r (eqb (o / 4 % 2) 1) ≡ cell_at o
  half_of_lem r l e f h = go (o / 4 % 2) refl
    where
      go : (b : ℕ) → o / 4 % 2 ≡ b → half_of r (eqb (o / 4 % 2) 1) ≡ cell_at o
      go zero t = let s : o ≡ l = omega arith in ap (λ (b : ℕ). half_of r (eqb b 1)) t ∙ sym e ∙ ap cell_at (sym s)
      go (suc zero) t = let s : o ≡ l + 4 = omega arith in ap (λ (b : ℕ). half_of r (eqb b 1)) t ∙ sym f ∙ ap cell_at (sym s)
      go (suc (suc b)) t = absurd (omega arith)

-- rows list halves of registers alone
pub lookup_bytes : (rs : List Row) (other : Cell) (o : ℕ) → lookup rs other o ≡ bytes → other ≡ bytes
lookup_bytes [] other o e = e
lookup_bytes (r ∷ rs) other o e = lookup_bytes rs other o (skip (eqb o r.low) (eqb o r.high) e)
  where
    skip : (a b : Bool) → cond a (half_of r.register false) (cond b (half_of r.register true) (lookup rs other o)) ≡ bytes → lookup rs other o ≡ bytes
    skip true b e = absurd (let z : ◌≡◌ {A = ℕ} 0 1 = cc in omega arith)
    skip false true e = absurd (let z : ◌≡◌ {A = ℕ} 0 1 = cc in omega arith)
    skip false false e = e

-- ---- what stands at an offset
module _ (o : ℕ) where
  unlisted : (b : Bool) → Missed Unit table o → (in_routes o || in_vectors o) ≡ b → cell_at o ≡ cond b bytes nothing
  unfolding cell_at
  unlisted b m e = missed table (cond (in_routes o || in_vectors o) bytes nothing) o m ∙ ap (λ (t : Bool). cond t bytes nothing) e

  -- at an offset that is not listed: bytes in the two ranges, nothing elsewhere
  pub unlisted_route : Missed Unit table o → 0x100 ≤ o → o < 0x140 → cell_at o ≡ bytes
  unlisted_route m h k = unlisted true m (rw (inside 0x100 0x140 o h k))

  pub unlisted_vector : Missed Unit table o → 0x200 ≤ o → o < 0x240 → cell_at o ≡ bytes
  unlisted_vector m h k = unlisted true m (rw (not_route o h) (inside 0x200 0x240 o h k))

  pub unlisted_elsewhere : Missed Unit table o → Elsewhere o → cell_at o ≡ nothing
  unlisted_elsewhere m e = unlisted false m (rw e.routes e.vectors)

  -- bytes stand in the two ranges only
  pub at_bytes : cell_at o ≡ bytes → (0x100 ≤ o) × (o < 0x240)
  unfolding cell_at
  at_bytes e = either o (by (in_routes o || in_vectors o) (lookup_bytes table (cond (in_routes o || in_vectors o) bytes nothing) o e))
    where
      by : (b : Bool) → cond b bytes nothing ≡ bytes → b ≡ true
      by true e = refl
      by false e = absurd (let z : ◌≡◌ {A = ℕ} 0 1 = cc in omega arith)

module _ (o : ℕ) where
  -- a Byte outside 0x100..0x39f is no byte of a Dword among the bytes
  pub not_aligned : in_byte_area o ≡ false → cell_at (o - o % 4) ≡ bytes → ⊥
  not_aligned h e =
      let r = at_bytes (o - o % 4) e in
      false≢true (sym h ∙ inside 0x100 0x3a0 o (omega arith) (omega arith))

  -- the four bytes of a Dword among the bytes lie there
  pub four_inside : cell_at o ≡ bytes → (k : ℕ) → k < 4 → in_byte_area (o + k) ≡ true
  four_inside e k h =
      let r = at_bytes o e in
      inside 0x100 0x3a0 (o + k) (omega arith) (omega arith)
