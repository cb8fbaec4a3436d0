-- What 01's map says of a byte, in the rules' terms: what stands at the offset for a Dword, and what a Byte reads and writes there.
use Rattle.basics.proofs.Prelude.{◌≡◌, refl, sym, ap, subst, ◌∙◌, Bool, true, false, cond, not, ◌&&◌, ◌||◌, false≢true, and-eq-true_iff, List, [], ◌∷◌, ℕ, zero, suc, ◌+◌, ◌-◌, ◌%◌, ◌<◌, ◌≤◌, arith, eqb, ltb, get_or, ne_eqb, eqb-true, ltb-true, byte_of, with_byte, half, test}
use Rattle.rules.specs.Core.{Core, Act, store, set_route, set_vector}
use Rattle.rules.specs.Map.{Row, Cell, half_of, bytes, table, lookup, in_routes, in_vectors, in_byte_area, cell_at}
use Rattle.rules.specs.Access.{value_of, entry, read_cell, read_dword, read_byte, register_acts, entry_acts, cell_acts, dword_acts, byte_acts}
use Rattle.laws.proofs.laws.Maps.{inside, inside_from, outside, lookup_bytes, not_aligned}
use Rattle.table.specs.Meaning.{Meaning, part, route, vector, nothing, within, meant}
use Rattle.rules.specs.Map as map

-- ---- where no register's half stands

-- the map lists only offsets below 1,024 that 4 divides, and none among the bytes
abbrev may_be : ℕ → Bool
may_be o = ltb o 1024 && (eqb (o % 4) 0 && (not (in_routes o) && not (in_vectors o)))

abbrev each : List Row → Bool
each [] = true
each (r ∷ rs) = may_be r.low && (may_be r.high && each rs)

not_here : (o n : ℕ) → may_be o ≡ false → may_be n ≡ true → eqb o n ≡ false
not_here o n f t = test (eqb o n) (λ e. absurd (false≢true (sym f ∙ ap may_be (eqb-true o n e) ∙ t))) (λ e. e)

missed : (rs : List Row) (other : Cell) (o : ℕ) → may_be o ≡ false → each rs ≡ true → lookup rs other o ≡ other
missed [] other o f t = refl
missed (r ∷ rs) other o f t =
    let p = (and-eq-true_iff (may_be r.low) (may_be r.high && each rs)).0 t in
    let q = (and-eq-true_iff (may_be r.high) (each rs)).0 p.1 in
    rw (not_here o r.low f p.0, not_here o r.high f q.0) (missed rs other o f q.1)

module _ (o : ℕ) where
  unlisted : may_be o ≡ false → cell_at o ≡ cond (in_routes o || in_vectors o) bytes map.nothing
  unfolding cell_at
  unlisted f = missed table _ o f refl

  not_below : 1024 ≤ o → ltb o 1024 ≡ false
  not_below h = test (ltb o 1024) (λ t. absurd (omega (arith, ltb-true o 1024 t))) (λ t. t)

  -- from 1,024 up nothing stands
  pub beyond_cell : 1024 ≤ o → cell_at o ≡ map.nothing
  beyond_cell h = unlisted (rw (not_below h)) ∙ rw (outside 0x100 0x140 o (λ p q. omega arith), outside 0x200 0x240 o (λ p q. omega arith))

-- and no byte belongs to anything (02, C-18)
pub beyond : (o : ℕ) → 1024 ≤ o → meant o ≡ nothing
unfolding meant
beyond o h =
    rw (outside 0x100 0x140 o (λ p q. omega arith), outside 0x200 0x240 o (λ p q. omega arith))
    (ap (λ (x : Cell). within x (o % 4) (in_byte_area o)) (beyond_cell (o - o % 4) (omega arith)))

-- ---- by the range

module _ (o : ℕ) where
  meant_route : in_routes o ≡ true → meant o ≡ route (o - 0x100)
  unfolding meant
  meant_route t = rw t

  meant_vector : in_routes o ≡ false → in_vectors o ≡ true → meant o ≡ vector (o - 0x200)
  unfolding meant
  meant_vector f t = rw (f, t)

  meant_part : in_routes o ≡ false → in_vectors o ≡ false → meant o ≡ within (cell_at (o - o % 4)) (o % 4) (in_byte_area o)
  unfolding meant
  meant_part f g = rw (f, g)

  -- the route and vector bytes lie in 0x100..0x39f
  route_area : in_routes o ≡ true → in_byte_area o ≡ true
  route_area t = let r = inside_from 0x100 0x140 o t in inside 0x100 0x3a0 o (omega arith) (omega arith)

  vector_area : in_vectors o ≡ true → in_byte_area o ≡ true
  vector_area t = let r = inside_from 0x200 0x240 o t in inside 0x100 0x3a0 o (omega arith) (omega arith)

-- the numbers in a meaning: which byte of a half, whose route or vector byte
abbrev pub Numbered : ℕ → Meaning → Type 0
Numbered o (part r h k s) = k < 4
Numbered o (route n) = (o ≡ 0x100 + n) × (n < 64)
Numbered o (vector n) = (o ≡ 0x200 + n) × (n < 64)
Numbered o nothing = Unit

pub numbered : (o : ℕ) {m : Meaning} → m ≡ meant o → Numbered o m
numbered o {m} e = subst (Numbered o) (sym e)
    (test (in_routes o)
    (λ t. subst (Numbered o) (sym (meant_route o t)) (let r = inside_from 0x100 0x140 o t in (omega arith, omega arith)))
    (λ f. test (in_vectors o)
    (λ t. subst (Numbered o) (sym (meant_vector o f t)) (let r = inside_from 0x200 0x240 o t in (omega arith, omega arith)))
    (λ g. subst (Numbered o) (sym (meant_part o f g)) (of_cell (cell_at (o - o % 4))))))
  where
    of_cell : (x : Cell) → Numbered o (within x (o % 4) (in_byte_area o))
    of_cell (half_of r h) = omega arith
    of_cell bytes = tt
    of_cell map.nothing = tt

-- ---- a Dword

-- what a Dword reaches at a byte that means m: a half at its lowest byte only
abbrev pub cell_of : Meaning → Cell
cell_of (part r h zero s) = half_of r h
cell_of (part r h (suc k) s) = map.nothing
cell_of (route n) = bytes
cell_of (vector n) = bytes
cell_of nothing = map.nothing

and_off : (a b : Bool) → b ≡ false → (a && b) ≡ false
and_off true b f = f
and_off false b f = refl

module _ (o : ℕ) where
  no_bytes : in_routes o ≡ false → in_vectors o ≡ false → cell_at o ≡ bytes → ⊥
  unfolding cell_at
  no_bytes f g e =
      let other : cond (in_routes o || in_vectors o) bytes map.nothing ≡ map.nothing = rw (f, g) in
      let k = lookup_bytes table (cond (in_routes o || in_vectors o) bytes map.nothing) o e in
      let z : ◌≡◌ {A = ℕ} 0 1 = cc in omega arith

  aligned_cell : in_routes o ≡ false → in_vectors o ≡ false → o % 4 ≡ 0 → (s : Bool) → cell_of (within (cell_at (o - o % 4)) (o % 4) s) ≡ cell_at o
  aligned_cell f g e s =
      let a : o - o % 4 ≡ o = omega arith in
      (λ i. cell_of (within (cell_at (a i)) (e i) s)) ∙ by (cell_at o) refl
    where
      by : (x : Cell) → cell_at o ≡ x → cell_of (within x 0 s) ≡ x
      by (half_of r h) k = refl
      by bytes k = absurd (no_bytes f g k)
      by map.nothing k = refl

  between_cell : in_routes o ≡ false → in_vectors o ≡ false → {k : ℕ} → o % 4 ≡ suc k → (s : Bool) → cell_of (within (cell_at (o - o % 4)) (o % 4) s) ≡ cell_at o
  between_cell f g {k} e s =
      ap (λ (j : ℕ). cell_of (within (cell_at (o - o % 4)) j s)) e ∙ by (cell_at (o - o % 4))
      ∙ sym (unlisted o (and_off (ltb o 1024) _ (rw (ne_eqb (o % 4) 0 (λ z. omega arith)))) ∙ rw (f, g))
    where
      by : (x : Cell) → cell_of (within x (suc k) s) ≡ map.nothing
      by (half_of r h) = refl
      by bytes = refl
      by map.nothing = refl

  part_cell : in_routes o ≡ false → in_vectors o ≡ false → (s : Bool) → cell_of (within (cell_at (o - o % 4)) (o % 4) s) ≡ cell_at o
  part_cell f g s = by (o % 4) refl
    where
      by : (k : ℕ) → o % 4 ≡ k → cell_of (within (cell_at (o - o % 4)) (o % 4) s) ≡ cell_at o
      by zero e = aligned_cell f g e s
      by (suc k) e = between_cell f g e s

  -- what the map says of a byte is what stands there for a Dword
  pub cell_of_lem : cell_of (meant o) ≡ cell_at o
  cell_of_lem =
      test (in_routes o)
      (λ t. ap cell_of (meant_route o t) ∙ sym (unlisted o (and_off (ltb o 1024) _ (and_off (eqb (o % 4) 0) _ (rw t))) ∙ rw t))
      (λ f. test (in_vectors o)
      (λ t. ap cell_of (meant_vector o f t) ∙ sym (unlisted o (and_off (ltb o 1024) _ (and_off (eqb (o % 4) 0) _ (and_off (not (in_routes o)) _ (rw t)))) ∙ rw (f, t)))
      (λ g. ap cell_of (meant_part o f g) ∙ part_cell f g (in_byte_area o)))

-- ---- a Byte

-- what a Byte reads of a byte that means m
abbrev pub byte_read : Core → Meaning → ℕ
byte_read c (part r h k true) = 0
byte_read c (part r h k false) = byte_of (half h (value_of c r)) k
byte_read c (route n) = get_or c.stored.routes n 0
byte_read c (vector n) = get_or c.vectors n 0
byte_read c nothing = 0

-- and what it does to it
abbrev pub byte_done : Core → ℕ → Meaning → List Act
byte_done c v (part r h k true) = []
byte_done c v (part r h k false) = register_acts r h (with_byte (half h (value_of c r)) k v)
byte_done c v (route n) = store (set_route n v) ∷ []
byte_done c v (vector n) = set_vector n v ∷ []
byte_done c v nothing = []

byteless : (k : ℕ) → k < 4 → byte_of 0 k ≡ 0
byteless zero h = refl
byteless (suc zero) h = refl
byteless (suc (suc zero)) h = refl
byteless (suc (suc (suc zero))) h = refl
byteless (suc (suc (suc (suc k)))) h = absurd (omega arith)

module _ (c : Core) (o : ℕ) where
  part_read : in_routes o ≡ false → in_vectors o ≡ false → byte_read c (within (cell_at (o - o % 4)) (o % 4) (in_byte_area o)) ≡ read_byte c o
  unfolding read_byte entry read_dword read_cell
  part_read f g =
      test (in_byte_area o)
      (λ t. ap (λ (s : Bool). byte_read c (within (cell_at (o - o % 4)) (o % 4) s)) t ∙ silent (cell_at (o - o % 4)) ∙ sym (rw (t, f, g)))
      (λ u. ap (λ (s : Bool). byte_read c (within (cell_at (o - o % 4)) (o % 4) s)) u ∙ loud (cell_at (o - o % 4)) (not_aligned o u) ∙ sym (rw u))
    where
      silent : (x : Cell) → byte_read c (within x (o % 4) true) ≡ 0
      silent (half_of r h) = refl
      silent bytes = refl
      silent map.nothing = refl

      loud : (x : Cell) → (x ≡ bytes → ⊥) → byte_read c (within x (o % 4) false) ≡ byte_of (read_cell c (o - o % 4) x) (o % 4)
      loud (half_of r h) n = refl
      loud bytes n = absurd (n refl)
      loud map.nothing n = sym (byteless (o % 4) (omega arith))

  pub byte_read_lem : byte_read c (meant o) ≡ read_byte c o
  unfolding read_byte entry
  byte_read_lem =
      test (in_routes o)
      (λ t. ap (byte_read c) (meant_route o t) ∙ sym (rw (route_area o t, t)))
      (λ f. test (in_vectors o)
      (λ t. ap (byte_read c) (meant_vector o f t) ∙ sym (rw (vector_area o t, f, t)))
      (λ g. ap (byte_read c) (meant_part o f g) ∙ part_read f g))

  module _ (v : ℕ) where
    part_done : in_routes o ≡ false → in_vectors o ≡ false → byte_done c v (within (cell_at (o - o % 4)) (o % 4) (in_byte_area o)) ≡ byte_acts c o v
    unfolding byte_acts entry_acts dword_acts cell_acts read_dword read_cell
    part_done f g =
        test (in_byte_area o)
        (λ t. ap (λ (s : Bool). byte_done c v (within (cell_at (o - o % 4)) (o % 4) s)) t ∙ silent (cell_at (o - o % 4)) ∙ sym (rw (t, f, g)))
        (λ u. ap (λ (s : Bool). byte_done c v (within (cell_at (o - o % 4)) (o % 4) s)) u ∙ loud (cell_at (o - o % 4)) (not_aligned o u) ∙ sym (rw u))
      where
        silent : (x : Cell) → byte_done c v (within x (o % 4) true) ≡ []
        silent (half_of r h) = refl
        silent bytes = refl
        silent map.nothing = refl

        loud : (x : Cell) → (x ≡ bytes → ⊥) → byte_done c v (within x (o % 4) false) ≡ cell_acts (o - o % 4) (with_byte (read_cell c (o - o % 4) x) (o % 4) v) x
        loud (half_of r h) n = refl
        loud bytes n = absurd (n refl)
        loud map.nothing n = refl

    pub byte_done_lem : byte_done c v (meant o) ≡ byte_acts c o v
    unfolding byte_acts entry_acts
    byte_done_lem =
        test (in_routes o)
        (λ t. ap (byte_done c v) (meant_route o t) ∙ sym (rw (route_area o t, t)))
        (λ f. test (in_vectors o)
        (λ t. ap (byte_done c v) (meant_vector o f t) ∙ sym (rw (vector_area o t, f, t)))
        (λ g. ap (byte_done c v) (meant_part o f g) ∙ part_done f g))
