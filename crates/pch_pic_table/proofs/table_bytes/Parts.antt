-- What a Byte reads and writes in place, by what its offset means.
use Rattle.basics.proofs.Prelude.{◌≡◌, sym, ap, subst, ◌∙◌, Bool, true, false, List, ℕ, ◌%◌, ◌<◌, arith, get_or, byte_of, with_byte, half}
use Rattle.rules.specs.{Core.Core, Core.with_routes, Map.Register, Map.in_byte_area, Access.value_of, Access.read_byte, Access.register_acts, Access.entry_acts, Access.byte_acts}
use Rattle.laws.proofs.laws.{Maps.inside, Writes.byte_acts_inside}
use Rattle.bits.specs.bytes.Put.{with_bytes}
use Rattle.fields.specs.inplace.Held.{Reads, Becomes, Writes, with_vectors, with_stored}
use Rattle.fields.proofs.inplace.Doing.{writes_none, writes_same}
use Rattle.access.proofs.cells.Entries.{entry_written, routes_acts, vectors_acts}
use Rattle.table.specs.Meaning.{Meaning, part, route, vector, nothing, meant}
use Rattle.table.proofs.Meant.{numbered, byte_read, byte_read_lem, byte_done, byte_done_lem}

-- ---- the numbers in what is meant

module _ (o : ℕ) where
  pub part_below : {r : Register} {h : Bool} {k : ℕ} {s : Bool} → part r h k s ≡ meant o → k < 4
  part_below e = numbered o e

  pub route_below : {n : ℕ} → route n ≡ meant o → n < 64
  route_below e = (numbered o e).1

  pub vector_below : {n : ℕ} → vector n ≡ meant o → n < 64
  vector_below e = (numbered o e).1

pub ruleset below = (part_below, route_below, vector_below)

-- ---- a Byte that is read

module _ (c : Core) (o : ℕ) where
  read_as : {m : Meaning} → m ≡ meant o → read_byte c o ≡ byte_read c m
  read_as e = sym (ap (byte_read c) e ∙ byte_read_lem c o)

  pub part_read : {r : Register} {h : Bool} {k : ℕ} {s : Bool} → part r h k s ≡ meant o → s ≡ false → read_byte c o ≡ byte_of (half h (value_of c r)) k
  part_read {r} {h} {k} e f = read_as (sym (ap (part r h k) f) ∙ e)

  pub silent_read : {r : Register} {h : Bool} {k : ℕ} {s : Bool} → part r h k s ≡ meant o → s ≡ true → read_byte c o ≡ 0
  silent_read {r} {h} {k} e f = read_as (sym (ap (part r h k) f) ∙ e)

  pub route_read : {n : ℕ} → route n ≡ meant o → read_byte c o ≡ get_or c.stored.routes n 0
  route_read e = read_as e

  pub vector_read : {n : ℕ} → vector n ≡ meant o → read_byte c o ≡ get_or c.vectors n 0
  vector_read e = read_as e

  pub nothing_read : nothing ≡ meant o → read_byte c o ≡ 0
  nothing_read e = read_as e

pub ruleset byte_meant = (part_read, silent_read, route_read, vector_read, nothing_read)

-- ---- a Byte that is written

module _ (i : List ℕ) (o : ℕ) where
  module _ (v : ℕ) {j : List ℕ} {n : ℕ} where
    byte_writes : (m : Meaning) → m ≡ meant o → Writes i j n (λ c. byte_done c v m) → Writes i j n (λ c. byte_acts c o v)
    byte_writes m e p = writes_same (λ c. byte_done c v m) (λ c. byte_acts c o v) p (λ d ns h. ap (byte_done d.core v) e ∙ byte_done_lem d.core o v)

    pub part_writes : {r : Register} {h : Bool} {k : ℕ} {s : Bool} → part r h k s ≡ meant o → s ≡ false → {x y z : ℕ} → Reads i x (λ d. value_of d.core r) → y ≡ half h x → z ≡ with_byte y k v
        → Writes i j n (λ c. register_acts r h z) → Writes i j n (λ c. byte_acts c o v)
    part_writes {r} {h} {k} {s} e f {z = z} u p q w =
        byte_writes (part r h k false) (sym (ap (part r h k) f) ∙ e)
        (writes_same (λ c. register_acts r h z) (λ c. byte_done c v (part r h k false)) w (λ d ns g. ap (register_acts r h) (q ∙ ap (λ (a : ℕ). with_byte a k v) (p ∙ ap (half h) (u d ns g)))))

  module _ (v : ℕ) where
    pub silent_writes : {r : Register} {h : Bool} {k : ℕ} {s : Bool} → part r h k s ≡ meant o → s ≡ true → Writes i i 0 (λ c. byte_acts c o v)
    silent_writes {r} {h} {k} {s} e f = byte_writes v (part r h k true) (sym (ap (part r h k) f) ∙ e) (writes_none i)

    pub nothing_writes : nothing ≡ meant o → Writes i i 0 (λ c. byte_acts c o v)
    nothing_writes e = byte_writes v nothing e (writes_none i)

  -- an input's byte, stored
  module _ (v : ℕ) (l : v < 256) {j : List ℕ} where
    inner : in_byte_area o ≡ true → Writes i j 0 (λ c. entry_acts o v) → Writes i j 0 (λ c. byte_acts c o v)
    inner t w = writes_same (λ c. entry_acts o v) (λ c. byte_acts c o v) w (λ d ns h. sym (byte_acts_inside o v d.core t))

    pub route_writes : {n : ℕ} → route n ≡ meant o → Becomes i j (λ d. with_stored d (with_routes d.core.stored (with_bytes n 1 v d.core.stored.routes))) → Writes i j 0 (λ c. byte_acts c o v)
    route_writes {n} e s =
        let a = numbered o e in
        let k : n ≡ o % 64 = omega (arith, a.0, a.1) in
        inner (inside 0x100 0x3a0 o (omega (arith, a.0)) (omega (arith, a.0, a.1)))
        (entry_written i o v l (routes_acts i o 1 v (omega arith) (omega (arith, a.0, a.1))
        (subst (λ (m : ℕ). Becomes i j (λ d. with_stored d (with_routes d.core.stored (with_bytes m 1 v d.core.stored.routes)))) k s)))

    pub vector_writes : {n : ℕ} → vector n ≡ meant o → Becomes i j (λ d. with_vectors d (with_bytes n 1 v d.core.vectors)) → Writes i j 0 (λ c. byte_acts c o v)
    vector_writes {n} e s =
        let a = numbered o e in
        let k : n ≡ o % 64 = omega (arith, a.0, a.1) in
        inner (inside 0x100 0x3a0 o (omega (arith, a.0)) (omega (arith, a.0, a.1)))
        (entry_written i o v l (vectors_acts i o 1 v (omega arith) (omega (arith, a.0, a.1))
        (subst (λ (m : ℕ). Becomes i j (λ d. with_vectors d (with_bytes m 1 v d.core.vectors))) k s)))
