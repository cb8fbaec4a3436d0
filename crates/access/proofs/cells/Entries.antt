-- Route and vector bytes by their offsets: a single one, a run of them, and the accesses that are a run.
use Rattle.basics.proofs.Prelude.{four_bytes_lem, ◌≡◌, refl, sym, ap, ◌∙◌, ◌⊎◌, inl, inr, ⊎_elim, Bool, true, false, not, cond, ◌&&◌, ◌||◌, false≢true, and-eq-true_iff, List, [], ◌∷◌, ◌++◌, append-nil, append_assoc, ℕ, zero, suc, ◌+◌, ◌-◌, ◌*◌, ◌/◌, ◌%◌, ◌^◌, ◌<◌, ◌≤◌, arith, eqb, length, take, drop, get_or, set, sets, sets-eq, drop-cons, eqb-true, number_of, bytes_of, byte_of, part, test, length_bytes_of}
use Rattle.laws.proofs.laws.{Losses.entry_quiet, Maps.Elsewhere, Maps.outside, Maps.inside, Maps.inside_from, Maps.not_route, Maps.lookup_bytes}
use Rattle.laws.proofs.laws.Widths.{entry_route, entry_vector, entry_none, dword_of}
use Rattle.laws.proofs.laws.Writes.{acted_store, acted_vector, entry_acts_route, entry_acts_vector, entry_acts_none, dword_acts_of}
use Rattle.rules.specs.Core.{Core, CoreTurn, set_route, with_routes, turns}
use Rattle.rules.specs.Map.{Row, Cell, bytes, nothing, table, lookup, within, routes_at, routes_end, vectors_at, vectors_end, in_routes, in_vectors, cell_at}
use Rattle.rules.specs.{Access.qword, Access.entry, Access.read_cell, Access.read_at, Access.entry_acts, Access.cell_acts, Access.write_acts, Numbering.Numbers, Device.Device, Device.acted}
use Rattle.rules.proofs.laws.Acts.{turns_append, acted_none, acted_append}
use Rattle.bits.specs.bytes.Put.{with_bytes}
use Rattle.fields.specs.inplace.Held.{Holds, Reads, Becomes, Writes, with_vectors, with_stored}
use Rattle.fields.proofs.inplace.Doing.{stores_write, writes_none, writes_same, writes_then}
use Rattle.access.specs.cells.Runs.{Run, entries_of, entries_acts}

-- ---- where no register is listed, bytes stand

-- no row lists an offset of a..e
abbrev free : ℕ → ℕ → List Row → Bool
free a e [] = true
free a e (r ∷ rs) = not (within a e r.low) && (not (within a e r.high) && free a e rs)

not_here : (a e o n : ℕ) → within a e o ≡ true → not (within a e n) ≡ true → eqb o n ≡ false
not_here a e o n h k = go (eqb o n) refl
  where
    go : (b : Bool) → eqb o n ≡ b → eqb o n ≡ false
    go false t = t
    go true t = absurd (false≢true (sym (ap not h) ∙ ap (λ (m : ℕ). not (within a e m)) (eqb-true o n t) ∙ k))

lookup_free : (a e o : ℕ) → within a e o ≡ true → (rs : List Row) (other : Cell) → free a e rs ≡ true → lookup rs other o ≡ other
lookup_free a e o h [] other f = refl
lookup_free a e o h (r ∷ rs) other f =
    let p = (and-eq-true_iff (not (within a e r.low)) (not (within a e r.high) && free a e rs)).0 f in
    let q = (and-eq-true_iff (not (within a e r.high)) (free a e rs)).0 p.1 in
    rw (not_here a e o r.low h p.0, not_here a e o r.high h q.0) (lookup_free a e o h rs other q.1)

-- bytes stand at each offset of a run
run_cell : {o n : ℕ} → Run o n → (k : ℕ) → k < n → cell_at (o + k) ≡ bytes
unfolding cell_at
run_cell {o} r k h =
    let fits = r.fits in
    ⊎_elim
    (λ e. let i = inside routes_at routes_end (o + k) (omega arith) (omega arith) in lookup_free routes_at routes_end (o + k) i table _ refl ∙ rw i)
    (λ e. let i = inside vectors_at vectors_end (o + k) (omega arith) (omega arith) in lookup_free vectors_at vectors_end (o + k) i table _ refl ∙ rw (not_route (o + k) (omega arith), i)) r.table

-- and bytes stand nowhere else
which : (o : ℕ) → cell_at o ≡ bytes → (o / 64 ≡ 4) ⊎ (o / 64 ≡ 8)
unfolding cell_at
which o e = go (in_routes o) (in_vectors o) refl refl (lookup_bytes table (cond (in_routes o || in_vectors o) bytes nothing) o e)
  where
    go : (p q : Bool) → in_routes o ≡ p → in_vectors o ≡ q → cond (p || q) bytes nothing ≡ bytes → (o / 64 ≡ 4) ⊎ (o / 64 ≡ 8)
    go true q s t f = inl (omega (arith, inside_from 0x100 0x140 o s))
    go false true s t f = inr (omega (arith, inside_from 0x200 0x240 o t))
    go false false s t f = absurd (let z : ◌≡◌ {A = ℕ} 0 1 = cc in omega arith)

pub four_run : (o : ℕ) → cell_at o ≡ bytes → o % 64 ≤ 60 → Run o 4
four_run o c h = record { table = which o c; fits = omega arith }

elsewhere : (o : ℕ) → (o / 64 ≡ 4 → ⊥) → (o / 64 ≡ 8 → ⊥) → Elsewhere o
elsewhere o p q = record { routes = outside 0x100 0x140 o (λ a b. p (omega arith)); vectors = outside 0x200 0x240 o (λ a b. q (omega arith)) }

-- ---- read

-- a table of 64 bytes that stand from base on
module _ (c : Core) (l : List ℕ) (base : ℕ) (size : length l ≡ 64) (each : (o : ℕ) → base ≤ o → o < base + 64 → entry c o ≡ get_or l (o - base) 0) where
  run_is : (n a o : ℕ) → o ≡ base + a → a + n ≤ 64 → part a n l ≡ entries_of c o n
  run_is zero a o e h = refl
  run_is (suc n) a o e h =
      let at : a ≡ o - base = omega arith in
      ap (take (suc n)) (drop-cons l a 0 (omega arith)) ∙ (λ t. get_or l (at t) 0 ∷ take n (drop (suc a) l)) ∙ (λ t. sym (each o (omega arith) (omega arith)) t ∷ run_is n (suc a) (o + 1) (omega arith) (omega arith) t)

module _ (i : List ℕ) (o : ℕ) {x : ℕ} where
  pub route_entry : o / 64 ≡ 4 → Reads i x (λ d. get_or d.core.stored.routes (o % 64) 0) → Reads i x (λ d. entry d.core o)
  route_entry e r d ns h = let n : o % 64 ≡ o - 0x100 = omega arith in r d ns h ∙ ap (λ k. get_or d.core.stored.routes k 0) n ∙ sym (entry_route d.core o (omega arith) (omega arith))

  pub vector_entry : o / 64 ≡ 8 → Reads i x (λ d. get_or d.core.vectors (o % 64) 0) → Reads i x (λ d. entry d.core o)
  vector_entry e r d ns h = let n : o % 64 ≡ o - 0x200 = omega arith in r d ns h ∙ ap (λ k. get_or d.core.vectors k 0) n ∙ sym (entry_vector d.core o (omega arith) (omega arith))

  module _ (n : ℕ) (run : Run o n) where
    pub routes_run : o < 0x200 → Reads i x (λ d. number_of (part (o % 64) n d.core.stored.routes)) → Reads i x (λ d. number_of (entries_of d.core o n))
    routes_run l r d ns h =
        let e : o ≡ 0x100 + o % 64 = ⊎_elim (λ e. omega arith) (λ e. omega arith) run.table in
        r d ns h ∙ ap number_of (run_is d.core d.core.stored.routes 0x100 h.well.routes (λ k p q. entry_route d.core k p q) n (o % 64) o e run.fits)

    pub vectors_run : 0x200 ≤ o → Reads i x (λ d. number_of (part (o % 64) n d.core.vectors)) → Reads i x (λ d. number_of (entries_of d.core o n))
    vectors_run l r d ns h =
        let e : o ≡ 0x200 + o % 64 = ⊎_elim (λ e. omega arith) (λ e. omega arith) run.table in
        r d ns h ∙ ap number_of (run_is d.core d.core.vectors 0x200 h.well.vectors (λ k p q. entry_vector d.core k p q) n (o % 64) o e run.fits)

pub none_entry : (i : List ℕ) (o : ℕ) → (o / 64 ≡ 4 → ⊥) → (o / 64 ≡ 8 → ⊥) → Reads i 0 (λ d. entry d.core o)
none_entry i o p q d ns h = sym (entry_none d.core o (elsewhere o p q))

-- four bytes of a run are a Dword's, and eight a Qword's
four_cell : (c : Core) (o : ℕ) → number_of (entries_of c o 4) ≡ read_cell c o bytes
unfolding read_cell
four_cell c o =
    let o2 : o + 1 + 1 ≡ o + 2 = omega arith in
    let o3 : o + 1 + 1 + 1 ≡ o + 3 = omega arith in
    λ t. number_of (entry c o ∷ entry c (o + 1) ∷ entry c (o2 t) ∷ entry c (o3 t) ∷ [])

entry_below : (i : List ℕ) (d : Device) (ns : Numbers) → Holds i d ns → (o : ℕ) → entry d.core o < 256
unfolding entry
entry_below i d ns h o =
    test (in_routes o) (λ t. rw t (h.well.route_bytes (o - routes_at))) (λ t. rw t (test (in_vectors o) (λ u. rw u (h.well.vector_bytes (o - vectors_at))) (λ u. rw u (omega arith))))

pub four_read : (i : List ℕ) (o : ℕ) {x y : ℕ} → y ≡ x % 2 ^ 32 → Reads i x (λ d. number_of (entries_of d.core o 4)) → Reads i y (λ d. read_cell d.core o bytes)
four_read i o {x} e r d ns h =
    let b = entry_below i d ns h in
    let s : x % 2 ^ 32 ≡ x = omega (arith, r d ns h, b o, b (o + 1), b (o + 1 + 1), b (o + 1 + 1 + 1)) in
    e ∙ s ∙ r d ns h ∙ four_cell d.core o

pub eight_read : (i : List ℕ) (o : ℕ) {x : ℕ} → Run o 8 → Reads i x (λ d. number_of (entries_of d.core o 8)) → Reads i x (λ d. read_at d.core qword o)
unfolding read_at
eight_read i o run r d ns h =
    let c = d.core in
    let y : o + 0 ≡ o = omega arith in
    let four : o + 1 + 1 + 1 + 1 ≡ o + 4 = omega arith in
    let low = four_cell c o ∙ dword_of c o (sym (rw y at (run_cell run 0 (omega arith)))) in
    let high = four_cell c (o + 4) ∙ dword_of c (o + 4) (sym (run_cell run 4 (omega arith))) in
    let both : number_of (entries_of c o 8) ≡ number_of (entries_of c o 4) + 2 ^ 32 * number_of (entries_of c (o + 1 + 1 + 1 + 1) 4) = omega arith in
    r d ns h ∙ both ∙ ap (λ k. number_of (entries_of c o 4) + 2 ^ 32 * number_of (entries_of c k 4)) four ∙ (λ t. low t + 2 ^ 32 * high t)

-- ---- written

-- four bytes of a run are a Dword's, and eight a Qword's
four_acts : (o v : ℕ) → entries_acts o 4 v ≡ cell_acts o v bytes
unfolding cell_acts
four_acts o v =
    let f = four_bytes_lem v in
    let o2 : o + 2 ≡ o + 1 + 1 = omega arith in
    let o3 : o + 3 ≡ o + 1 + 1 + 1 = omega arith in
    sym (rw (f.0, f.1, f.2, f.3, o2, o3, append-nil))

low_byte : (x k : ℕ) → k < 4 → byte_of (x % 2 ^ 32) k ≡ byte_of x k
low_byte x zero h = omega arith
low_byte x (suc zero) h = omega arith
low_byte x (suc (suc zero)) h = omega arith
low_byte x (suc (suc (suc zero))) h = omega arith
low_byte x (suc (suc (suc (suc k)))) h = absurd (omega arith)

-- the bits above a Dword do not count
low_acts : (o v : ℕ) → cell_acts o v bytes ≡ cell_acts o (v % 2 ^ 32) bytes
unfolding cell_acts
low_acts o v =
    let b : (k : ℕ) → k < 4 → byte_of v k ≡ byte_of (v % 2 ^ 32) k = λ k h. sym (low_byte v k h) in
    λ t. entry_acts o (b 0 (omega arith) t) ++ (entry_acts (o + 1) (b 1 (omega arith) t) ++ (entry_acts (o + 2) (b 2 (omega arith) t) ++ entry_acts (o + 3) (b 3 (omega arith) t)))

eight_acts : (c : Core) (o v : ℕ) → Run o 8 → entries_acts o 8 v ≡ write_acts c qword o v
unfolding write_acts
eight_acts c o v run =
    let y : o + 0 ≡ o = omega arith in
    let p : o + 1 + 1 + 1 + 1 ≡ o + 4 = omega arith in
    let q : v / 256 / 256 / 256 / 256 ≡ v / 2 ^ 32 = omega arith in
    let both : entries_acts o 8 v ≡ entries_acts o 4 v ++ entries_acts (o + 1 + 1 + 1 + 1) 4 (v / 256 / 256 / 256 / 256) = simp append_assoc in
    let low = four_acts o v ∙ low_acts o v ∙ dword_acts_of o (v % 2 ^ 32) (sym (rw y at (run_cell run 0 (omega arith)))) in
    let high = four_acts (o + 4) (v / 2 ^ 32) ∙ dword_acts_of (o + 4) (v / 2 ^ 32) (sym (run_cell run 4 (omega arith))) in
    both ∙ (λ t. entries_acts o 4 v ++ entries_acts (p t) 4 (q t)) ∙ (λ t. low t ++ high t)

-- no event is made
run_quiet : (n : ℕ) (c : Core) (o v : ℕ) → (turns c (entries_acts o n v)).made ≡ []
unfolding turns
run_quiet zero c o v = refl
run_quiet (suc n) c o v =
    ap (λ (t : CoreTurn). t.made) (turns_append c (entry_acts o (v % 256)) (entries_acts (o + 1) n (v / 256)))
    ∙ (λ t. entry_quiet c o (v % 256) t ++ run_quiet n (turns c (entry_acts o (v % 256))).after (o + 1) (v / 256) t)

-- each byte is stored among the 64 of a device that holds them from base on
module _ (base : ℕ) (holding : List ℕ → Device) (each : (l : List ℕ) (o b : ℕ) → base ≤ o → o < base + 64 → acted (holding l) (entry_acts o b) ≡ holding (set l (o - base) b)) where
  run_stored : (n a o v : ℕ) (l : List ℕ) → o ≡ base + a → a + n ≤ 64 → acted (holding l) (entries_acts o n v) ≡ holding (sets l a (bytes_of n v))
  run_stored zero a o v l e h = acted_none (holding l)
  run_stored (suc n) a o v l e h =
      let at : o - base ≡ a = omega arith in
      acted_append (holding l) (entry_acts o (v % 256)) (entries_acts (o + 1) n (v / 256))
      ∙ ap (λ (d : Device). acted d (entries_acts (o + 1) n (v / 256))) (each l o (v % 256) (omega arith) (omega arith) ∙ ap (λ k. holding (set l k (v % 256))) at)
      ∙ run_stored n (suc a) (o + 1) (v / 256) (set l a (v % 256)) (omega arith) (omega arith)

  run_bytes : (n a o v : ℕ) (l : List ℕ) → o ≡ base + a → a + n ≤ 64 → length l ≡ 64 → holding (with_bytes a n v l) ≡ acted (holding l) (entries_acts o n v)
  run_bytes n a o v l e h s =
      let w = length_bytes_of n v in
      let fits : a + length (bytes_of n v) ≤ length l = omega arith in
      sym (run_stored n a o v l e h ∙ ap holding (sets-eq (bytes_of n v) l a fits ∙ append_assoc (take a l) (bytes_of n v) _ ∙ ap (λ k. take a l ++ (bytes_of n v ++ drop (a + k) l)) w))

-- the route bytes, and the vector bytes
abbrev routed : Device → List ℕ → Device
routed d l = with_stored d (with_routes d.core.stored l)

module _ (i : List ℕ) (o n x : ℕ) (fits : o % 64 + n ≤ 64) {j : List ℕ} where
  pub routes_acts : o / 64 ≡ 4 → Becomes i j (λ d. routed d (with_bytes (o % 64) n x d.core.stored.routes)) → Writes i j 0 (λ c. entries_acts o n x)
  routes_acts e s =
      let at : o ≡ 0x100 + o % 64 = omega arith in
      stores_write (λ c. entries_acts o n x) s
      (λ d ns h. run_bytes 0x100 (routed d) (λ l p b low high. ap (acted (routed d l)) (entry_acts_route p b low high) ∙ acted_store (routed d l) (set_route (p - 0x100) b)) n (o % 64) o x d.core.stored.routes at fits h.well.routes)
      (λ c. run_quiet n c o x)

  pub vectors_acts : o / 64 ≡ 8 → Becomes i j (λ d. with_vectors d (with_bytes (o % 64) n x d.core.vectors)) → Writes i j 0 (λ c. entries_acts o n x)
  vectors_acts e s =
      let at : o ≡ 0x200 + o % 64 = omega arith in
      stores_write (λ c. entries_acts o n x) s
      (λ d ns h. run_bytes 0x200 (with_vectors d) (λ l p b low high. ap (acted (with_vectors d l)) (entry_acts_vector p b low high) ∙ acted_vector (with_vectors d l) (p - 0x200) b) n (o % 64) o x d.core.vectors at fits h.well.vectors)
      (λ c. run_quiet n c o x)

module _ (i : List ℕ) (o : ℕ) {j : List ℕ} where
  -- a single one
  pub entry_written : (v : ℕ) → v < 256 → Writes i j 0 (λ c. entries_acts o 1 v) → Writes i j 0 (λ c. entry_acts o v)
  entry_written v h p = let e : v % 256 ≡ v = omega arith in writes_same (λ c. entries_acts o 1 v) (λ c. entry_acts o v) p (λ d ns g. append-nil (entry_acts o (v % 256)) ∙ ap (entry_acts o) e)

  pub four_together : (v : ℕ) → Writes i j 0 (λ c. entries_acts o 4 v) → Writes i j 0 (λ c. cell_acts o v bytes)
  four_together v p = writes_same (λ c. entries_acts o 4 v) (λ c. cell_acts o v bytes) p (λ d ns h. four_acts o v)

  pub eight_together : (v : ℕ) → Run o 8 → Writes i j 0 (λ c. entries_acts o 8 v) → Writes i j 0 (λ c. write_acts c qword o v)
  eight_together v run p = writes_same (λ c. entries_acts o 8 v) (λ c. write_acts c qword o v) p (λ d ns h. eight_acts d.core o v run)

pub none_written : (i : List ℕ) (o v : ℕ) → (o / 64 ≡ 4 → ⊥) → (o / 64 ≡ 8 → ⊥) → Writes i i 0 (λ c. entry_acts o v)
none_written i o v p q = writes_same (λ c. []) (λ c. entry_acts o v) (writes_none i) (λ d ns h. sym (entry_acts_none o v (elsewhere o p q)))

-- four, one after another
pub four_written : (o v : ℕ) {b₀ b₁ b₂ b₃ : ℕ} {i j k l m : List ℕ} → b₀ ≡ byte_of v 0 → b₁ ≡ byte_of v 1 → b₂ ≡ byte_of v 2 → b₃ ≡ byte_of v 3 → Writes i j 0 (λ c. entry_acts o b₀)
    → Writes j k 0 (λ c. entry_acts (o + 1) b₁) → Writes k l 0 (λ c. entry_acts (o + 2) b₂) → Writes l m 0 (λ c. entry_acts (o + 3) b₃) → Writes i m 0 (λ c. cell_acts o v bytes)
unfolding cell_acts
four_written o v {b₀} {b₁} {b₂} {b₃} e₀ e₁ e₂ e₃ p q r s =
    writes_same _ (λ c. cell_acts o v bytes)
    (writes_then (λ c. entry_acts o b₀) _ p (writes_then (λ c. entry_acts (o + 1) b₁) _ q (writes_then (λ c. entry_acts (o + 2) b₂) (λ c. entry_acts (o + 3) b₃) r s)))
    (λ d ns h t. entry_acts o (e₀ t) ++ (entry_acts (o + 1) (e₁ t) ++ (entry_acts (o + 2) (e₂ t) ++ entry_acts (o + 3) (e₃ t))))
