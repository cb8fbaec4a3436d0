-- Which acts a write can do. What holds of the register halves and of the route and vector bytes that it meets holds of each of its acts (write-has).
-- Hence: an act on ISR where a write reaches it, and only there; a write moves the lines or changes vector bytes, never both, and writes MASK or CLEAR,
-- never both; a byte is stored where one belongs; and what a write makes is offered.
use Rattle.basics.proofs.Prelude.{neither, ◌≡◌, refl, sym, ap, ap₂, ◌∙◌, ◌⊎◌, inl, inr, Bool, true, false, not, ◌&&◌, ◌||◌, true≢false, and-eq-true_iff, and-false, or-true, or_assoc, List, [], ◌∷◌, ◌++◌, ℕ, ◌+◌, ◌-◌, ◌%◌, ◌<◌, ◌≤◌, arith, le_refl, eqb, leb, ltb, eqb-true, not-true, lt-ltb, le-ltb, lt-leb, le-leb, ltb-true, ltb-false, byte_of, half, test}
use Rattle.rules.specs.Core.{Core, Plain, Move, poll, raise, lower, clear, set_mask, Act, move, set_isr, store, Store, set_plain, set_route, set_vector, turns}
use Rattle.rules.specs.Map.{Register, Cell, half_of, bytes, nothing, Row, table, lookup, routes_at, vectors_at, in_routes, in_vectors, in_byte_area, cell_at}
use Rattle.rules.specs.Access.{Width, byte, word, dword, qword, register_acts, entry_acts, cell_acts, dword_acts, byte_acts, write_acts}
use Rattle.rules.specs.Device.{Call, acts_of}
use Rattle.histories.specs.{Premises.byte_reaches, Premises.reaches, Premises.is_isr, Premises.is_mask, Premises.writes_isr, Premises.writes_mask, Demands.Each, Demands.done, Demands.also, Demands.some_act, Demands.sets_isr, Demands.sets_mask}
use Rattle.rules.specs.Map as map
use Rattle.rules.specs.Device as call

-- ---- lists of acts

pub each_append : {T : Act → Type 0} {xs ys : List Act} → Each T xs → Each T ys → Each T (xs ++ ys)
each_append done f = f
each_append (also t e) f = also t (each_append e f)

pub each_both : {T U : Act → Type 0} {xs : List Act} → Each T xs → Each U xs → Each (λ a. T a × U a) xs
each_both done done = done
each_both (also t e) (also u f) = also (t, u) (each_both e f)

pub each_so : {T U : Act → Type 0} {xs : List Act} → ((a : Act) → T a → U a) → Each T xs → Each U xs
each_so f done = done
each_so f (also {a = a} t e) = also (f a t) (each_so f e)

-- ---- what stands at an offset

-- a test holds of every half that a table lists, at its offset
abbrev pub all_rows : (ℕ → Cell → Bool) → List Row → Bool
all_rows t [] = true
all_rows t (r ∷ rs) = (t r.low (half_of r.register false) && t r.high (half_of r.register true)) && all_rows t rs

lookup_has : (t : ℕ → Cell → Bool) (rs : List Row) (other : Cell) (o : ℕ) → all_rows t rs ≡ true → t o other ≡ true → t o (lookup rs other o) ≡ true
lookup_has t [] other o a h = h
lookup_has t (r ∷ rs) other o a h =
    let both = (and-eq-true_iff (t r.low (half_of r.register false) && t r.high (half_of r.register true)) (all_rows t rs)).0 a in
    let here = (and-eq-true_iff (t r.low (half_of r.register false)) (t r.high (half_of r.register true))).0 both.0 in
    test (eqb o r.low) (λ e. rw e (rw (eqb-true o r.low e) here.0))
    (λ e. rw e (test (eqb o r.high) (λ f. rw f (rw (eqb-true o r.high f) here.1)) (λ f. rw f (lookup_has t rs other o both.1 h))))

-- a test that holds of the table, and of what is no half, holds of what stands at any offset
pub cell_has : (t : ℕ → Cell → Bool) → all_rows t table ≡ true → (o : ℕ) → t o bytes ≡ true → t o nothing ≡ true → t o (cell_at o) ≡ true
unfolding cell_at
cell_has t a o b n = lookup_has t table _ o a (test (in_routes o || in_vectors o) (λ e. rw e b) (λ e. rw e n))

-- such a test says that a cell of some kind stands only at certain offsets: at another there is none
pub ruled_out : (b : Bool) → (not b || false) ≡ true → b ≡ false
ruled_out true u = sym u
ruled_out false u = refl

-- ---- from what a write meets to what it does

-- what is asked of the Dword offsets (D) and of the single bytes (E) that a write meets
pub record FineByte (D E : ℕ → Type 0) (o : ℕ) : Type 0 where
  pub single : in_byte_area o ≡ true → E o
  pub in_dword : in_byte_area o ≡ false → D (o - o % 4)

abbrev pub Fine : (D E : ℕ → Type 0) → Width → ℕ → Type 0
Fine D E byte o = FineByte D E o
Fine D E word o = FineByte D E o × FineByte D E (o + 1)
Fine D E dword o = D o
Fine D E qword o = D o × D (o + 4)

byte_below : (v k : ℕ) → byte_of v k < 256
byte_below v k = omega arith

module _ (T : Act → Type 0) where
  -- an offset where T holds of a byte's act
  abbrev pub Passes : ℕ → Type 0
  Passes i = (b : ℕ) → b < 256 → Each T (entry_acts i b)

  pub entry_has : (i : ℕ) → ((b : ℕ) → b < 256 → T (store (set_route (i - routes_at) b)))
      → (in_vectors i ≡ true → (b : ℕ) → b < 256 → T (set_vector (i - vectors_at) b)) → Passes i
  unfolding entry_acts
  entry_has i p q b h =
      test (in_routes i) (λ e. rw e (also (p b h) done)) (λ e. rw e (test (in_vectors i) (λ f. rw f (also (q f b h) done)) (λ f. rw f done)))

  -- a register's half: MASK, CLEAR, a plain register, ISR
  pub register_has : ((h : Bool) (v : ℕ) → T (move (set_mask h v))) → ((b : ℕ) → T (move (clear b)))
      → ((p : Plain) (h : Bool) (v : ℕ) → T (store (set_plain p h v)))
      → (r : Register) (h : Bool) (v : ℕ) → (r ≡ map.isr → T (set_isr h v)) → Each T (register_acts r h v)
  register_has m c p map.id h v i = done
  register_has m c p map.mask h v i = also (m h v) done
  register_has m c p map.clear h v i = also (c _) done
  register_has m c p map.irr h v i = done
  register_has m c p map.isr h v i = also (i refl) done
  register_has m c p (map.plain x) h v i = also (p x h v) done

  pub dword_has : (o v : ℕ) → ((r : Register) (h : Bool) → cell_at o ≡ half_of r h → Each T (register_acts r h v))
      → ((i : ℕ) → o ≤ i → i < o + 4 → Passes i) → Each T (dword_acts o v)
  unfolding dword_acts cell_acts
  dword_has o v p q = go (cell_at o) refl
    where
      four : Each T (cell_acts o v bytes)
      four =
          let a0 = q o (le_refl o) (omega arith) (byte_of v 0) (byte_below v 0) in
          let a1 = q (o + 1) (omega arith) (omega arith) (byte_of v 1) (byte_below v 1) in
          let a2 = q (o + 2) (omega arith) (omega arith) (byte_of v 2) (byte_below v 2) in
          let a3 = q (o + 3) (omega arith) (omega arith) (byte_of v 3) (byte_below v 3) in
          each_append a0 (each_append a1 (each_append a2 a3))

      go : (c : Cell) → cell_at o ≡ c → Each T (cell_acts o v c)
      go (half_of r h) e = p r h e
      go bytes e = four
      go nothing e = done

  module _ (D E : ℕ → Type 0) (dwords : (o v : ℕ) → D o → Each T (dword_acts o v)) (entries : (i : ℕ) → E i → Passes i) where
    byte_has : (c : Core) (o v : ℕ) → v < 256 → FineByte D E o → Each T (byte_acts c o v)
    unfolding byte_acts
    byte_has c o v b f = test (in_byte_area o) (λ e. rw e (entries o (f.single e) v b)) (λ e. rw e (dwords (o - o % 4) _ (f.in_dword e)))

    pub write_has : (c : Core) (w : Width) (o v : ℕ) → Fine D E w o → Each T (write_acts c w o v)
    unfolding write_acts
    write_has c byte o v f = byte_has c o (byte_of v 0) (byte_below v 0) f
    write_has c word o v f =
        each_append (byte_has c o (byte_of v 0) (byte_below v 0) f.0) (byte_has _ (o + 1) (byte_of v 1) (byte_below v 1) f.1)
    write_has c dword o v f = dwords o (half false v) f
    write_has c qword o v f = each_append (dwords o (half false v) f.0) (dwords (o + 4) (half true v) f.1)

-- a write, where T holds of whatever register and byte it meets
pub any_met : (T : Act → Type 0) → ((r : Register) (h : Bool) (v : ℕ) → Each T (register_acts r h v)) → ((i : ℕ) → Passes T i)
    → (c : Core) (w : Width) (o v : ℕ) → Each T (write_acts c w o v)
any_met T p entry c w o v =
    write_has T (λ i. Unit {0}) (λ i. Unit {0}) (λ i x u. dword_has T i x (λ r h e. p r h x) (λ k f g. entry k)) (λ i u. entry i)
    c w o v (fine w)
  where
    fine_byte : (i : ℕ) → FineByte (λ k. Unit {0}) (λ k. Unit {0}) i
    fine_byte i = record { single = λ s. tt; in_dword = λ s. tt }

    fine : (w : Width) → Fine (λ i. Unit {0}) (λ i. Unit {0}) w o
    fine byte = fine_byte o
    fine word = (fine_byte o, fine_byte (o + 1))
    fine dword = tt
    fine qword = (tt, tt)

-- so where T holds of a byte stored at any index
pub any_write : (T : Act → Type 0) → ((r : Register) (h : Bool) (v : ℕ) → Each T (register_acts r h v))
    → ((n b : ℕ) → b < 256 → T (store (set_route n b))) → ((n b : ℕ) → b < 256 → T (set_vector n b))
    → (c : Core) (w : Width) (o v : ℕ) → Each T (write_acts c w o v)
any_write T p q s = any_met T p (λ i. entry_has T i (λ b h. q (i - routes_at) b h) (λ e b h. s (i - vectors_at) b h))

-- a call, where T holds of every move, and of each act if the call is a write
pub call_has : (T : Act → Type 0) → ((m : Move) → T (move m)) → (c : Core) (x : Call)
    → ((w : Width) (o v : ℕ) → x ≡ call.write w o v → Each T (write_acts c w o v)) → Each T (acts_of c x)
unfolding acts_of
call_has T p c (call.level n true) q = also (p _) done
call_has T p c (call.level n false) q = also (p _) done
call_has T p c (call.poll n) q = also (p _) done
call_has T p c (call.read w o) q = done
call_has T p c (call.write w o v) q = q w o v refl
call_has T p c (call.drain k) q = done

-- ---- no write of ISR

-- an act that is no write of ISR
abbrev pub NotIsr : Act → Type 0
NotIsr (move m) = Unit {0}
NotIsr (set_isr h v) = ⊥
NotIsr (store s) = Unit {0}
NotIsr (set_vector n v) = Unit {0}

abbrev isr_half : Cell → Bool
isr_half (half_of map.id h) = false
isr_half (half_of map.mask h) = false
isr_half (half_of map.clear h) = false
isr_half (half_of map.irr h) = false
isr_half (half_of map.isr h) = true
isr_half (half_of (map.plain p) h) = false
isr_half bytes = false
isr_half nothing = false

-- the halves of ISR stand where is_isr says, and nowhere else
isr_stands : (o : ℕ) (r : Register) (h : Bool) → is_isr o ≡ false → cell_at o ≡ half_of r h → r ≡ map.isr → ⊥
isr_stands o r h n e f =
    let off = ruled_out (isr_half (half_of r h)) (rw (e, n) at (cell_has (λ i d. not (isr_half d) || is_isr i) refl o refl refl)) in
    true≢false (sym (ap (λ x. isr_half (half_of x h)) f) ∙ off)

isr_write : (c : Core) (w : Width) (o v : ℕ) → reaches is_isr w o ≡ false → Each NotIsr (write_acts c w o v)
isr_write c w o v e =
    write_has NotIsr (λ i. is_isr i ≡ false) (λ i. Unit {0}) (λ i x n. dword_has NotIsr i x (λ r h s. half_at i x r h n s) (λ k p q. entry k))
    (λ i u. entry i) c w o v (fine w e)
  where
    half_at : (i x : ℕ) (r : Register) (h : Bool) → is_isr i ≡ false → cell_at i ≡ half_of r h → Each NotIsr (register_acts r h x)
    half_at i x r h n s = register_has NotIsr (λ g y. tt) (λ y. tt) (λ p g y. tt) r h x (isr_stands i r h n s)

    entry : (i : ℕ) → Passes NotIsr i
    entry i = entry_has NotIsr i (λ b h. tt) (λ e b h. tt)

    fine_byte : (i : ℕ) → byte_reaches is_isr i ≡ false → FineByte (λ k. is_isr k ≡ false) (λ k. Unit {0}) i
    fine_byte i u = record { single = λ s. tt; in_dword = λ s. rw s at u }

    fine : (w : Width) → reaches is_isr w o ≡ false → Fine (λ i. is_isr i ≡ false) (λ i. Unit {0}) w o
    fine byte u = fine_byte o u
    fine word u = let r = neither (byte_reaches is_isr o) (byte_reaches is_isr (o + 1)) u in (fine_byte o r.0, fine_byte (o + 1) r.1)
    fine dword u = u
    fine qword u = neither (is_isr o) (is_isr (o + 4)) u

pub no_isr_act : (c : Core) (x : Call) → writes_isr x ≡ false → Each NotIsr (acts_of c x)
no_isr_act c x e = call_has NotIsr (λ m. tt) c x (λ w o v f. isr_write c w o v (sym (ap writes_isr f) ∙ e))

-- and where it reaches ISR, it writes ISR
pub some_append : (t : Act → Bool) (xs ys : List Act) → some_act t (xs ++ ys) ≡ (some_act t xs || some_act t ys)
unfolding some_act
some_append t [] ys = refl
some_append t (a ∷ xs) ys = ap (λ b. t a || b) (some_append t xs ys) ∙ sym (or_assoc (t a) (some_act t xs) (some_act t ys))

none_of : {xs : List Act} → Each NotIsr xs → some_act sets_isr xs ≡ false
unfolding some_act
none_of done = refl
none_of (also {a = move m} t e) = none_of e
none_of (also {a = set_isr h v} t e) = absurd t
none_of (also {a = store s} t e) = none_of e
none_of (also {a = set_vector n v} t e) = none_of e

isr_dword : (o v : ℕ) → is_isr o ≡ true → some_act sets_isr (dword_acts o v) ≡ true
unfolding some_act dword_acts cell_acts cell_at
isr_dword o v e =
    test (eqb o 0x3a0) (λ t. rw (eqb-true o 0x3a0 t)) (λ t. rw (eqb-true o 0x3a4 (rw t at e)))

isr_byte : (c : Core) (o v : ℕ) → byte_reaches is_isr o ≡ true → some_act sets_isr (byte_acts c o v) ≡ true
unfolding byte_acts
isr_byte c o v e =
    let both = (and-eq-true_iff (not (in_byte_area o)) (is_isr (o - o % 4))).0 e in
    rw (not-true (in_byte_area o) both.0) (isr_dword (o - o % 4) _ both.1)

isr_written : (c : Core) (w : Width) (o v : ℕ) → reaches is_isr w o ≡ true → some_act sets_isr (write_acts c w o v) ≡ true
unfolding write_acts
isr_written c byte o v e = isr_byte c o (byte_of v 0) e
isr_written c word o v e =
    let one = byte_acts c o (byte_of v 0) in
    some_append sets_isr one _
    ∙ test (byte_reaches is_isr o) (λ t. rw (isr_byte c o (byte_of v 0) t))
    (λ t. rw (isr_byte (turns c one).after (o + 1) (byte_of v 1) (rw t at e)) (or-true (some_act sets_isr one)))
isr_written c dword o v e = isr_dword o (half false v) e
isr_written c qword o v e =
    some_append sets_isr (dword_acts o (half false v)) _
    ∙ test (is_isr o) (λ t. rw (isr_dword o (half false v) t)) (λ t. rw (isr_dword (o + 4) (half true v) (rw t at e)) (or-true (some_act sets_isr (dword_acts o (half false v)))))

pub isr_acts : (c : Core) (x : Call) → writes_isr x ≡ some_act sets_isr (acts_of c x)
unfolding acts_of
isr_acts c x = test (writes_isr x) (λ t. t ∙ sym (go x t)) (λ t. t ∙ sym (none_of (no_isr_act c x t)))
  where
    go : (x : Call) → writes_isr x ≡ true → some_act sets_isr (acts_of c x) ≡ true
    go (call.level n b) t = absurd (true≢false (sym t))
    go (call.poll n) t = absurd (true≢false (sym t))
    go (call.read w o) t = absurd (true≢false (sym t))
    go (call.write w o v) t = isr_written c w o v t
    go (call.drain k) t = absurd (true≢false (sym t))

-- ---- an act that only register halves do

-- an act of some kind is done by no route or vector byte
module _ (t : Act → Bool) (stores : (x : Store) → t (store x) ≡ false) (vectors : (n v : ℕ) → t (set_vector n v) ≡ false) where
  entry_none : (o v : ℕ) → some_act t (entry_acts o v) ≡ false
  unfolding entry_acts some_act
  entry_none o v =
      test (in_routes o) (λ e. rw (e, stores (set_route (o - routes_at) v))) (λ e. rw e (test (in_vectors o) (λ f. rw (f, vectors (o - vectors_at) v)) (λ f. rw f)))

  pub four_none : (o v : ℕ) → some_act t (cell_acts o v bytes) ≡ false
  unfolding cell_acts
  four_none o v =
      some_append t (entry_acts o (byte_of v 0)) _
      ∙ ap₂ ◌||◌ (entry_none o (byte_of v 0))
      (some_append t (entry_acts (o + 1) (byte_of v 1)) _
      ∙ ap₂ ◌||◌ (entry_none (o + 1) (byte_of v 1))
      (some_append t (entry_acts (o + 2) (byte_of v 2)) _ ∙ ap₂ ◌||◌ (entry_none (o + 2) (byte_of v 2)) (entry_none (o + 3) (byte_of v 3))))

  -- where a Dword does one at certain offsets, a write does one exactly where it reaches such an offset
  module _ (at : ℕ → Bool) (dwords : (o v : ℕ) → some_act t (dword_acts o v) ≡ at o) where
    byte_does : (c : Core) (o v : ℕ) → some_act t (byte_acts c o v) ≡ byte_reaches at o
    unfolding byte_acts
    byte_does c o v = test (in_byte_area o) (λ e. rw e (entry_none o v)) (λ e. rw e (dwords (o - o % 4) _))

    pub write_does : (c : Core) (w : Width) (o v : ℕ) → some_act t (write_acts c w o v) ≡ reaches at w o
    unfolding write_acts
    write_does c byte o v = byte_does c o (byte_of v 0)
    write_does c word o v = some_append t (byte_acts c o (byte_of v 0)) _ ∙ ap₂ ◌||◌ (byte_does c o (byte_of v 0)) (byte_does _ (o + 1) (byte_of v 1))
    write_does c dword o v = dwords o (half false v)
    write_does c qword o v = some_append t (dword_acts o (half false v)) _ ∙ ap₂ ◌||◌ (dwords o (half false v)) (dwords (o + 4) (half true v))

-- MASK stands at its two offsets, and nowhere else
abbrev pub is_mask_half : Cell → Bool
is_mask_half (half_of map.id h) = false
is_mask_half (half_of map.mask h) = true
is_mask_half (half_of map.clear h) = false
is_mask_half (half_of map.irr h) = false
is_mask_half (half_of map.isr h) = false
is_mask_half (half_of (map.plain p) h) = false
is_mask_half bytes = false
is_mask_half nothing = false

pub mask_elsewhere : (o : ℕ) → is_mask o ≡ false → is_mask_half (cell_at o) ≡ false
mask_elsewhere o e = ruled_out (is_mask_half (cell_at o)) (rw e at (cell_has (λ i d. not (is_mask_half d) || is_mask i) refl o refl refl))

mask_there : (o : ℕ) → is_mask o ≡ true → is_mask_half (cell_at o) ≡ true
unfolding cell_at
mask_there o e = test (eqb o 0x020) (λ t. rw (eqb-true o 0x020 t)) (λ t. rw (eqb-true o 0x024 (rw t at e)))

mask_cell : (o v : ℕ) (d : Cell) → some_act sets_mask (cell_acts o v d) ≡ is_mask_half d
unfolding cell_acts some_act
mask_cell o v (half_of map.id h) = refl
mask_cell o v (half_of map.mask h) = refl
mask_cell o v (half_of map.clear h) = refl
mask_cell o v (half_of map.irr h) = refl
mask_cell o v (half_of map.isr h) = refl
mask_cell o v (half_of (map.plain p) h) = refl
mask_cell o v bytes = four_none sets_mask (λ x. refl) (λ n w. refl) o v
mask_cell o v nothing = refl

mask_dword : (o v : ℕ) → some_act sets_mask (dword_acts o v) ≡ is_mask o
unfolding dword_acts
mask_dword o v = mask_cell o v (cell_at o) ∙ test (is_mask o) (λ t. mask_there o t ∙ sym t) (λ t. mask_elsewhere o t ∙ sym t)

pub mask_acts : (c : Core) (x : Call) → writes_mask x ≡ some_act sets_mask (acts_of c x)
unfolding acts_of some_act
mask_acts c (call.level n true) = refl
mask_acts c (call.level n false) = refl
mask_acts c (call.poll n) = refl
mask_acts c (call.read w o) = refl
mask_acts c (call.write w o v) = sym (write_does sets_mask (λ x. refl) (λ n w. refl) is_mask mask_dword c w o v)
mask_acts c (call.drain k) = refl

-- ---- the lines or the vectors, never both

-- an act that leaves the lines; one that leaves the vector bytes
abbrev pub LeavesLines : Act → Type 0
LeavesLines (move m) = ⊥
LeavesLines (set_isr h v) = ⊥
LeavesLines (store s) = Unit {0}
LeavesLines (set_vector n v) = Unit {0}

abbrev pub LeavesVectors : Act → Type 0
LeavesVectors (move m) = Unit {0}
LeavesVectors (set_isr h v) = Unit {0}
LeavesVectors (store s) = Unit {0}
LeavesVectors (set_vector n v) = ⊥

abbrev is_half : Cell → Bool
is_half (half_of r h) = true
is_half bytes = false
is_half nothing = false

-- between the route bytes and IRR no half stands
no_half : (o : ℕ) → 0x100 ≤ o → o < 0x380 → is_half (cell_at o) ≡ false
no_half o a b =
    let there = cell_has (λ i d. not (is_half d) || not (leb 0x100 i && ltb i 0x380)) refl o refl refl in
    ruled_out (is_half (cell_at o)) (rw (le-leb 0x100 o a, lt-ltb o 0x380 b) at there)

-- a write that starts here meets vector bytes, if any, and no half
abbrev Middle : ℕ → Type 0
Middle i = (0x100 ≤ i) × (i < 0x380)

lines_left : (c : Core) (w : Width) (o v : ℕ) → 0x1f0 ≤ o → o < 0x240 → Each LeavesLines (write_acts c w o v)
lines_left c w o v a b =
    write_has LeavesLines Middle (λ i. Unit {0})
    (λ i x m. dword_has LeavesLines i x (λ r h s. absurd (true≢false (sym (ap is_half s) ∙ no_half i m.0 m.1))) (λ k p q. entry k))
    (λ i u. entry i) c w o v (fine w)
  where
    entry : (i : ℕ) → Passes LeavesLines i
    entry i = entry_has LeavesLines i (λ b h. tt) (λ e b h. tt)

    fine_byte : (i : ℕ) → 0x1f0 ≤ i → i < 0x242 → FineByte Middle (λ k. Unit {0}) i
    fine_byte i p q = record { single = λ s. tt; in_dword = λ s. omega arith }

    fine : (w : Width) → Fine Middle (λ i. Unit {0}) w o
    fine byte = fine_byte o a (omega arith)
    fine word = (fine_byte o a (omega arith), fine_byte (o + 1) (omega arith) (omega arith))
    fine dword = omega arith
    fine qword = omega arith

-- no vector byte from here on, four bytes far
abbrev NoVector : ℕ → Type 0
NoVector i = (k : ℕ) → i ≤ k → k < i + 4 → in_vectors k ≡ false

vectors_left : (c : Core) (w : Width) (o v : ℕ) → ((i : ℕ) → o - o % 4 ≤ i → i < o + 8 → in_vectors i ≡ false)
    → Each LeavesVectors (write_acts c w o v)
vectors_left c w o v n =
    write_has LeavesVectors NoVector NoVector (λ i x m. dword_has LeavesVectors i x (λ r h s. half_of_lem r h x) (λ k p q. entry k (m k p q)))
    (λ i m. entry i (m i (le_refl i) (omega arith))) c w o v (fine w)
  where
    half_of_lem : (r : Register) (h : Bool) (v : ℕ) → Each LeavesVectors (register_acts r h v)
    half_of_lem r h v = register_has LeavesVectors (λ g y. tt) (λ y. tt) (λ p g y. tt) r h v (λ e. tt)

    entry : (i : ℕ) → in_vectors i ≡ false → Passes LeavesVectors i
    entry i e = entry_has LeavesVectors i (λ b h. tt) (λ t. absurd (true≢false (sym t ∙ e)))

    fine_byte : (i : ℕ) → o ≤ i → i < o + 2 → FineByte NoVector NoVector i
    fine_byte i p q = record { single = λ s k f g. n k (omega arith) (omega arith); in_dword = λ s k f g. n k (omega arith) (omega arith) }

    fine : (w : Width) → Fine NoVector NoVector w o
    fine byte = fine_byte o (le_refl o) (omega arith)
    fine word = (fine_byte o (le_refl o) (omega arith), fine_byte (o + 1) (omega arith) (omega arith))
    fine dword = λ k f g. n k (omega arith) (omega arith)
    fine qword = ((λ k f g. n k (omega arith) (omega arith)), (λ k f g. n k (omega arith) (omega arith)))

-- a write, by where it starts
write_leaves : (c : Core) (w : Width) (o v : ℕ) → Each LeavesLines (write_acts c w o v) ⊎ Each LeavesVectors (write_acts c w o v)
write_leaves c w o v =
    test (ltb o 0x1f0) (λ t. inr (vectors_left c w o v (λ i a b. below i (omega (arith, ltb-true o 0x1f0 t)))))
    (λ t. test (ltb o 0x240) (λ u. inl (lines_left c w o v (ltb-false o 0x1f0 t) (ltb-true o 0x240 u)))
    (λ u. inr (vectors_left c w o v (λ i a b. above i (omega (arith, ltb-false o 0x240 u))))))
  where
    below : (i : ℕ) → i < 0x200 → in_vectors i ≡ false
    below i h = rw (lt-leb 0x200 i h)

    above : (i : ℕ) → 0x240 ≤ i → in_vectors i ≡ false
    above i h = rw (le-ltb i 0x240 h) (and-false (leb 0x200 i))

pub lines_or_vectors : (c : Core) (x : Call) → Each LeavesLines (acts_of c x) ⊎ Each LeavesVectors (acts_of c x)
unfolding acts_of
lines_or_vectors c (call.level n true) = inr (also tt done)
lines_or_vectors c (call.level n false) = inr (also tt done)
lines_or_vectors c (call.poll n) = inr (also tt done)
lines_or_vectors c (call.read w o) = inr done
lines_or_vectors c (call.write w o v) = write_leaves c w o v
lines_or_vectors c (call.drain k) = inr done

-- ---- MASK or CLEAR, never both

-- an act that is no write of MASK; one that is no write of CLEAR
abbrev pub NotMask : Act → Type 0
NotMask (move (poll n)) = Unit {0}
NotMask (move (raise n)) = Unit {0}
NotMask (move (lower n)) = Unit {0}
NotMask (move (clear b)) = Unit {0}
NotMask (move (set_mask h v)) = ⊥
NotMask (set_isr h v) = Unit {0}
NotMask (store s) = Unit {0}
NotMask (set_vector n v) = Unit {0}

abbrev pub NotClear : Act → Type 0
NotClear (move (poll n)) = Unit {0}
NotClear (move (raise n)) = Unit {0}
NotClear (move (lower n)) = Unit {0}
NotClear (move (clear b)) = ⊥
NotClear (move (set_mask h v)) = Unit {0}
NotClear (set_isr h v) = Unit {0}
NotClear (store s) = Unit {0}
NotClear (set_vector n v) = Unit {0}

-- MASK stands below 0x60, CLEAR above
abbrev stands_right : ℕ → Cell → Bool
stands_right i (half_of map.id h) = true
stands_right i (half_of map.mask h) = ltb i 0x60
stands_right i (half_of map.clear h) = not (ltb i 0x80)
stands_right i (half_of map.irr h) = true
stands_right i (half_of map.isr h) = true
stands_right i (half_of (map.plain p) h) = true
stands_right i bytes = true
stands_right i nothing = true

stands : (o : ℕ) (r : Register) (h : Bool) → cell_at o ≡ half_of r h → stands_right o (half_of r h) ≡ true
stands o r h e = sym (ap (stands_right o) e) ∙ cell_has stands_right refl o refl refl

mask_left : (c : Core) (w : Width) (o v : ℕ) → 0x60 ≤ o → Each NotMask (write_acts c w o v)
mask_left c w o v a =
    write_has NotMask (λ i. 0x60 ≤ i) (λ i. Unit {0}) (λ i x m. dword_has NotMask i x (λ r h s. half_at i x r h m (stands i r h s)) (λ k p q. entry k))
    (λ i u. entry i) c w o v (fine w)
  where
    half_at : (i x : ℕ) (r : Register) (h : Bool) → 0x60 ≤ i → stands_right i (half_of r h) ≡ true → Each NotMask (register_acts r h x)
    half_at i x map.id h m s = done
    half_at i x map.mask h m s = absurd (true≢false (sym s ∙ le-ltb i 0x60 m))
    half_at i x map.clear h m s = also tt done
    half_at i x map.irr h m s = done
    half_at i x map.isr h m s = also tt done
    half_at i x (map.plain p) h m s = also tt done

    entry : (i : ℕ) → Passes NotMask i
    entry i = entry_has NotMask i (λ b h. tt) (λ e b h. tt)

    fine_byte : (i : ℕ) → 0x60 ≤ i → FineByte (λ k. 0x60 ≤ k) (λ k. Unit {0}) i
    fine_byte i p = record { single = λ s. tt; in_dword = λ s. omega arith }

    fine : (w : Width) → Fine (λ i. 0x60 ≤ i) (λ i. Unit {0}) w o
    fine byte = fine_byte o a
    fine word = (fine_byte o a, fine_byte (o + 1) (omega arith))
    fine dword = a
    fine qword = (a, omega arith)

clear_left : (c : Core) (w : Width) (o v : ℕ) → o < 0x60 → Each NotClear (write_acts c w o v)
clear_left c w o v a =
    write_has NotClear (λ i. i < 0x80) (λ i. Unit {0}) (λ i x m. dword_has NotClear i x (λ r h s. half_at i x r h m (stands i r h s)) (λ k p q. entry k))
    (λ i u. entry i) c w o v (fine w)
  where
    half_at : (i x : ℕ) (r : Register) (h : Bool) → i < 0x80 → stands_right i (half_of r h) ≡ true → Each NotClear (register_acts r h x)
    half_at i x map.id h m s = done
    half_at i x map.mask h m s = also tt done
    half_at i x map.clear h m s = absurd (true≢false (sym s ∙ ap not (lt-ltb i 0x80 m)))
    half_at i x map.irr h m s = done
    half_at i x map.isr h m s = also tt done
    half_at i x (map.plain p) h m s = also tt done

    entry : (i : ℕ) → Passes NotClear i
    entry i = entry_has NotClear i (λ b h. tt) (λ e b h. tt)

    fine_byte : (i : ℕ) → i < 0x62 → FineByte (λ k. k < 0x80) (λ k. Unit {0}) i
    fine_byte i p = record { single = λ s. tt; in_dword = λ s. omega arith }

    fine : (w : Width) → Fine (λ i. i < 0x80) (λ i. Unit {0}) w o
    fine byte = fine_byte o (omega arith)
    fine word = (fine_byte o (omega arith), fine_byte (o + 1) (omega arith))
    fine dword = omega arith
    fine qword = (omega arith, omega arith)

pub mask_or_clear : (c : Core) (w : Width) (o v : ℕ) → Each NotMask (write_acts c w o v) ⊎ Each NotClear (write_acts c w o v)
mask_or_clear c w o v =
    test (ltb o 0x60) (λ t. inr (clear_left c w o v (ltb-true o 0x60 t))) (λ t. inl (mask_left c w o v (ltb-false o 0x60 t)))

-- ---- bytes

-- an act that stores a byte where a byte belongs
abbrev pub StoresBytes : Act → Type 0
StoresBytes (move m) = Unit {0}
StoresBytes (set_isr h v) = Unit {0}
StoresBytes (store (set_plain p h v)) = Unit {0}
StoresBytes (store (set_route n v)) = v < 256
StoresBytes (set_vector n v) = v < 256

byte_write : (c : Core) (w : Width) (o v : ℕ) → Each StoresBytes (write_acts c w o v)
byte_write =
    any_write StoresBytes (λ r h v. register_has StoresBytes (λ g y. tt) (λ y. tt) (λ p g y. tt) r h v (λ e. tt)) (λ i b h. h) (λ i b h. h)

pub byte_acts_lem : (c : Core) (x : Call) → Each StoresBytes (acts_of c x)
byte_acts_lem c x = call_has StoresBytes (λ m. tt) c x (λ w o v f. byte_write c w o v)

-- ---- what a write makes is offered

-- an act that returns no event
abbrev pub ReturnsNone : Act → Type 0
ReturnsNone (move (poll n)) = ⊥
ReturnsNone (move (raise n)) = ⊥
ReturnsNone (move (lower n)) = ⊥
ReturnsNone (move (clear b)) = Unit {0}
ReturnsNone (move (set_mask h v)) = Unit {0}
ReturnsNone (set_isr h v) = Unit {0}
ReturnsNone (store s) = Unit {0}
ReturnsNone (set_vector n v) = Unit {0}

pub write_returns_none : (c : Core) (w : Width) (o v : ℕ) → Each ReturnsNone (write_acts c w o v)
write_returns_none =
    any_write ReturnsNone (λ r h v. register_has ReturnsNone (λ g y. tt) (λ y. tt) (λ p g y. tt) r h v (λ e. tt)) (λ i b h. tt) (λ i b h. tt)
