-- Acts that the pass does not heed, a half of ISR, and a Byte as a half of its register.
use Rattle.basics.proofs.Prelude.{◌≡◌, refl, sym, ap, subst, ◌∙◌, Bool, true, false, List, [], ◌∷◌, ◌++◌, ℕ, ◌+◌, ◌-◌, ◌^◌, ◌<◌, bit_and, byte_of, with_byte, half, with_half, test}
use Rattle.rules.specs.{Lines.Lines, Lines.with_isr, Ring.ring_run}
use Rattle.rules.specs.Core.{Core, Act, Store, set_route, set_isr, store, set_vector, turns, line_turn, vectors_after, stored_after}
use Rattle.rules.specs.Map.{Register, Cell, half_of, bytes, cell_at, in_routes, in_vectors, in_byte_area}
use Rattle.rules.specs.{Access.value_of, Access.read_cell, Access.read_dword, Access.register_acts, Access.entry_acts, Access.cell_acts, Access.dword_acts, Access.byte_acts, Device.offers, Device.acted}
use Rattle.laws.proofs.laws.Writes.{byte_acts_inside, byte_acts_outside, dword_acts_of}
use Rattle.plain.specs.Sequence.{notes_of}
use Rattle.passes.specs.tallies.{Marks.marks_of, Following.Stands, Following.Takes, Following.Follows, Following.ReadsAs}
use Rattle.passes.proofs.tallies.laws.Taking.{takes_none, follows_none, follows_then}
use Rattle.rules.specs.Map as map

pub follows_same : {wide : Bool} {l : Lines} {w : ℕ} {m : Lines} {u : ℕ} {b a : List ℕ} (k : ℕ) (xs ys : Core → List Act) → ((c : Core) → c.lines ≡ l → xs c ≡ ys c) → Follows wide l w m u b a k xs → Follows wide l w m u b a k ys
follows_same {wide} {m} {u} {b} {a} k xs ys e s d h = subst (λ (zs : List Act). Stands m u (acted d zs) × Takes wide b a (marks_of k d zs)) (e d.core h.lines) (s d h)

-- ---- what is only stored

module _ {wide : Bool} (l : Lines) (w : ℕ) (b : List ℕ) (k : ℕ) where
  pub follows_store : (x : Store) → Follows wide l w l w b b k (λ c. store x ∷ [])
  unfolding acted turns line_turn vectors_after stored_after offers ring_run marks_of notes_of
  follows_store x d h = (record { lines = h.lines; waiting = h.waiting }, takes_none b)

  pub follows_vector : (n v : ℕ) → Follows wide l w l w b b k (λ c. set_vector n v ∷ [])
  unfolding acted turns line_turn vectors_after stored_after offers ring_run marks_of notes_of
  follows_vector n v d h = (record { lines = h.lines; waiting = h.waiting }, takes_none b)

  pub follows_entry : (o v : ℕ) → Follows wide l w l w b b k (λ c. entry_acts o v)
  unfolding entry_acts
  follows_entry o v =
      test (in_routes o) (λ t. rw t (follows_store (map_route o v)))
      (λ t. test (in_vectors o) (λ z. rw (t, z) (follows_vector (o - map.vectors_at) v)) (λ z. rw (t, z) (follows_none l w b k)))
    where
      map_route : ℕ → ℕ → Store
      map_route o v = set_route (o - map.routes_at) v

  pub follows_bytes : (o v : ℕ) → Follows wide l w l w b b k (λ c. cell_acts o v bytes)
  unfolding cell_acts
  follows_bytes o v =
      follows_then k (λ c. entry_acts o (byte_of v 0)) (λ c. entry_acts (o + 1) (byte_of v 1) ++ (entry_acts (o + 2) (byte_of v 2) ++ entry_acts (o + 3) (byte_of v 3))) (follows_entry o (byte_of v 0))
      (follows_then k (λ c. entry_acts (o + 1) (byte_of v 1)) (λ c. entry_acts (o + 2) (byte_of v 2) ++ entry_acts (o + 3) (byte_of v 3)) (follows_entry (o + 1) (byte_of v 1))
      (follows_then k (λ c. entry_acts (o + 2) (byte_of v 2)) (λ c. entry_acts (o + 3) (byte_of v 3)) (follows_entry (o + 2) (byte_of v 2)) (follows_entry (o + 3) (byte_of v 3))))

  -- a half of ISR
  pub follows_isr : (h : Bool) (v : ℕ) {x : ℕ} → x ≡ with_half h l.isr v → Follows wide l w (with_isr l x) w b b k (λ c. set_isr h v ∷ [])
  unfolding acted turns line_turn vectors_after stored_after offers ring_run marks_of notes_of
  follows_isr h v e d s = (record { lines = ap (λ (m : Lines). with_isr m (with_half h m.isr v)) s.lines ∙ ap (with_isr l) (sym e); waiting = s.waiting }, takes_none b)

-- ---- a Dword, and a Byte outside the byte area

-- where the Dword of a Byte stands
abbrev place_of : ℕ → ℕ
place_of o = bit_and o 0xffff_ffff_ffff_fffc

module _ {wide : Bool} {l : Lines} {w : ℕ} {m : Lines} {u : ℕ} {b a : List ℕ} (k : ℕ) where
  pub dword_follows : (o v : ℕ) {x : Cell} → x ≡ cell_at o → Follows wide l w m u b a k (λ c. cell_acts o v x) → Follows wide l w m u b a k (λ c. dword_acts o v)
  dword_follows o v {x} e s = follows_same k (λ c. cell_acts o v x) (λ c. dword_acts o v) (λ c _. dword_acts_of o v e) s

  -- whatever a register that is not heeded is written with, nothing that is kept changes
  half_follows : (r : Register) (h : Bool) (p v x : ℕ) → ReadsAs l x r → Follows wide l w m u b a k (λ c. register_acts r h (with_byte (half h x) p v)) → Follows wide l w m u b a k (λ c. register_acts r h (with_byte (half h (value_of c r)) p v))
  unfolding acted turns line_turn vectors_after stored_after offers ring_run marks_of notes_of
  half_follows map.id h p v x e s = s
  half_follows map.irr h p v x e s = s
  half_follows (map.plain q) h p v x e s = λ d z. let y = s d z in (record { lines = y.0.lines; waiting = y.0.waiting }, y.1)
  half_follows map.mask h p v x e s = follows_same k _ _ (λ c z. ap (λ y. register_acts map.mask h (with_byte (half h y) p v)) (e refl c z)) s
  half_follows map.clear h p v x e s = follows_same k _ _ (λ c z. ap (λ y. register_acts map.clear h (with_byte (half h y) p v)) (e refl c z)) s
  half_follows map.isr h p v x e s = follows_same k _ _ (λ c z. ap (λ y. register_acts map.isr h (with_byte (half h y) p v)) (e refl c z)) s

  module _ (o v : ℕ) (z : o < 2 ^ 64) (out : in_byte_area o ≡ false) where
    pub byte_of_half : (r : Register) (h : Bool) → half_of r h ≡ cell_at (place_of o) → (x : ℕ) → ReadsAs l x r → Follows wide l w m u b a k (λ c. register_acts r h (with_byte (half h x) (bit_and o 0x3) v)) → Follows wide l w m u b a k (λ c. byte_acts c o v)
    unfolding cell_acts read_cell read_dword
    byte_of_half r h e x is s =
        follows_same k (λ c. register_acts r h (with_byte (half h (value_of c r)) (bit_and o 0x3) v)) (λ c. byte_acts c o v)
        (λ c _. ap (λ y. register_acts r h (with_byte y (bit_and o 0x3) v)) (ap (read_cell c (place_of o)) e) ∙ dword_acts_of (place_of o) (with_byte (read_dword c (place_of o)) (bit_and o 0x3) v) e ∙ sym (byte_acts_outside o v c z out))
        (half_follows r h (bit_and o 0x3) v x is s)

module _ {wide : Bool} (l : Lines) (w : ℕ) (b : List ℕ) (k o v : ℕ) where
  pub byte_of_bytes : in_byte_area o ≡ true → Follows wide l w l w b b k (λ c. byte_acts c o v)
  byte_of_bytes t = follows_same k (λ c. entry_acts o v) (λ c. byte_acts c o v) (λ c _. sym (byte_acts_inside o v c t)) (follows_entry l w b k o v)

  -- a Byte of nothing, or of bytes where there can be none
  pub byte_of_none : o < 2 ^ 64 → in_byte_area o ≡ false → {x : Cell} → x ≡ cell_at (place_of o) → ((y : ℕ) → Follows wide l w l w b b k (λ c. cell_acts (place_of o) y x)) → Follows wide l w l w b b k (λ c. byte_acts c o v)
  byte_of_none z out e s d h =
      follows_same k (λ c. dword_acts (place_of o) (with_byte (read_dword d.core (place_of o)) (bit_and o 0x3) v))
      (λ c. byte_acts d.core o v) (λ c _. sym (byte_acts_outside o v d.core z out))
      (dword_follows k (place_of o) (with_byte (read_dword d.core (place_of o)) (bit_and o 0x3) v) e (s _)) d h
