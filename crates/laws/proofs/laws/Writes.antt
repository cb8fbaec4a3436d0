-- What one act leaves of a device, and the acts of a write by where it lies.
use Rattle.basics.proofs.Prelude.{◌≡◌, refl, sym, ap, ◌∙◌, Bool, true, false, List, [], ◌∷◌, ◌++◌, append-nil, ℕ, ◌+◌, ◌-◌, ◌^◌, ◌≤◌, ◌<◌, add-zero, arith, bit_and, set, byte_of, with_byte, with_half}
use Rattle.rules.specs.{Lines.Lines, Lines.Made, Lines.with_isr, Ring.Ring, Ring.ring_run}
use Rattle.rules.specs.Core.{Core, Stored, Move, Store, move, set_isr, store, set_route, set_vector, moved, line_turn, vectors_after, stored_by, stored_after, turns}
use Rattle.rules.specs.{Map.Cell, Map.bytes, Map.routes_at, Map.vectors_at, Map.in_byte_area, Map.cell_at, Access.read_dword, Access.entry_acts, Access.cell_acts, Access.dword_acts, Access.byte_acts}
use Rattle.rules.specs.Device.{Device, offers, acted}
use Rattle.laws.proofs.laws.{Maps.inside, Maps.Elsewhere, Maps.not_route, Maps.four_inside, Widths.low_place, Widths.aligned}

abbrev pub device_of : Lines → List ℕ → Stored → Ring → Device
device_of l vs s r = record { core = record { lines = l; vectors = vs; stored = s }; ring = r }

-- ---- one act
module _ (d : Device) where
  -- a move changes the lines, and the ring is offered what it makes
  pub acted_move : (m : Move) → acted d (move m ∷ [])
      ≡ device_of (moved d.core.vectors d.core.lines m).after d.core.vectors d.core.stored (ring_run d.ring (offers (moved d.core.vectors d.core.lines m).made)).after
  unfolding acted turns line_turn vectors_after stored_after
  acted_move m =
      let t = moved d.core.vectors d.core.lines m in
      ap (λ (ms : List Made). device_of t.after d.core.vectors d.core.stored (ring_run d.ring (offers ms)).after) (append-nil t.made)

  -- the other acts change one thing, and the ring stays
  pub acted_isr : (h : Bool) (v : ℕ) → acted d (set_isr h v ∷ []) ≡ device_of (with_isr d.core.lines (with_half h d.core.lines.isr v)) d.core.vectors d.core.stored d.ring
  unfolding acted turns line_turn vectors_after stored_after offers ring_run
  acted_isr h v = refl

  pub acted_store : (s : Store) → acted d (store s ∷ []) ≡ device_of d.core.lines d.core.vectors (stored_by d.core.stored s) d.ring
  unfolding acted turns line_turn vectors_after stored_after offers ring_run
  acted_store s = refl

  pub acted_vector : (n v : ℕ) → acted d (set_vector n v ∷ []) ≡ device_of d.core.lines (set d.core.vectors n v) d.core.stored d.ring
  unfolding acted turns line_turn vectors_after stored_after offers ring_run
  acted_vector n v = refl

-- ---- a Byte's acts, and a Dword's
module _ (o v : ℕ) where
  pub entry_acts_route : routes_at ≤ o → o < 0x140 → entry_acts o v ≡ store (set_route (o - routes_at) v) ∷ []
  unfolding entry_acts
  entry_acts_route h k = rw (inside 0x100 0x140 o h k)

  pub entry_acts_vector : vectors_at ≤ o → o < 0x240 → entry_acts o v ≡ set_vector (o - vectors_at) v ∷ []
  unfolding entry_acts
  entry_acts_vector h k = rw (not_route o h, inside 0x200 0x240 o h k)

  pub entry_acts_none : Elsewhere o → entry_acts o v ≡ []
  unfolding entry_acts
  entry_acts_none e = rw (e.routes, e.vectors)

  pub byte_acts_inside : (c : Core) → in_byte_area o ≡ true → byte_acts c o v ≡ entry_acts o v
  unfolding byte_acts
  byte_acts_inside c h = rw h

  pub byte_acts_outside : (c : Core) → o < 2 ^ 64 → in_byte_area o ≡ false
      → byte_acts c o v ≡ dword_acts (bit_and o 0xffff_ffff_ffff_fffc) (with_byte (read_dword c (bit_and o 0xffff_ffff_ffff_fffc)) (bit_and o 0x3) v)
  unfolding byte_acts
  byte_acts_outside c l h = rw (h, aligned o l, low_place o)

  pub dword_acts_of : {x : Cell} → x ≡ cell_at o → cell_acts o v x ≡ dword_acts o v
  unfolding dword_acts
  dword_acts_of e = ap (cell_acts o v) e

-- in the byte ranges a Dword is four Bytes by the Byte rule, low first, whatever core each of them meets
pub dword_acts_four : (o v : ℕ) (c : ℕ → Core) → cell_at o ≡ bytes
    → dword_acts o v ≡ byte_acts (c 0) o (byte_of v 0) ++ (byte_acts (c 1) (o + 1) (byte_of v 1) ++ (byte_acts (c 2) (o + 2) (byte_of v 2) ++ byte_acts (c 3) (o + 3) (byte_of v 3)))
unfolding cell_acts
dword_acts_four o v c e =
    let a : (k : ℕ) → k < 4 → byte_acts (c k) (o + k) (byte_of v k) ≡ entry_acts (o + k) (byte_of v k) = λ k l. byte_acts_inside (o + k) (byte_of v k) (c k) (four_inside o e k l) in
    sym (dword_acts_of o v (sym e)) ∙ rw (rw add-zero at (a 0 (omega arith)), a 1 (omega arith), a 2 (omega arith), a 3 (omega arith))
