-- A state that shows a device after acts, and how many events were dropped: by what was put into it, and acts after acts.
use Rattle.basics.proofs.Prelude.{◌≡◌, refl, sym, ap, ap₂, subst⁻¹, ◌∙◌, false, List, [], ◌∷◌, ◌++◌, ℕ, ◌+◌, ◌*◌, ◌^◌, ◌<◌, ◌≤◌, add-one, arith, bit_and, length, set, byte_of, with_byte}
use Rattle.rules.specs.Ring.{dropped}
use Rattle.rules.specs.Core.{Core, CoreTurn, Act, Move, move, moved, line_turn, turns, store, set_route, set_vector}
use Rattle.rules.specs.{Map.in_byte_area, Access.read_dword, Access.dword_acts, Access.byte_acts, Device.Device, Device.offers, Device.acted, Device.lost}
use Rattle.rules.proofs.laws.{Acts.acted_none, Acts.acted_append, Steps.turns_one}
use Rattle.laws.proofs.laws.Losses.{losses, lost_acts, lost_acts_few, dword_short, byte_short, isr_quiet, store_quiet}
use Rattle.laws.proofs.laws.Writes.{byte_acts_outside, device_of, acted_move, acted_store, acted_vector}
use Rattle.device.specs.declared.state.{PchPicState.PchPicState}
use Rattle.device.specs.state.View.{lines_view, stored_view, ring_view, view, Well, Is}
use Rattle.port.specs.{declared.mask_and_clear.Moved.Moved, mask_and_clear.Moves.Moves, declared.write_cell.Written.Written, write_cell.Writes.Writes, write_cell.Writes.bytes_acts}
use Rattle.port.proofs.write_cell.Bytes.{bytes_short}

-- the same acts, said otherwise
pub writes_acts : (d : Device) {r : Written} {xs ys : List Act} → xs ≡ ys → Writes r d ys → Writes r d xs
writes_acts d {r} p w = subst⁻¹ (Writes r d) p w

-- acts that make no event drop none
pub writes_quiet : (d : Device) (s : PchPicState) (xs : List Act) → (turns d.core xs).made ≡ [] → Is s (acted d xs) → Writes (record { state = s; dropped = 0 }) d xs
unfolding offers dropped
writes_quiet d s xs e r = record { is = r; dropped = sym (ap (lost d.ring) e) }

-- acts, and then acts that rest on what these left: the drops add up
pub writes_then : (d : Device) {r t : Written} (xs : List Act) (ys : Core → List Act) → Writes r d xs → Writes t (view r.state) (ys (view r.state).core)
    → Writes (record { state = t.state; dropped = r.dropped + t.dropped }) d (xs ++ ys (turns d.core xs).after)
unfolding acted
writes_then d xs ys p q =
    let two = ys (turns d.core xs).after in
    record {
      is = record { well = q.is.well; shows = q.is.shows ∙ ap (λ (e : Device). acted e (ys e.core)) p.is.shows ∙ sym (acted_append d xs two) };
      dropped = ap₂ (λ (a b : ℕ). a + b) p.dropped (q.dropped ∙ ap (λ (e : Device). losses e (ys e.core)) p.is.shows) ∙ sym (lost_acts d xs two);
    }

-- so few are dropped that sums fit: at most 65 by each of four acts
few : (d : Device) (xs : List Act) (n : ℕ) {r : Written} → length xs ≤ n → Writes r d xs → r.dropped ≤ 65 * n
few d xs n h w = omega (arith, w.dropped, lost_acts_few d xs)

pub dword_few : (d : Device) (o v : ℕ) {r : Written} → Writes r d (dword_acts o v) → r.dropped ≤ 260
dword_few d o v w = few d (dword_acts o v) 4 (dword_short o v) w

pub byte_few : (d : Device) (o v : ℕ) {r : Written} → Writes r d (byte_acts d.core o v) → r.dropped ≤ 260
byte_few d o v w = few d (byte_acts d.core o v) 4 (byte_short d.core o v) w

pub bytes_few : (d : Device) (o v n : ℕ) {r : Written} → Writes r d (bytes_acts d.core o v n) → r.dropped ≤ 65 * (4 * n)
bytes_few d o v n w = few d (bytes_acts d.core o v n) (4 * n) (bytes_short d.core o v n) w

-- a Byte outside 0x100..0x39f: the Dword as read, with the byte replaced, is written
pub writes_outside : (d : Device) (o v old new : ℕ) {r : Written} → o < 2 ^ 64 → in_byte_area o ≡ false
    → old ≡ read_dword d.core (bit_and o 0xffff_ffff_ffff_fffc) → new ≡ with_byte old (bit_and o 0x3) v
    → Writes r d (dword_acts (bit_and o 0xffff_ffff_ffff_fffc) new) → Writes r d (byte_acts d.core o v)
writes_outside d o v old new l n p q w = writes_acts d (byte_acts_outside o v d.core l n ∙ rw (← p, ← q)) w

-- one byte more
pub writes_more : (d : Device) (o v n : ℕ) {r t : Written} → Writes r d (bytes_acts d.core o v n) → Writes t (view r.state) (byte_acts (view r.state).core (o + n) (byte_of v n))
    → Writes (record { state = t.state; dropped = r.dropped + t.dropped }) d (bytes_acts d.core o v (n + 1))
unfolding bytes_acts
writes_more d o v n p q = writes_acts d (ap (bytes_acts d.core o v) (add-one n)) (writes_then d (bytes_acts d.core o v n) (λ c. byte_acts c (o + n) (byte_of v n)) p q)

module _ (s : PchPicState) (w : Well s) where
  pub is_none : Is s (acted (view s) [])
  is_none = record { well = w; shows = sym (acted_none (view s)) }

  pub writes_none : Writes (record { state = s; dropped = 0 }) (view s) []
  unfolding turns
  writes_none = writes_quiet (view s) s [] refl is_none

  -- the engine's lines and ring
  pub writes_moved : (m : Moved) (x : Move) → Moves m (ring_view s.ring) (moved s.tables.htmsi_vector (lines_view s.lines) x)
      → Writes (record { state = record { lines = m.lines; stored = s.stored; tables = s.tables; ring = m.ring }; dropped = m.dropped }) (view s) (move x ∷ [])
  unfolding line_turn
  writes_moved m x r =
      record {
        is = record {
          well = record { ring = r.offers.well };
          shows = (λ i. device_of (r.lines i) s.tables.htmsi_vector (stored_view s.stored s.tables.route_entry) (r.offers.ring i)) ∙ sym (acted_move (view s) x);
        };
        dropped = r.offers.dropped ∙ ap (λ (t : CoreTurn). lost (ring_view s.ring) t.made) (sym (turns_one (view s).core (move x)));
      }

  -- a route byte, a vector byte
  pub is_route : (n v : ℕ) → Is (record { lines = s.lines; stored = s.stored; tables = record { route_entry = set s.tables.route_entry n v; htmsi_vector = s.tables.htmsi_vector }; ring = s.ring })
      (acted (view s) (store (set_route n v) ∷ []))
  is_route n v = record { well = record { ring = w.ring }; shows = sym (acted_store (view s) (set_route n v)) }

  pub is_vector : (n v : ℕ) → Is (record { lines = s.lines; stored = s.stored; tables = record { route_entry = s.tables.route_entry; htmsi_vector = set s.tables.htmsi_vector n v }; ring = s.ring })
      (acted (view s) (set_vector n v ∷ []))
  is_vector n v = record { well = record { ring = w.ring }; shows = sym (acted_vector (view s) n v) }

-- what the functions that write an entry and a register's half cite
pub ruleset entry_written = (is_none, is_route, is_vector)

pub ruleset half_written = (writes_none, writes_quiet, isr_quiet, store_quiet)
