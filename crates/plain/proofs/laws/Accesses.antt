-- Reads and writes of every width: the plain engine reads what the ported one reads, and a write keeps both side by side.
use Rattle.basics.proofs.Prelude.{◌≡◌, refl, sym, ap, ◌∙◌, Bool, true, false, cond, not, ◌&&◌, List, [], ◌∷◌, ◌++◌, append-nil, ℕ, zero, suc, ◌+◌, ◌-◌, ◌*◌, ◌%◌, ◌^◌, ◌<◌, get_or, set, number_of, byte_of, with_byte, on, number_with, inputs, only, put, without, half, with_half, as_half, test, is_number, register_ext, put_lt, without_lt}
use Rattle.histories.proofs.laws.WellFormed.{with_half_lt}
use Rattle.rules.specs.Lines.{Lines, with_irr, with_mask, serve, enter, leave, pending_in, polled, raised, lowered, cleared, masked, newly_unmasked, newly_masked}
use Rattle.rules.specs.Ring.{ring_run, dropped}
use Rattle.rules.specs.Core.{Core, Plain, Stored, plain, with_plain, with_routes, moved, line_turn, vectors_after, stored_after, turn, turns, Act, Move, move, set_isr, store, set_vector, set_plain, set_route, poll, raise, lower, clear, set_mask}
use Rattle.rules.specs.Map.{Register, Cell, cell_at, routes_at, vectors_at, in_routes, in_vectors, in_byte_area}
use Rattle.rules.specs.Access.{Width, byte, word, dword, qword, register_acts, entry_acts, cell_acts, dword_acts, byte_acts, write_acts}
use Rattle.rules.specs.Device.{acted}
use Rattle.plain.specs.Machine.{Machine}
use Rattle.plain.specs.Plain.{Engine, with_stored, with_vectors, number_below, number, value_of, entry, read_cell, read_dword, read_byte, read_at, write_half, write_entry, write_cell, write_dword, write_byte, write_at}
use Rattle.plain.specs.Sequence.{notes_of}
use Rattle.plain.proofs.laws.{Machines.one_of, Machines.cleared_steps, Machines.served_steps, Queues.tail_of, Queues.ring_after, Queues.lost_of}
use Rattle.plain.proofs.laws.Same.{Run, Same, by_run, acting, acting_append, acting_none, acting_one, acting_move, acting_isr, turn_offers, same_mask}
use Rattle.rules.specs.Map as map
use Rattle.rules.specs.Access as access
use Rattle.rules.specs.Device as device

-- ---- registers of 64 bits

pub record Sized (l : Lines) : Type 0 where
  pub mask : l.mask < 2 ^ 64
  pub irr : l.irr < 2 ^ 64
  pub isr : l.isr < 2 ^ 64

serve_sized : (vs : List ℕ) (o : Bool) (l : Lines) (ns : List ℕ) → Sized l → Sized (serve vs o l ns).after
serve_sized vs o l [] s = s
serve_sized vs o l (n ∷ ns) s = record { mask = s.mask; irr = s.irr; isr = put_lt l.isr n }

enter_sized : (vs : List ℕ) (o : Bool) (f : ℕ → Bool) (l : Lines) → Sized l → Sized (enter vs o f l).after
enter_sized vs o f l s = serve_sized vs o l (inputs (pending_in f l)) s

leave_sized : (vs : List ℕ) (o : Bool) (f : ℕ → Bool) (l : Lines) → Sized l → Sized (leave vs o f l).after
leave_sized vs o f l s = record { mask = s.mask; irr = s.irr; isr = without_lt l.isr f }

move_sized : (vs : List ℕ) (l : Lines) (m : Move) → Sized l → Sized (moved vs l m).after
unfolding moved polled raised lowered cleared masked
move_sized vs l (poll n) s = enter_sized vs false (only n) l s
move_sized vs l (raise n) s = enter_sized vs false (only n) (with_irr l (put l.irr n)) (record { mask = s.mask; irr = put_lt l.irr n; isr = s.isr })
move_sized vs l (lower n) s =
    leave_sized vs false (only n) (with_irr l (without l.irr (only n))) (record { mask = s.mask; irr = without_lt l.irr (only n); isr = s.isr })
move_sized vs l (clear b) s =
    leave_sized vs true (on b) (with_irr l (without l.irr (on b))) (record { mask = s.mask; irr = without_lt l.irr (on b); isr = s.isr })
move_sized vs l (set_mask h v) s =
    let new = with_half h l.mask v in
    let one = enter_sized vs true (newly_unmasked l.mask new) (with_mask l new) (record { mask = with_half_lt h l.mask v s.mask; irr = s.irr; isr = s.isr }) in
    leave_sized vs true (newly_masked l.mask new) _ one

turn_sized : (c : Core) (a : Act) → Sized c.lines → Sized (turn c a).after.lines
unfolding line_turn
turn_sized c (move m) s = move_sized c.vectors c.lines m s
turn_sized c (set_isr h v) s = record { mask = s.mask; irr = s.irr; isr = with_half_lt h c.lines.isr v s.isr }
turn_sized c (store x) s = s
turn_sized c (set_vector n v) s = s

turns_sized : (c : Core) (xs : List Act) → Sized c.lines → Sized (turns c xs).after.lines
unfolding turns
turns_sized c [] s = s
turns_sized c (a ∷ xs) s = turns_sized (turn c a).after xs (turn_sized c a s)

abbrev pub SizedRun : Run → Type 0
SizedRun r = Sized r.device.core.lines

pub acting_sized : (r : Run) (xs : List Act) → SizedRun r → SizedRun (acting r xs)
unfolding acted
acting_sized r xs s = turns_sized r.device.core xs s

-- ---- reading

pub number_is : (k : ℕ) (f : ℕ → Bool) → number_below k f ≡ number_with k f
unfolding number_below number_with
number_is zero f = refl
number_is (suc k) f = ap (λ x. x + cond (f k) (2 ^ k) 0) (number_is k f)

module _ (e : Engine) (r : Run) (x : Same e r) (s : SizedRun r) where
  abbrev c : Core
  c = r.device.core

  register_read : (y : ℕ) (f : Machine → Bool) → y < 2 ^ 64 → ((n : ℕ) → n < 64 → f (one_of c.lines n) ≡ on y n) → number (λ n. f (e.machines n)) ≡ y
  register_read y f b g = number_is 64 _ ∙ sym (is_number 64 y (λ n. f (e.machines n)) b (λ i k. sym (ap f (x.machine i k) ∙ g i k)))

  pub mask_read : number (λ n. (e.machines n).masked) ≡ c.lines.mask
  mask_read = register_read c.lines.mask (λ m. m.masked) s.mask (λ n b. refl)

  pub irr_read : number (λ n. (e.machines n).latched) ≡ c.lines.irr
  irr_read = register_read c.lines.irr (λ m. m.latched) s.irr (λ n b. refl)

  pub isr_read : number (λ n. (e.machines n).in_service) ≡ c.lines.isr
  isr_read = register_read c.lines.isr (λ m. m.in_service) s.isr (λ n b. refl)

  value_same : (y : Register) → value_of e y ≡ access.value_of c y
  unfolding value_of access.value_of without
  value_same map.id = refl
  value_same map.mask = mask_read
  value_same map.clear = refl
  value_same map.irr = irr_read
  value_same map.isr =
      number_is 64 _ ∙ register_ext _ _ (λ i b. ap (λ (m : Machine). m.in_service && not m.masked) (x.machine i b))
  value_same (map.plain p) = ap (λ (z : Stored). plain z p) x.stored

  entry_same : (o : ℕ) → entry e o ≡ access.entry c o
  unfolding entry access.entry
  entry_same o t = cond (in_routes o) (get_or (x.stored t).routes (o - routes_at) 0) (cond (in_vectors o) (get_or (x.vectors t) (o - vectors_at) 0) 0)

  cell_same : (o : ℕ) (y : Cell) → read_cell e o y ≡ access.read_cell c o y
  unfolding read_cell access.read_cell
  cell_same o (map.half_of y h) = ap (half h) (value_same y)
  cell_same o map.bytes = λ t. number_of (entry_same o t ∷ entry_same (o + 1) t ∷ entry_same (o + 2) t ∷ entry_same (o + 3) t ∷ [])
  cell_same o map.nothing = refl

  dword_same : (o : ℕ) → read_dword e o ≡ access.read_dword c o
  unfolding read_dword access.read_dword
  dword_same o = cell_same o (cell_at o)

  byte_same : (o : ℕ) → read_byte e o ≡ access.read_byte c o
  unfolding read_byte access.read_byte
  byte_same o t = cond (in_byte_area o) (entry_same o t) (byte_of (dword_same (o - o % 4) t) (o % 4))

  pub read_same : (w : Width) (o : ℕ) → read_at e w o ≡ access.read_at c w o
  unfolding read_at access.read_at
  read_same byte o = byte_same o
  read_same word o = λ t. byte_same o t + 2 ^ 8 * byte_same (o + 1) t
  read_same dword o = dword_same o
  read_same qword o = λ t. dword_same o t + 2 ^ 32 * dword_same (o + 4) t

-- ---- writing

-- an act that makes nothing
abbrev with_core : Run → Core → Run
with_core r c = record { device = record { core = c; ring = r.device.ring }; call = r.call; notes = r.notes; lost = r.lost; brought = r.brought }

quietly : (r : Run) (a : Act) → (turn r.device.core a).made ≡ [] → acting r (a ∷ []) ≡ with_core r (turn r.device.core a).after
unfolding device.offers ring_run dropped notes_of
quietly r a e =
    acting_one r a
    ∙ (λ t. record {
      device = record { core = (turn r.device.core a).after; ring = ring_after r.device.ring (e t) };
      call = r.call;
      notes = r.notes ++ notes_of r.call r.device.ring (e t);
      lost = r.lost ++ lost_of r.device.ring (e t);
      brought = r.brought;
    })
    ∙ (λ t. record {
      device = record { core = (turn r.device.core a).after; ring = r.device.ring };
      call = r.call;
      notes = append-nil r.notes t;
      lost = append-nil r.lost t;
      brought = r.brought;
    })

-- something stored
module _ (e : Engine) (r : Run) (x : Same e r) where
  same_none : Same e (acting r [])
  same_none = by_run e (acting_none r) x

  same_plain : (p : Plain) (h : Bool) (v : ℕ) → Same (write_half e (map.plain p) h v) (acting r (store (set_plain p h v) ∷ []))
  unfolding write_half line_turn vectors_after stored_after
  same_plain p h v = by_run _ (quietly r (store (set_plain p h v)) refl) (record {
    machine = x.machine;
    vectors = x.vectors;
    stored = ap (λ (s : Stored). with_plain s p (with_half h (plain s p) v)) x.stored;
    call = x.call;
    tail = tail_of e _ refl refl x.tail;
  })

  same_route : (n v : ℕ) → Same (with_stored e (with_routes e.stored (set e.stored.routes n v))) (acting r (store (set_route n v) ∷ []))
  unfolding line_turn vectors_after stored_after
  same_route n v = by_run _ (quietly r (store (set_route n v)) refl) (record {
    machine = x.machine;
    vectors = x.vectors;
    stored = ap (λ (s : Stored). with_routes s (set s.routes n v)) x.stored;
    call = x.call;
    tail = tail_of e _ refl refl x.tail;
  })

  same_vector : (n v : ℕ) → Same (with_vectors e (set e.vectors n v)) (acting r (set_vector n v ∷ []))
  unfolding line_turn vectors_after stored_after
  same_vector n v = by_run _ (quietly r (set_vector n v) refl) (record {
    machine = x.machine;
    vectors = ap (λ (vs : List ℕ). set vs n v) x.vectors;
    stored = x.stored;
    call = x.call;
    tail = tail_of e _ refl refl x.tail;
  })

  same_half : (y : Register) (h : Bool) (v : ℕ) → Same (write_half e y h v) (acting r (register_acts y h v))
  unfolding write_half moved
  same_half map.id h v = same_none
  same_half map.mask h v = same_mask e r h v x
  same_half map.clear h v =
      by_run _ (acting_move r (clear (as_half h v))) (turn_offers e r _ _ x (cleared_steps h v r.device.core.lines r.device.core.vectors))
  same_half map.irr h v = same_none
  same_half map.isr h v = by_run _ (acting_isr r h v) (turn_offers e r _ _ x (served_steps h v r.device.core.lines r.device.core.vectors))
  same_half (map.plain p) h v = same_plain p h v

  same_entry : (o v : ℕ) → Same (write_entry e o v) (acting r (entry_acts o v))
  unfolding write_entry entry_acts
  same_entry o v =
      test (in_routes o) (λ t. rw t (same_route (o - routes_at) v))
      (λ t. rw t (test (in_vectors o) (λ u. rw u (same_vector (o - vectors_at) v)) (λ u. rw u same_none)))

same_cell : (e : Engine) (r : Run) → Same e r → (o v : ℕ) (y : Cell) → Same (write_cell e o v y) (acting r (cell_acts o v y))
unfolding write_cell cell_acts
same_cell e r x o v (map.half_of y h) = same_half e r x y h v
same_cell e r x o v map.bytes =
    let b0 = byte_of v 0 in
    let b1 = byte_of v 1 in
    let b2 = byte_of v 2 in
    let b3 = byte_of v 3 in
    let r0 = acting r (entry_acts o b0) in
    let r1 = acting r0 (entry_acts (o + 1) b1) in
    let r2 = acting r1 (entry_acts (o + 2) b2) in
    let x0 = same_entry e r x o b0 in
    let x1 = same_entry _ r0 x0 (o + 1) b1 in
    let x2 = same_entry _ r1 x1 (o + 2) b2 in
    by_run _ (
    acting_append r (entry_acts o b0) (entry_acts (o + 1) b1 ++ (entry_acts (o + 2) b2 ++ entry_acts (o + 3) b3))
    ∙ acting_append r0 (entry_acts (o + 1) b1) (entry_acts (o + 2) b2 ++ entry_acts (o + 3) b3)
    ∙ acting_append r1 (entry_acts (o + 2) b2) (entry_acts (o + 3) b3)
    ) (same_entry _ r2 x2 (o + 3) b3)
same_cell e r x o v map.nothing = same_none e r x

same_dword : (e : Engine) (r : Run) → Same e r → (o v : ℕ) → Same (write_dword e o v) (acting r (dword_acts o v))
unfolding write_dword dword_acts
same_dword e r x o v = same_cell e r x o v (cell_at o)

same_byte : (e : Engine) (r : Run) → Same e r → SizedRun r → (o v : ℕ) → Same (write_byte e o v) (acting r (byte_acts r.device.core o v))
unfolding write_byte byte_acts
same_byte e r x s o v =
    test (in_byte_area o) (λ t. rw t (same_entry e r x o v))
    (λ t. rw (t, dword_same e r x s (o - o % 4)) (same_dword e r x (o - o % 4) (with_byte (access.read_dword r.device.core (o - o % 4)) (o % 4) v)))

pub same_write : (e : Engine) (r : Run) → Same e r → SizedRun r → (w : Width) (o v : ℕ) → Same (write_at e w o v) (acting r (write_acts r.device.core w o v))
unfolding write_at write_acts acted
same_write e r x s byte o v = same_byte e r x s o (byte_of v 0)
same_write e r x s word o v =
    let xs = byte_acts r.device.core o (byte_of v 0) in
    let one = same_byte e r x s o (byte_of v 0) in
    let two = same_byte _ (acting r xs) one (acting_sized r xs s) (o + 1) (byte_of v 1) in
    by_run _ (acting_append r xs (byte_acts (turns r.device.core xs).after (o + 1) (byte_of v 1))) two
same_write e r x s dword o v = same_dword e r x o (half false v)
same_write e r x s qword o v =
    let xs = dword_acts o (half false v) in
    let two = same_dword _ (acting r xs) (same_dword e r x o (half false v)) (o + 4) (half true v) in
    by_run _ (acting_append r xs (dword_acts (o + 4) (half true v))) two
