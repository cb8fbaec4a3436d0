-- Acts, calls and histories keep a device well formed: registers of 64 bits, 64 route and 64 vector bytes, at most 16 waiting, the count up to its
-- stop. What a write is given needs no bound: a half takes 32 bits of it, and its bytes are below 256. Of acts by themselves a byte's must be a byte.
use Rattle.basics.proofs.Prelude.{◌≡◌, refl, ◌∙◌, Bool, true, false, List, [], ◌∷◌, ◌++◌, map, ℕ, zero, suc, ◌^◌, ◌<◌, ◌≤◌, arith, ltb, lit<, length, set, length-append, length-set, ltb-true, Bytes, on, inputs, only, put, without, with_half, test, put_lt, without_lt}
use Rattle.rules.specs.Lines.{Lines, Made, Turn, event, with_irr, with_mask, pending_in, served_in, serve, enter, leave, newly_unmasked, newly_masked, polled, raised, lowered, cleared, masked}
use Rattle.rules.specs.Ring.{capacity, stop, Event, Ring, offered, ring_step, ring_run}
use Rattle.rules.specs.Core.{Plain, htmsi_en, edge, pol, auto0, auto1, Stored, Core, plain, with_plain, vectors_after, stored_after, turn, turns, Move, poll, raise, lower, clear, set_mask, set_plain, set_route, Act, move, set_isr, store, set_vector, moved, line_turn}
use Rattle.rules.specs.{Device.Device, Device.WellFormed, Device.Call, Device.offers, Device.acts_of, Device.acted, Device.step, History.history}
use Rattle.rules.proofs.laws.{Rings.count_stops, Steps.drain_well}
use Rattle.histories.specs.Demands.{Each, as_event}
use Rattle.histories.proofs.laws.{Reach.StoresBytes, Reach.byte_acts_lem, Folds.fold_acts}
use Rattle.rules.specs.Device as call

-- ---- bytes

bytes_set : (l : List ℕ) (n v : ℕ) → v < 256 → Bytes l → Bytes (set l n v)
bytes_set [] n v h b i = b i
bytes_set (x ∷ l) zero v h b zero = h
bytes_set (x ∷ l) zero v h b (suc i) = b (suc i)
bytes_set (x ∷ l) (suc n) v h b zero = b 0
bytes_set (x ∷ l) (suc n) v h b (suc i) = bytes_set l n v h (λ k. b (suc k)) i

module _ {A : Type 0} (f : A → ℕ) where
  bytes_map_append : (xs ys : List A) → Bytes (map f xs) → Bytes (map f ys) → Bytes (map f (xs ++ ys))
  bytes_map_append [] ys b c i = c i
  bytes_map_append (x ∷ xs) ys b c zero = b 0
  bytes_map_append (x ∷ xs) ys b c (suc i) = bytes_map_append xs ys (λ k. b (suc k)) c i

-- the vectors of the events made are bytes
abbrev pub ByteEvents : List Made → Type 0
ByteEvents ms = Bytes (map (λ m. m.vector) ms)

events_append : (xs ys : List Made) → ByteEvents xs → ByteEvents ys → ByteEvents (xs ++ ys)
events_append = bytes_map_append (λ m. m.vector)

bytes_events : (vs : List ℕ) (o a : Bool) (ns : List ℕ) → Bytes vs → ByteEvents (map (event vs o a) ns)
bytes_events vs o a [] b i = lit< tt
bytes_events vs o a (n ∷ ns) b zero = b n
bytes_events vs o a (n ∷ ns) b (suc i) = bytes_events vs o a ns b i

-- ---- the lines

record WellLines (l : Lines) : Type 0 where
  mask : l.mask < 2 ^ 64
  irr : l.irr < 2 ^ 64
  isr : l.isr < 2 ^ 64

-- a turn of the lines: they are well after it, and it makes events of byte vectors
record WellTurn (t : Turn) : Type 0 where
  after : WellLines t.after
  made : ByteEvents t.made

pub with_half_lt : (h : Bool) (x v : ℕ) → x < 2 ^ 64 → with_half h x v < 2 ^ 64
with_half_lt true x v l = omega arith
with_half_lt false x v l = omega arith

module _ (vs : List ℕ) (b : Bytes vs) where
  serve_well : (o : Bool) (l : Lines) (ns : List ℕ) → WellLines l → WellTurn (serve vs o l ns)
  serve_well o l [] w = record { after = w; made = λ i. lit< tt }
  serve_well o l (n ∷ ns) w =
      record { after = record { mask = w.mask; irr = w.irr; isr = put_lt l.isr n }; made = bytes_events vs o true (n ∷ []) b }

  enter_well : (o : Bool) (f : ℕ → Bool) (l : Lines) → WellLines l → WellTurn (enter vs o f l)
  enter_well o f l w = serve_well o l (inputs (pending_in f l)) w

  leave_well : (o : Bool) (f : ℕ → Bool) (l : Lines) → WellLines l → WellTurn (leave vs o f l)
  leave_well o f l w = record {
    after = record { mask = w.mask; irr = w.irr; isr = without_lt l.isr f };
    made = bytes_events vs o false (inputs (served_in f l)) b;
  }

  move_well : (l : Lines) (m : Move) → WellLines l → WellTurn (moved vs l m)
  unfolding moved polled raised lowered cleared masked
  move_well l (poll n) w = enter_well false (only n) l w
  move_well l (raise n) w = enter_well false (only n) (with_irr l (put l.irr n)) (record { mask = w.mask; irr = put_lt l.irr n; isr = w.isr })
  move_well l (lower n) w =
      leave_well false (only n) (with_irr l (without l.irr (only n))) (record { mask = w.mask; irr = without_lt l.irr (only n); isr = w.isr })
  move_well l (clear x) w =
      leave_well true (on x) (with_irr l (without l.irr (on x))) (record { mask = w.mask; irr = without_lt l.irr (on x); isr = w.isr })
  move_well l (set_mask h v) w =
      let new = with_half h l.mask v in
      let masks = newly_masked l.mask new in
      let begun = enter vs true (newly_unmasked l.mask new) (with_mask l new) in
      let fresh : WellLines (with_mask l new) = record { mask = with_half_lt h l.mask v w.mask; irr = w.irr; isr = w.isr } in
      let one = enter_well true (newly_unmasked l.mask new) (with_mask l new) fresh in
      let two = leave_well true masks begun.after one.after in
      record { after = two.after; made = events_append begun.made (leave vs true masks begun.after).made one.made two.made }

-- ---- the core

record WellCore (c : Core) : Type 0 where
  lines : WellLines c.lines
  plains : (p : Plain) → plain c.stored p < 2 ^ 64
  route_bytes : Bytes c.stored.routes
  routes : length c.stored.routes ≡ 64
  vector_bytes : Bytes c.vectors
  vectors : length c.vectors ≡ 64

with_plain_lem : (s : Stored) (x : ℕ) → x < 2 ^ 64 → ((p : Plain) → plain s p < 2 ^ 64) → (p q : Plain) → plain (with_plain s p x) q < 2 ^ 64
with_plain_lem s x h w htmsi_en = elim [ htmsi_en ↦ h | edge ↦ w edge | pol ↦ w pol | auto0 ↦ w auto0 | auto1 ↦ w auto1 ]
with_plain_lem s x h w edge = elim [ htmsi_en ↦ w htmsi_en | edge ↦ h | pol ↦ w pol | auto0 ↦ w auto0 | auto1 ↦ w auto1 ]
with_plain_lem s x h w pol = elim [ htmsi_en ↦ w htmsi_en | edge ↦ w edge | pol ↦ h | auto0 ↦ w auto0 | auto1 ↦ w auto1 ]
with_plain_lem s x h w auto0 = elim [ htmsi_en ↦ w htmsi_en | edge ↦ w edge | pol ↦ w pol | auto0 ↦ h | auto1 ↦ w auto1 ]
with_plain_lem s x h w auto1 = elim [ htmsi_en ↦ w htmsi_en | edge ↦ w edge | pol ↦ w pol | auto0 ↦ w auto0 | auto1 ↦ h ]

with_plain_routes : (s : Stored) (p : Plain) (x : ℕ) → (with_plain s p x).routes ≡ s.routes
with_plain_routes s htmsi_en x = refl
with_plain_routes s edge x = refl
with_plain_routes s pol x = refl
with_plain_routes s auto0 x = refl
with_plain_routes s auto1 x = refl

-- other lines, and all else as it was
with_lines : (c : Core) {l : Lines} → WellCore c → WellLines l → WellCore (record { lines = l; vectors = c.vectors; stored = c.stored })
with_lines c w l = record {
  lines = l;
  plains = w.plains;
  route_bytes = w.route_bytes;
  routes = w.routes;
  vector_bytes = w.vector_bytes;
  vectors = w.vectors;
}

-- from a core that is well, to one that is well, by events of byte vectors
abbrev KeptWell : Core → List Made → Core → Type 0
KeptWell c ms d = WellCore c → WellCore d × ByteEvents ms

turn_well : (c : Core) (a : Act) → StoresBytes a → KeptWell c (turn c a).made (turn c a).after
unfolding line_turn vectors_after stored_after
turn_well c (move m) t w =
    let r = move_well c.vectors w.vector_bytes c.lines m w.lines in
    (with_lines c w r.after, r.made)
turn_well c (set_isr h v) t w =
    (with_lines c w (record { mask = w.lines.mask; irr = w.lines.irr; isr = with_half_lt h c.lines.isr v w.lines.isr }), λ i. lit< tt)
turn_well c (store (set_plain p h v)) t w =
    let s = c.stored in
    let x = with_half h (plain s p) v in
    let same = with_plain_routes s p x in (
      record {
        lines = w.lines;
        plains = with_plain_lem s x (with_half_lt h (plain s p) v (w.plains p)) w.plains p;
        route_bytes = λ i. rw same (w.route_bytes i);
        routes = rw same w.routes;
        vector_bytes = w.vector_bytes;
        vectors = w.vectors;
      },
      λ i. lit< tt,
    )
turn_well c (store (set_route n v)) t w =
    let rs = c.stored.routes in (
      record {
        lines = w.lines;
        plains = elim [ htmsi_en ↦ w.plains htmsi_en | edge ↦ w.plains edge | pol ↦ w.plains pol | auto0 ↦ w.plains auto0 | auto1 ↦ w.plains auto1 ];
        route_bytes = bytes_set rs n v t w.route_bytes;
        routes = length-set rs n v ∙ w.routes;
        vector_bytes = w.vector_bytes;
        vectors = w.vectors;
      },
      λ i. lit< tt,
    )
turn_well c (set_vector n v) t w =
    let vs = c.vectors in (
      record {
        lines = w.lines;
        plains = w.plains;
        route_bytes = w.route_bytes;
        routes = w.routes;
        vector_bytes = bytes_set vs n v t w.vector_bytes;
        vectors = length-set vs n v ∙ w.vectors;
      },
      λ i. lit< tt,
    )

turns_well : (c : Core) {xs : List Act} → Each StoresBytes xs → KeptWell c (turns c xs).made (turns c xs).after
turns_well = fold_acts KeptWell (λ c w. (w, λ i. lit< tt)) next StoresBytes turn_well
  where
    next : (c d e : Core) (xs ys : List Made) → KeptWell c xs d → KeptWell d ys e → KeptWell c (xs ++ ys) e
    next c d e xs ys f g w =
        let one = f w in
        let two = g one.0 in
        (two.0, events_append xs ys one.1 two.1)

-- ---- the ring

record WellRing (r : Ring) : Type 0 where
  event_bytes : Bytes (map (λ e. e.vector) r.waiting)
  waiting : length r.waiting ≤ capacity
  drops : r.drops ≤ stop

offered_well : (r : Ring) (e : Event) → e.vector < 256 → WellRing r → WellRing (offered r e)
unfolding offered
offered_well r e h w =
    let drops = count_stops r e w.drops in
    test (ltb (length r.waiting) capacity)
    (λ t. rw t (record {
      event_bytes = bytes_map_append (λ (x : Event). x.vector) r.waiting (e ∷ []) w.event_bytes (elim [ zero ↦ h | suc i ↦ lit< tt ]);
      waiting = simp length-append (omega (arith, ltb-true (length r.waiting) capacity t));
      drops = rw t at drops;
    }))
    (λ t. rw t (record { event_bytes = w.event_bytes; waiting = w.waiting; drops = rw t at drops }))

offers_well : (r : Ring) (ms : List Made) → ByteEvents ms → WellRing r → WellRing (ring_run r (offers ms)).after
unfolding offers ring_run ring_step
offers_well r [] b w = w
offers_well r (m ∷ ms) b w =
    let rest : ByteEvents ms = λ i. b (suc i) in
    test m.offered (λ t. rw t (offers_well (offered r (as_event m)) ms rest (offered_well r (as_event m) (b 0) w))) (λ t. rw t (offers_well r ms rest w))

-- ---- the device

core_of : (d : Device) → WellFormed d → WellCore d.core
core_of d w = record {
  lines = record { mask = w.mask; irr = w.irr; isr = w.isr };
  plains = w.plains;
  route_bytes = w.route_bytes;
  routes = w.routes;
  vector_bytes = w.vector_bytes;
  vectors = w.vectors;
}

ring_of : (d : Device) → WellFormed d → WellRing d.ring
ring_of d w = record { event_bytes = w.event_bytes; waiting = w.waiting; drops = w.drops }

device_of : (d : Device) → WellCore d.core → WellRing d.ring → WellFormed d
device_of d c r = record {
  mask = c.lines.mask;
  irr = c.lines.irr;
  isr = c.lines.isr;
  plains = c.plains;
  route_bytes = c.route_bytes;
  routes = c.routes;
  vector_bytes = c.vector_bytes;
  vectors = c.vectors;
  event_bytes = r.event_bytes;
  waiting = r.waiting;
  drops = r.drops;
}

pub acted_well : (d : Device) {xs : List Act} → Each StoresBytes xs → WellFormed d → WellFormed (acted d xs)
unfolding acted
acted_well d {xs} e w =
    let t = turns_well d.core e (core_of d w) in
    device_of (acted d xs) t.0 (offers_well d.ring (turns d.core xs).made t.1 (ring_of d w))

-- the events that a call makes have bytes for vectors
pub step_events : (d : Device) (c : Call) → WellFormed d → ByteEvents (step d c).made
unfolding step
step_events d c w = (turns_well d.core (byte_acts_lem d.core c) (core_of d w)).1

pub step_well : (d : Device) (c : Call) → WellFormed d → WellFormed (step d c).after
unfolding step ring_run ring_step
step_well d c w = go c (acted_well d (byte_acts_lem d.core c) w)
  where
    go : (c : Call) → WellFormed (acted d (acts_of d.core c)) → WellFormed (step d c).after
    go (call.level n b) a = a
    go (call.poll n) a = a
    go (call.read x o) a = a
    go (call.write x o v) a = a
    go (call.drain k) a = drain_well (acted d (acts_of d.core (call.drain k))) k a

pub history_well : (d : Device) (cs : List Call) → WellFormed d → WellFormed (history d cs).after
unfolding history
history_well d [] w = w
history_well d (c ∷ cs) w = history_well (step d c).after cs (step_well d c w)
