-- One call of the device, in terms of the lines or of the ring alone: a level or poll call moves the lines and returns its event, a drain draws from the ring, a read changes nothing.
use Rattle.basics.proofs.Prelude.{◌≡◌, refl, ap, ◌∙◌, Bool, true, false, List, [], ◌∷◌, map, append-nil, ℕ, zero, suc, arith, drop, length-drop, Bytes, inputs, only, put, without}
use Rattle.rules.specs.Lines.{Lines, Made, with_irr, event, serve, enter, leave, pending_in, served_in, polled, raised, lowered}
use Rattle.rules.specs.Ring.{Event, RingAct, drawn, ring_step, ring_run}
use Rattle.rules.specs.Core.{Core, Act, move, Move, poll, raise, lower, CoreTurn, turn, turns, line_turn, moved, vectors_after, stored_after}
use Rattle.rules.specs.Access.{Width, write_acts}
use Rattle.rules.specs.Device.{Device, WellFormed, level, read, write, drain, acts_of, offers, acted, step, value, returned}
use Rattle.rules.proofs.laws.Acts.{acted_none, step_acted}
use Rattle.rules.specs.Device as device
pub use Rattle.rules.specs.Lines.{levelled}
pub use Rattle.rules.specs.Device.{with_lines, with_ring}

-- one act
pub turns_one : (c : Core) (a : Act) → turns c (a ∷ []) ≡ turn c a
unfolding turns
turns_one c a = ap (λ (ms : List Made). record { after = (turn c a).after; made = ms }) (append-nil (turn c a).made)

pub acted_one : (d : Device) (a : Act) → acted d (a ∷ []) ≡ record { core = (turn d.core a).after; ring = (ring_run d.ring (offers (turn d.core a).made)).after }
unfolding acted
acted_one d a = ap (λ (t : CoreTurn). record { core = t.after; ring = (ring_run d.ring (offers t.made)).after }) (turns_one d.core a)

-- ---- what is returned is not offered

serve_offers : (vs : List ℕ) (l : Lines) (ns : List ℕ) → offers (serve vs false l ns).made ≡ []
unfolding offers
serve_offers vs l [] = refl
serve_offers vs l (n ∷ ns) = refl

enter_offers : (vs : List ℕ) (f : ℕ → Bool) (l : Lines) → offers (enter vs false f l).made ≡ []
enter_offers vs f l = serve_offers vs l (inputs (pending_in f l))

deasserts_offers : (vs ns : List ℕ) → offers (map (event vs false false) ns) ≡ []
unfolding offers
deasserts_offers vs [] = refl
deasserts_offers vs (n ∷ ns) = deasserts_offers vs ns

leave_offers : (vs : List ℕ) (f : ℕ → Bool) (l : Lines) → offers (leave vs false f l).made ≡ []
leave_offers vs f l = deasserts_offers vs (inputs (served_in f l))

-- ---- moves that return their event

levelled_offers : (vs : List ℕ) (l : Lines) (n : ℕ) (b : Bool) → offers (levelled vs l n b).made ≡ []
unfolding raised lowered polled
levelled_offers vs l n true = enter_offers vs (only n) (with_irr l (put l.irr n))
levelled_offers vs l n false = leave_offers vs (only n) (with_irr l (without l.irr (only n)))

polled_offers : (vs : List ℕ) (l : Lines) (n : ℕ) → offers (polled vs l n).made ≡ []
unfolding polled
polled_offers vs l n = enter_offers vs (only n) l

-- a call of one move that offers nothing
module _ (d : Device) (m : Move) (none_offered : offers (moved d.core.vectors d.core.lines m).made ≡ []) where
  pub moved_device : acted d (move m ∷ []) ≡ with_lines d (moved d.core.vectors d.core.lines m).after
  unfolding line_turn vectors_after stored_after ring_run
  moved_device = acted_one d (move m) ∙ ap (λ (os : List RingAct). with_ring (with_lines d (moved d.core.vectors d.core.lines m).after) (ring_run d.ring os).after) none_offered

  pub moved_made : (turns d.core (move m ∷ [])).made ≡ (moved d.core.vectors d.core.lines m).made
  unfolding line_turn
  moved_made = ap (λ (t : CoreTurn). t.made) (turns_one d.core (move m))

module _ (d : Device) (n : ℕ) where
  pub level_device : (b : Bool) → (step d (level n b)).after ≡ with_lines d (levelled d.core.vectors d.core.lines n b).after
  unfolding acts_of moved
  level_device true = step_acted d (level n true) refl ∙ moved_device d (raise n) (levelled_offers d.core.vectors d.core.lines n true)
  level_device false = step_acted d (level n false) refl ∙ moved_device d (lower n) (levelled_offers d.core.vectors d.core.lines n false)

  pub level_value : (b : Bool) → value d (level n b) ≡ returned (levelled d.core.vectors d.core.lines n b).made
  unfolding value step acts_of moved
  level_value true = ap returned (moved_made d (raise n) (levelled_offers d.core.vectors d.core.lines n true))
  level_value false = ap returned (moved_made d (lower n) (levelled_offers d.core.vectors d.core.lines n false))

  pub level_offers : (b : Bool) → offers (step d (level n b)).made ≡ []
  unfolding step acts_of moved
  level_offers true =
      let none = levelled_offers d.core.vectors d.core.lines n true in
      ap offers (moved_made d (raise n) none) ∙ none
  level_offers false =
      let none = levelled_offers d.core.vectors d.core.lines n false in
      ap offers (moved_made d (lower n) none) ∙ none

  pub poll_device : (step d (device.poll n)).after ≡ with_lines d (polled d.core.vectors d.core.lines n).after
  unfolding acts_of moved
  poll_device = step_acted d (device.poll n) refl ∙ moved_device d (poll n) (polled_offers d.core.vectors d.core.lines n)

  pub poll_value : value d (device.poll n) ≡ returned (polled d.core.vectors d.core.lines n).made
  unfolding value step acts_of moved
  poll_value = ap returned (moved_made d (poll n) (polled_offers d.core.vectors d.core.lines n))

  pub poll_offers : offers (step d (device.poll n)).made ≡ []
  unfolding step acts_of moved
  poll_offers =
      let none = polled_offers d.core.vectors d.core.lines n in
      ap offers (moved_made d (poll n) none) ∙ none

-- ---- the others

pub drain_device : (d : Device) (k : ℕ) → (step d (drain k)).after ≡ with_ring d (drawn d.ring k).after
unfolding step acts_of acted turns offers ring_run ring_step
drain_device d k = refl

pub drain_drained : (d : Device) (k : ℕ) → (step d (drain k)).drained ≡ (drawn d.ring k).drained
unfolding step acts_of acted turns offers ring_run ring_step
drain_drained d k = append-nil (drawn d.ring k).drained

-- and leaves it well formed: fewer wait, and all else is as it was
bytes_drop : {A : Type 0} (f : A → ℕ) (k : ℕ) (xs : List A) → Bytes (map f xs) → Bytes (map f (drop k xs))
bytes_drop f zero xs b = b
bytes_drop f (suc k) [] b = b
bytes_drop f (suc k) (x ∷ xs) b = bytes_drop f k xs (λ i. b (suc i))

pub drain_well : (d : Device) (k : ℕ) → WellFormed d → WellFormed (with_ring d (drawn d.ring k).after)
unfolding drawn
drain_well d k w = record {
  mask = w.mask;
  irr = w.irr;
  isr = w.isr;
  plains = w.plains;
  route_bytes = w.route_bytes;
  routes = w.routes;
  vector_bytes = w.vector_bytes;
  vectors = w.vectors;
  event_bytes = bytes_drop (λ (e : Event). e.vector) k d.ring.waiting w.event_bytes;
  waiting = simp length-drop (omega (arith, w.waiting));
  drops = w.drops;
}

pub read_device : (d : Device) (w : Width) (o : ℕ) → (step d (read w o)).after ≡ d
unfolding acts_of
read_device d w o = step_acted d (read w o) refl ∙ acted_none d

pub write_device : (d : Device) (w : Width) (o v : ℕ) → (step d (write w o v)).after ≡ acted d (write_acts d.core w o v)
unfolding acts_of
write_device d w o v = step_acted d (write w o v) refl
