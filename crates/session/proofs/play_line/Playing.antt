-- What each kind of line comes to: a refusal, or the call's device and its answer.
use Rattle.basics.proofs.Prelude.{◌≡◌, refl, sym, ap, subst, ◌∙◌, Bool, true, false, cond, List, [], ◌∷◌, ◌++◌, ℕ, zero, suc, ◌+◌, ◌*◌, ◌/◌, ◌<◌, ◌≤◌, le_refl, arith, eqb, length, take, drop, get_or, length-take, take-suc, take-length}
use Rattle.rules.specs.{Ring.Event, Ring.capacity, Ring.drawn, Ring.flag, Ring.pairs_of, Access.Width, Access.read_at, Access.write_acts}
use Rattle.rules.specs.{Device.Device, Device.Call, Device.level, Device.poll, Device.read, Device.write, Device.drain, Device.step, Device.acted, Lines.polled, Lines.levelled}
use Rattle.rules.proofs.laws.Steps.{with_lines, with_ring, level_device, level_value, poll_device, poll_value, drain_device, drain_drained, read_device, write_device}
use Rattle.calls.specs.Calls.{Tested, pass, input_call, width_test, address_test, access_call}
use Rattle.calls.proofs.laws.Outcomes.{input_passed, access_passed}
use Rattle.sessions.specs.Session.{space, plus, minus, equals, letter_d, letter_k, letter_o, digits, asks, session_base, session_size, vector_said, events_said, said, played_line}
use Rattle.device.specs.state.View.{ring_view}
use Rattle.port.specs.{declared.irq_level.Routed.Routed, declared.drain_output.Drained.Drained, irq_level.Moves.Answers, drain_output.Drains.Drains}
use Rattle.session.specs.{reply.Says.pair_said, reply.Says.pairs_said, play_line.Plays.Plays, play_line.Plays.routed_with, declared.play_line.Played.Played}
use Rattle.sessions.specs.Session as session

pub plays_as : {r : Played} {entry exit : List ℕ} {p q : session.Played} → Plays r entry exit p → p ≡ q → Plays r entry exit q
plays_as {r} {entry} {exit} h e = subst (Plays r entry exit) e h

-- ---- calls on an input

module _ (d : Device) (n : ℕ) where
  -- a call that was done
  passed : (c : Call) → n < 64 → record { after = (step d c).after; answer = said d c } ≡ played_line d (asks (input_call n c))
  passed c h = ap (λ (t : Tested Call). played_line d (asks t)) (sym (input_passed n c h))

  module _ (r : Routed) (h : n < 64) where
    pub level_routed : (b : Bool) → Answers r (levelled d.core.vectors d.core.lines n b) → routed_with d r ≡ played_line d (asks (input_call n (level n b)))
    unfolding said
    level_routed b a =
        (λ i. record {
          after = (ap (with_lines d) a.after ∙ sym (level_device d n b)) i;
          answer = vector_said ((a.gives ∙ sym (level_value d n b)) i);
        })
        ∙ passed (level n b) h

    pub poll_routed : Answers r (polled d.core.vectors d.core.lines n) → routed_with d r ≡ played_line d (asks (input_call n (poll n)))
    unfolding said
    poll_routed a =
        (λ i. record {
          after = (ap (with_lines d) a.after ∙ sym (poll_device d n)) i;
          answer = vector_said ((a.gives ∙ sym (poll_value d n)) i);
        })
        ∙ passed (poll n) h

-- ---- accesses

module _ (d : Device) (width address : ℕ) (f : Width → ℕ → Call) where
  access_done : (w : Width) (o : ℕ) → width_test width ≡ pass w → address_test session_base session_size address width ≡ pass o
      → record { after = (step d (f w o)).after; answer = said d (f w o) } ≡ played_line d (asks (access_call session_base session_size address width f))
  access_done w o e g = ap (λ (t : Tested Call). played_line d (asks t)) (sym (access_passed session_base session_size address width f w o e g))

pub read_done : (d : Device) (width address v : ℕ) (w : Width) (o : ℕ) → width_test width ≡ pass w → address_test session_base session_size address width ≡ pass o → v ≡ read_at d.core w o
    → record { after = d; answer = equals ∷ space ∷ digits 16 v } ≡ played_line d (asks (access_call session_base session_size address width read))
unfolding said
read_done d width address v w o e g q =
    (λ i. record { after = sym (read_device d w o) i; answer = equals ∷ space ∷ digits 16 (q i) }) ∙ access_done d width address read w o e g

pub write_done : (d : Device) (width address v : ℕ) (w : Width) (o : ℕ) → width_test width ≡ pass w → address_test session_base session_size address width ≡ pass o
    → record { after = acted d (write_acts d.core w o v); answer = letter_o ∷ letter_k ∷ [] } ≡ played_line d (asks (access_call session_base session_size address width (λ w o. write w o v)))
unfolding said
write_done d width address v w o e g =
    (λ i. record { after = sym (write_device d w o v) i; answer = letter_o ∷ letter_k ∷ [] }) ∙ access_done d width address (λ w o. write w o v) w o e g

-- ---- a drain

sign_said : (a : Bool) → cond (eqb (flag a) 0) minus plus ≡ cond a plus minus
sign_said true = refl
sign_said false = refl

events_append : (es fs : List Event) → events_said (es ++ fs) ≡ events_said es ++ events_said fs
events_append [] fs = refl
events_append (e ∷ es) fs = ap (λ (l : List ℕ). space ∷ cond e.asserted plus minus ∷ (digits 2 e.vector ++ l)) (events_append es fs)

-- the pair of an event, at its place
pair_at : (es : List Event) (rest : List ℕ) (n : ℕ) (z : Event) → n < length es
    → pair_said (get_or (pairs_of es ++ rest) (2 * n) 0) (get_or (pairs_of es ++ rest) (2 * n + 1) 0) ≡ events_said (get_or es n z ∷ [])
pair_at [] rest n z h = absurd (omega arith)
pair_at (e ∷ es) rest zero z h = ap (λ (s : ℕ). space ∷ s ∷ digits 2 e.vector) (sign_said e.asserted)
pair_at (e ∷ es) rest (suc n) z h =
    let one : 2 * suc n ≡ suc (suc (2 * n)) = omega arith in
    let two : 2 * suc n + 1 ≡ suc (suc (2 * n + 1)) = omega arith in
    rw (two, one) (pair_at es rest n z (omega arith))

none_event : Event
none_event = record { vector = 0; asserted = false }

pairs_events : (es : List Event) (rest : List ℕ) (n : ℕ) → n ≤ length es → pairs_said n (pairs_of es ++ rest) ≡ events_said (take n es)
unfolding pairs_said
pairs_events es rest zero h = refl
pairs_events es rest (suc n) h =
    (λ i. pairs_events es rest n (omega arith) i ++ pair_at es rest n none_event (omega arith) i)
    ∙ sym (events_append (take n es) (get_or es n none_event ∷ [])) ∙ ap events_said (sym (take-suc es n none_event (omega arith)))

-- a drain into 32 bytes
module _ (d : Device) (r : Drained) (entry exit : List ℕ) (h : length entry ≡ 32) (drains : Drains r d.ring entry exit) where
  pub drained_few : r.count ≤ 16
  unfolding drawn
  drained_few = omega (arith, drains.count, length-take (length entry / 2) d.ring.waiting)

  drained : length entry / 2 ≡ capacity
  drained = omega arith

  pub drain_done : record { after = with_ring d (ring_view r.ring); answer = letter_d ∷ pairs_said r.count exit } ≡ played_line d (asks (pass (drain capacity)))
  unfolding said
  drain_done =
      let es = (drawn d.ring (length entry / 2)).drained in
      let rest = drop (2 * r.count) entry in
      let k : pairs_said r.count exit ≡ events_said es =
      (λ i. pairs_said (drains.count i) (drains.pairs i)) ∙ pairs_events es rest (length es) (le_refl (length es)) ∙ ap events_said (take-length es) in
      (λ i. record {
        after = (ap (with_ring d) (drains.ring ∙ ap (λ (n : ℕ). (drawn d.ring n).after) drained) ∙ sym (drain_device d capacity)) i;
        answer = letter_d ∷ (k ∙ ap events_said (ap (λ (n : ℕ). (drawn d.ring n).drained) drained ∙ sym (drain_drained d capacity))) i;
      })
