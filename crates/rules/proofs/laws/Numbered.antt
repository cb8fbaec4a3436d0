-- The numbers of events beside the device: they stay in step with its ring, whatever is made and drained.
use Rattle.basics.proofs.Prelude.{◌≡◌, refl, sym, ap, ◌∙◌, true, false, List, [], ◌∷◌, ◌++◌, ℕ, zero, suc, ◌+◌, ◌-◌, ◌^◌, ◌<◌, arith, ltb, lit<, length, drop, get_or, length-append, length-drop, get_or-drop, test}
use Rattle.rules.specs.{Lines.Made, Ring.capacity, Ring.Event, Ring.Ring, Ring.offered, Ring.drawn, Ring.ring_step, Ring.ring_run}
use Rattle.rules.specs.{Device.Device, Device.Call, Device.level, Device.poll, Device.read, Device.write, Device.drain, Device.offers, Device.acted, Device.acts_of, Device.step, Core.turns}
use Rattle.rules.specs.Access.{Width}
use Rattle.rules.specs.Numbering.{Numbers, WellNumbered, following, takes, takes_all, room_of, fewer, numbers_after}

-- numbers of 16 bits, n of them waiting: what WellNumbered says of a device's ring
pub record Fits (s : Numbers) (n : ℕ) : Type 0 where
  pub next : s.next < 2 ^ 16
  pub each : (i : ℕ) → get_or s.waiting i 0 < 2 ^ 16
  pub waiting : length s.waiting ≡ n

pub fits : {d : Device} {s : Numbers} → WellNumbered d s → Fits s (length d.ring.waiting)
fits v = record { next = v.next; each = v.each; waiting = v.waiting }

pub fitting : {d : Device} {s : Numbers} → Fits s (length d.ring.waiting) → WellNumbered d s
fitting v = record { next = v.next; each = v.each; waiting = v.waiting }

-- a device with the same ring
pub same_ring : {d e : Device} {s : Numbers} → d.ring ≡ e.ring → WellNumbered d s → WellNumbered e s
same_ring {d} {e} {s} h v = record { next = v.next; each = v.each; waiting = v.waiting ∙ ap (λ (r : Ring). length r.waiting) h }

-- an event more
each_append : (ns : List ℕ) (n : ℕ) → n < 2 ^ 16 → ((i : ℕ) → get_or ns i 0 < 2 ^ 16) → (i : ℕ) → get_or (ns ++ (n ∷ [])) i 0 < 2 ^ 16
each_append [] n h e zero = h
each_append [] n h e (suc i) = lit< tt
each_append (m ∷ ns) n h e zero = e 0
each_append (m ∷ ns) n h e (suc i) = each_append ns n h (λ j. e (suc j)) i

following_small : (n : ℕ) → following n < 2 ^ 16
following_small n = omega arith

-- returned: none waits with its number
pub takes_returned : {s : Numbers} {n : ℕ} → Fits s n → Fits (takes s false) n
takes_returned {s} v = record { next = following_small s.next; each = v.each; waiting = v.waiting }

-- offered: as many wait as in the ring
pub takes_offered : (r : Ring) (e : Event) {s : Numbers} → Fits s (length r.waiting) → Fits (takes s true) (length (offered r e).waiting)
unfolding offered
takes_offered r e {s} v =
    let same : length s.waiting ≡ length r.waiting = v.waiting in
    test (ltb (length r.waiting) capacity)
    (λ t. rw (same, t) (record {
      next = following_small s.next;
      each = each_append s.waiting s.next v.next v.each;
      waiting = length-append s.waiting (s.next ∷ []) ∙ ap (λ n. n + 1) same ∙ sym (length-append r.waiting (e ∷ []));
    }))
    (λ t. rw (same, t) (record { next = following_small s.next; each = v.each; waiting = same }))

-- events, in the order of making
pub takes_append : (s : Numbers) (ms ns : List Made) → takes_all s (ms ++ ns) ≡ takes_all (takes_all s ms) ns
unfolding takes_all
takes_append s [] ns = refl
takes_append s (m ∷ ms) ns = takes_append (takes s m.offered) ms ns

abbrev pub event_of : Made → Event
event_of m = record { vector = m.vector; asserted = m.asserted }

pub takes_fit : (r : Ring) (s : Numbers) (ms : List Made) → Fits s (length r.waiting) → Fits (takes_all s ms) (length (ring_run r (offers ms)).after.waiting)
unfolding takes_all offers ring_run ring_step
takes_fit r s [] v = v
takes_fit r s (m ∷ ms) v =
    test m.offered
    (λ t. rw t (takes_fit (offered r (event_of m)) (takes s true) ms (takes_offered r (event_of m) v)))
    (λ t. rw t (takes_fit r (takes s false) ms (takes_returned v)))

-- a drain
each_drop : (k : ℕ) (ns : List ℕ) → ((i : ℕ) → get_or ns i 0 < 2 ^ 16) → (i : ℕ) → get_or (drop k ns) i 0 < 2 ^ 16
each_drop k ns e i = rw (get_or-drop k ns i 0) (e (k + i))

pub drawn_fit : (r : Ring) {s : Numbers} (k : ℕ) → Fits s (length r.waiting) → Fits (fewer s k) (length (drawn r k).after.waiting)
unfolding drawn
drawn_fit r {s} k v = record { next = v.next; each = each_drop k s.waiting v.each; waiting = length-drop k s.waiting ∙ ap (λ n. n - k) v.waiting ∙ sym (length-drop k r.waiting) }

-- whatever the call
pub numbers_step : (d : Device) (s : Numbers) (c : Call) → WellNumbered d s → WellNumbered (step d c).after (numbers_after d s c)
unfolding step numbers_after acted ring_run ring_step
numbers_step d s c v = fitting (go c (takes_fit d.ring s (turns d.core (acts_of d.core c)).made (fits v)))
  where
    go : (c : Call) → Fits (takes_all s (turns d.core (acts_of d.core c)).made) (length (acted d (acts_of d.core c)).ring.waiting)
        → Fits (numbers_after d s c) (length (step d c).after.ring.waiting)
    go (level n b) f = f
    go (poll n) f = f
    go (read w o) f = f
    go (write w o x) f = f
    go (drain k) f = drawn_fit (acted d (acts_of d.core (drain k))).ring k f

-- ---- the numbers after a call, by what it is

pub undrained : (d : Device) (s : Numbers) (c : Call) → room_of c ≡ 0 → numbers_after d s c ≡ takes_all s (step d c).made
unfolding numbers_after
undrained d s c e = ap (fewer (takes_all s (step d c).made)) e

pub read_numbers : (d : Device) (s : Numbers) (w : Width) (o : ℕ) → numbers_after d s (read w o) ≡ s
unfolding step acts_of turns takes_all
read_numbers d s w o = undrained d s (read w o) refl

pub drain_numbers : (d : Device) (s : Numbers) (k : ℕ) → numbers_after d s (drain k) ≡ fewer s k
unfolding numbers_after step acts_of turns takes_all
drain_numbers d s k = refl
