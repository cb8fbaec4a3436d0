-- 02, C-24: one sweep wakes everything. From any device, so from any loaded one.
use Rattle.basics.proofs.Prelude.{◌≡◌, refl, sym, ap, ◌∙◌, ◌⊎◌, inl, inr, ⊎_elim, Bool, true, false, cond, not, ◌&&◌, true≢false, or-true, List, [], ◌∷◌, ◌++◌, ℕ, ◌+◌, ◌<◌, arith, lit<, on, test}
use Rattle.rules.specs.{Ring.dropped, Device.Device, Device.Call, Device.acts_of, History.history}
use Rattle.histories.specs.{Premises.Along, Demands.in_service, Demands.Eligible, Demands.polls_or_raises, Demands.asserts_of, Demands.some_act, Demands.ring_acts}
use Rattle.sweep.specs.Sweeps.{unsettles, sweeping, is_poll, every_call, some_call, Sweep, wakes, WakesAll, Announced, AssertedBy}
use Rattle.sweep.proofs.laws.{Quiet.sweeping_is, OneInput.Awake, OneInput.calls_swept, OneInput.calls_awake, Announcing.calls_announce, Announcing.asserted_by, Announcing.calls_drain, Announcing.calls_lose_none}
use Rattle.rules.specs.Device as call

-- ---- one input

-- a: in service at the start; x, y and z: latched, masked and in service at the end; u: how often asserted
once : (a x y z : Bool) → (z ≡ true → (a ≡ true) ⊎ ((x ≡ true) × (y ≡ false))) → (x ≡ true → y ≡ false → z ≡ true)
    → (u : ℕ) → u + cond a 1 0 ≡ cond z 1 0 → u ≡ cond (not a && (x && not y)) 1 0
once true x y true h g u e = omega arith
once true x y false h g u e = absurd (omega arith)
once false true true true h g u e = ⊎_elim (λ p. absurd (true≢false (sym p))) (λ p. absurd (true≢false p.1)) (h refl)
once false true true false h g u e = omega arith
once false true false true h g u e = omega arith
once false true false false h g u e = absurd (true≢false (sym (g refl refl)))
once false false y true h g u e = ⊎_elim (λ p. absurd (true≢false (sym p))) (λ p. absurd (true≢false (sym p.0))) (h refl)
once false false y false h g u e = omega arith

-- Of one input n, where the calls are such as a sweep admits, and at their end n is in service if it is latched and unmasked: they assert it once if it wakes,
-- and else not at all.
module _ (n : ℕ) (b : n < 64) (d : Device) (cs : List Call) (e : every_call sweeping cs ≡ true) where
  pub awake_is_asserted : Awake n b (history d cs).after.core.lines → asserts_of n (history d cs).made ≡ cond (wakes n d.core.lines (history d cs).after.core.lines) 1 0
  awake_is_asserted h =
      let l = d.core.lines in
      let k = (history d cs).after.core.lines in
      let s = calls_swept n b d cs e in
      once (on l.isr n) (on k.irr n) (on k.mask n) (on k.isr n)
      (λ z. ⊎_elim (λ u. inl u) (λ r. inr (r.latched, r.unmasked)) (s.cause z)) (λ x y. h (record { latched = x; unmasked = y }))
      (asserts_of n (history d cs).made) s.count

-- The calls are such as a sweep admits, and one of them is a poll or a raise of n, whatever is polled besides. Then at their end n is in service if it is latched
-- and unmasked, and they assert it once if it wakes, and else not at all.
module _ (n : ℕ) (b : n < 64) (d : Device) (cs : List Call) (e : every_call sweeping cs ≡ true) (p : some_call (polls_or_raises n) cs ≡ true) where
  pub one_is_served : Eligible n (history d cs).after.core.lines → in_service n (history d cs).after.core.lines ≡ true
  one_is_served = calls_awake n b d cs e p

  pub one_is_asserted : asserts_of n (history d cs).made ≡ cond (wakes n d.core.lines (history d cs).after.core.lines) 1 0
  one_is_asserted = awake_is_asserted n b d cs e one_is_served

-- ---- a sweep

pub poll_asks : (n : ℕ) (cs : List Call) → some_call (is_poll n) cs ≡ true → some_call (polls_or_raises n) cs ≡ true
poll_asks n [] e = e
poll_asks n (c ∷ cs) e =
    test (is_poll n c) (λ t. rw (here c t)) (λ t. rw (poll_asks n cs (rw t at e)) (or-true (polls_or_raises n c)))
  where
    here : (c : Call) → is_poll n c ≡ true → polls_or_raises n c ≡ true
    here (call.level m b) t = absurd (true≢false (sym t))
    here (call.poll m) t = t
    here (call.read w o) t = absurd (true≢false (sym t))
    here (call.write w o v) t = absurd (true≢false (sym t))
    here (call.drain k) t = absurd (true≢false (sym t))

-- 'At its end every latched and unmasked input is in service. During it no deassert is made, and each input is asserted at most once, exactly if it was not
-- in service at the start and is latched and unmasked at the end' (02, C-24).
pub one_sweep_wakes_all : (d : Device) (cs : List Call) → Sweep cs → WakesAll d (history d cs).made (history d cs).after
one_sweep_wakes_all d cs s =
    record {
      served = λ n b. one_is_served n b d cs s.admitted (poll_asks n cs (s.polled n b));
      no_deassert = (calls_swept 0 (lit< tt) d cs s.admitted).silent;
      asserted = λ n b. one_is_asserted n b d cs s.admitted (poll_asks n cs (s.polled n b));
    }

-- ---- which vector an assert carries

-- Each call of a sweep makes nothing, or it polls or raises an input and makes that input's assert, which is returned and has the vector byte that the input
-- has as the call meets the device. So vector bytes may be written in between.
pub asserts_carry_the_byte_met : (d : Device) (cs : List Call) → Sweep cs → Along Announced d cs
asserts_carry_the_byte_met d cs s = calls_announce d cs s.admitted

-- An input that wakes is asserted by one of the calls, a poll or raise of it, with the byte that it has there.
pub woken_by_a_call : (d : Device) (cs : List Call) → Sweep cs → (n : ℕ) → n < 64 → wakes n d.core.lines (history d cs).after.core.lines ≡ true
    → AssertedBy n d cs
woken_by_a_call d cs s n b w =
    let made = (one_sweep_wakes_all d cs s).asserted n b ∙ ap (λ x. cond x 1 0) w in
    asserted_by n d cs (calls_announce d cs s.admitted) (omega (arith, made))

-- Nothing is offered to the ring: what is drained, and what waits at the end, is what waited at the start, and no drop is counted.
pub sweep_offers_nothing : (d : Device) (cs : List Call) → Sweep cs
    → ((history d cs).drained ++ (history d cs).after.ring.waiting ≡ d.ring.waiting) × ((history d cs).after.ring.drops ≡ d.ring.drops)
sweep_offers_nothing d cs s = calls_drain d cs (calls_announce d cs s.admitted)

-- And no event is dropped, whatever the count is: it stands still at its stop, so that alone would not tell.
pub sweep_loses_nothing : (d : Device) (cs : List Call) → Sweep cs → dropped d.ring (ring_acts d cs) ≡ []
sweep_loses_nothing d cs s = calls_lose_none d cs (calls_announce d cs s.admitted) d.ring

-- ---- the premise

-- The premise on single calls is no more than it says: it refuses a call exactly where one of its acts lowers an input, or writes MASK, CLEAR or ISR, at
-- any device and whatever the value.
pub sweep_premise_exact : (d : Device) (c : Call) → sweeping c ≡ not (some_act unsettles (acts_of d.core c))
sweep_premise_exact d c = sweeping_is d.core c
