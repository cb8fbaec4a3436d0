-- What the premises of demand 3 let through, told by the acts of a call. These facts are checked before the theorems whose premises they hold in place.
use Rattle.basics.proofs.Prelude.{◌≡◌, refl, sym, ap, ◌∙◌, Bool, true, false, not, ◌&&◌, or-false, true≢false, List, [], ◌∷◌, ℕ, zero, suc, ◌+◌, ◌<◌, arith, eqb, eqb-true, eqb-false, get_or, set, get_or-set_other, on, only, test}
use Rattle.rules.specs.Core.{Core, poll, raise, lower, clear, set_mask, Act, move, set_isr, store, set_vector, vectors_after, turn, turns}
use Rattle.rules.specs.Device.{Device, Call, acts_of, acted, step, reset, up_from}
use Rattle.histories.specs.{Premises.replaces_served, Premises.Admitted, Demands.Each, Demands.done, Demands.also, Demands.some_act, Demands.sets_isr, Demands.polls_or_raises, Demands.requests, Demands.CarriedAlone}
use Rattle.histories.proofs.laws.Reach.{isr_acts, ReturnsNone, write_returns_none, each_so}
use Rattle.rules.specs.Device as call

-- ---- acts with a test, and without

pub none_is_each : (t : Act → Bool) (xs : List Act) → some_act t xs ≡ false → Each (λ a. t a ≡ false) xs
unfolding some_act
none_is_each t [] e = done
none_is_each t (a ∷ xs) e = test (t a) (λ k. absurd (true≢false (rw k at e))) (λ k. also k (none_is_each t xs (rw k at e)))

pub each_is_none : (t : Act → Bool) (xs : List Act) → Each (λ a. t a ≡ false) xs → some_act t xs ≡ false
unfolding some_act
each_is_none t [] done = refl
each_is_none t (a ∷ xs) (also k e) = rw k (each_is_none t xs e)

-- ---- no vector byte changed while its input is in service

keeps : (vs : List ℕ) (m v : ℕ) → get_or vs m 0 ≡ v → get_or (set vs m v) m 0 ≡ v
keeps [] m v e = e
keeps (x ∷ vs) zero v e = refl
keeps (x ∷ vs) (suc m) v e = keeps vs m v e

module _ (c : Core) where
  -- the vector bytes of the inputs in service in c are those of c
  abbrev Stays : List ℕ → Type 0
  Stays vs = (n : ℕ) → n < 64 → on c.lines.isr n ≡ true → get_or vs n 0 ≡ get_or c.vectors n 0

  same_byte : (x y : Bool) → x ≡ true → (x && not y) ≡ false → y ≡ true
  same_byte true true s e = refl
  same_byte true false s e = sym e
  same_byte false y s e = absurd (true≢false (sym s))

  act_stays : (vs : List ℕ) (a : Act) → replaces_served c a ≡ false → Stays vs → Stays (vectors_after vs a)
  unfolding vectors_after
  act_stays vs (move m) e k n b s = k n b s
  act_stays vs (set_isr h v) e k n b s = k n b s
  act_stays vs (store x) e k n b s = k n b s
  act_stays vs (set_vector m v) e k n b s =
      test (eqb n m) (λ t. here (eqb-true n m t)) (λ t. get_or-set_other vs m n v 0 (eqb-false n m t) ∙ k n b s)
    where
      here : n ≡ m → get_or (set vs m v) n 0 ≡ get_or c.vectors n 0
      here z =
          let old = get_or c.vectors m 0 in
          let is : v ≡ old = eqb-true v old (same_byte (on c.lines.isr m) (eqb v old) (ap (on c.lines.isr) (sym z) ∙ s) e) in
          let was : get_or vs m 0 ≡ v = ap (λ j. get_or vs j 0) (sym z) ∙ k n b s ∙ ap (λ j. get_or c.vectors j 0) z ∙ sym is in
          ap (λ j. get_or (set vs m v) j 0) z ∙ keeps vs m v was ∙ is ∙ ap (λ j. get_or c.vectors j 0) (sym z)

  acts_stay : (k : Core) (xs : List Act) → Each (λ a. replaces_served c a ≡ false) xs → Stays k.vectors → Stays (turns k xs).after.vectors
  unfolding turns
  acts_stay k [] done s = s
  acts_stay k (a ∷ xs) (also e es) s = acts_stay (turn k a).after xs es (act_stays k.vectors a e s)

-- a call that does neither is admitted
pub admitted_else : (d : Device) (c : Call) → some_act sets_isr (acts_of d.core c) ≡ false → some_act (replaces_served d.core) (acts_of d.core c) ≡ false → Admitted d c
unfolding step acted
admitted_else d c i v =
    let xs = acts_of d.core c in
    record { no_isr_write = isr_acts d.core c ∙ i; vectors_stay = acts_stay d.core d.core xs (none_is_each (replaces_served d.core) xs v) (λ n b s. refl) }

-- ---- a poll or a raise

write_requests_none : (n : ℕ) (a : Act) → ReturnsNone a → requests n a ≡ false
write_requests_none n (move (poll m)) t = absurd t
write_requests_none n (move (raise m)) t = absurd t
write_requests_none n (move (lower m)) t = refl
write_requests_none n (move (clear x)) t = refl
write_requests_none n (move (set_mask h v)) t = refl
write_requests_none n (set_isr h v) t = refl
write_requests_none n (store s) t = refl
write_requests_none n (set_vector m v) t = refl

-- a call is a poll or a raise of n exactly if one of its acts is
pub request_acts : (n : ℕ) (d : Device) (c : Call) → polls_or_raises n c ≡ some_act (requests n) (acts_of d.core c)
unfolding acts_of some_act
request_acts n d (call.level m true) = sym (or-false (only n m))
request_acts n d (call.level m false) = refl
request_acts n d (call.poll m) = sym (or-false (only n m))
request_acts n d (call.read w o) = refl
request_acts n d (call.write w o v) = sym (each_is_none (requests n) (acts_of d.core (call.write w o v)) (each_so (write_requests_none n) (write_returns_none d.core w o v)))
request_acts n d (call.drain k) = refl

-- ---- a vector that one input alone carries

pub counts_up : (a k m : ℕ) → m < k → get_or (up_from a k) m 0 ≡ a + m
unfolding up_from
counts_up a zero m l = absurd (omega arith)
counts_up a (suc k) zero l = omega arith
counts_up a (suc k) (suc m) l = counts_up (suc a) k m (omega arith) ∙ omega arith

-- after a reset each input does, whatever the call
pub alone_at_reset : (n : ℕ) (c : Call) → CarriedAlone n n reset c
alone_at_reset n c m b e = let own : get_or (up_from 0 64) m 0 ≡ m = counts_up 0 64 m b ∙ omega arith in sym own ∙ eqb-true (get_or (up_from 0 64) m 0) n e
