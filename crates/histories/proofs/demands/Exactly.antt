-- The premises of demand 3 say what their words say, and no more: each stands here beside what the device does, as an equation or both ways. One that shut out
-- more calls than 00 does would leave the theorems true and say less.
use Rattle.basics.proofs.Prelude.{◌≡◌, refl, sym, ap, ◌∙◌, Bool, true, false, not, ◌&&◌, ◌||◌, and-false, and-true, or-false, or-true, true≢false, List, [], ◌∷◌, ℕ, ◌<◌, eqb-true, eq-eqb, on, on_none, inputs, only, put, without, with_half, as_half, test, on_put, on_without, first_has}
use Rattle.rules.specs.Lines.{Lines, with_irr, with_mask, is_pending, pending_in, serve, enter, newly_unmasked, newly_masked, polled, raised, lowered, cleared, masked}
use Rattle.rules.specs.Core.{Core, poll, raise, lower, clear, set_mask, Act, move, set_isr, store, set_vector, moved, line_turn, turn, turns}
use Rattle.rules.specs.{Device.Device, Device.Call, Device.acts_of, Device.acted, Device.step, Device.reset}
use Rattle.histories.specs.{Premises.replaces_served, Premises.Admitted, Demands.Each, Demands.done, Demands.also, Demands.some_act, Demands.in_service, Demands.Eligible, Demands.disturbs, Demands.Undisturbed, Demands.sets_isr, Demands.polls_or_raises, Demands.requests, Demands.is_raise, Demands.call_takes, Demands.CarriedAlone}
use Rattle.laws.proofs.laws.Halves.{by_halves, on_new_half, on_kept_half}
use Rattle.histories.proofs.{laws.Reach.NotIsr, laws.Reach.no_isr_act, laws.Reach.isr_acts, laws.Reach.each_both, laws.Taking.call_latches}
use Rattle.histories.proofs.laws.Admitting.{none_is_each, each_is_none, admitted_else, request_acts, alone_at_reset}
use Rattle.histories.proofs.demands.Service.{stays_unmasked, act_spares, request_serves}

serve_mask : (vs : List ℕ) (o : Bool) (l : Lines) (ns : List ℕ) → (serve vs o l ns).after.mask ≡ l.mask
serve_mask vs o l [] = refl
serve_mask vs o l (n ∷ ns) = refl

-- a half of MASK that brings a 1 to n's place leaves n masked
comes_masked : (h : Bool) (x v n : ℕ) → n < 64 → on (as_half h v) n ≡ true → on (with_half h x v) n ≡ true
comes_masked h x v =
    by_halves (λ i. on (as_half h v) i ≡ true → on (with_half h x v) i ≡ true) h
    (λ j l e. on_new_half h x v j l ∙ sym (on_new_half h 0 v j l) ∙ e)
    (λ j l e. absurd (true≢false (sym e ∙ on_kept_half h 0 v j l ∙ on_none _)))

module _ (n : ℕ) (b : n < 64) where
  -- ---- lowered, cleared or masked

  gone : (x : ℕ) (f : ℕ → Bool) (m : Bool) → f n ≡ true → (on (without x f) n && m) ≡ false
  gone x f m e = ap (λ y. y && m) (on_without x f n b ∙ ap (λ y. on x n && not y) e ∙ and-false (on x n))

  act_disturbs : (c : Core) (a : Act) → disturbs n a ≡ true → (on (turn c a).after.lines.irr n && not (on (turn c a).after.lines.mask n)) ≡ false
  unfolding line_turn moved lowered cleared masked
  act_disturbs c (move (poll m)) e = absurd (true≢false (sym e))
  act_disturbs c (move (raise m)) e = absurd (true≢false (sym e))
  act_disturbs c (move (lower m)) e = gone c.lines.irr (only m) (not (on c.lines.mask n)) e
  act_disturbs c (move (clear x)) e = gone c.lines.irr (on x) (not (on c.lines.mask n)) e
  act_disturbs c (move (set_mask h v)) e =
      let new = with_half h c.lines.mask v in
      let k = with_mask c.lines new in
      let ns = inputs (pending_in (newly_unmasked c.lines.mask new) k) in
      ap (λ y. on (serve c.vectors true k ns).after.irr n && not y) (ap (λ x. on x n) (serve_mask c.vectors true k ns) ∙ comes_masked h c.lines.mask v n b e)
      ∙ and-false (on (serve c.vectors true k ns).after.irr n)
  act_disturbs c (set_isr h v) e = absurd (true≢false (sym e))
  act_disturbs c (store s) e = absurd (true≢false (sym e))
  act_disturbs c (set_vector m v) e = absurd (true≢false (sym e))

  -- 'Lowered, cleared or masked': of an input that is latched and unmasked, an act disturbs it exactly if it is no longer so.
  pub disturbs_exactly : (c : Core) (a : Act) → Eligible n c.lines → (on (turn c a).after.lines.irr n && not (on (turn c a).after.lines.mask n)) ≡ not (disturbs n a)
  disturbs_exactly c a r =
      test (disturbs n a) (λ t. act_disturbs c a t ∙ ap not (sym t))
      (λ t. let e = act_spares n b c a t r in rw (t, e.latched, e.unmasked))

  -- A call leaves n undisturbed exactly if none of its acts writes ISR and none lowers, clears or masks n.
  pub undisturbed_exactly : (d : Device) (c : Call) → let xs = acts_of d.core c in
      (Undisturbed n d c → (some_act sets_isr xs ≡ false) × (some_act (disturbs n) xs ≡ false)) × ((some_act sets_isr xs ≡ false) × (some_act (disturbs n) xs ≡ false) → Undisturbed n d c)
  undisturbed_exactly d c =
      let xs = acts_of d.core c in (
        λ u. (sym (isr_acts d.core c) ∙ u.no_isr_write, each_is_none (disturbs n) xs u.not_disturbed),
        λ p. record { no_isr_write = isr_acts d.core c ∙ p.0; not_disturbed = none_is_each (disturbs n) xs p.1 },
      )

  -- ---- polled or raised

  -- of the inputs that have f the lowest goes into service, and n is none of them
  others_enter : (vs : List ℕ) (o : Bool) (f : ℕ → Bool) (l : Lines) → ((m : ℕ) → f m ≡ true → only m n ≡ false) → on (enter vs o f l).after.isr n ≡ on l.isr n
  others_enter vs o f l other = go (inputs (pending_in f l)) refl
    where
      has : (x y : Bool) → (x && y) ≡ true → x ≡ true
      has true y e = refl
      has false y e = e

      go : (ns : List ℕ) → inputs (pending_in f l) ≡ ns → on (serve vs o l ns).after.isr n ≡ on l.isr n
      go [] e = refl
      go (m ∷ ns) e =
          on_put l.isr m n b ∙ ap (λ y. on l.isr n || y) (other m (has (f m) (is_pending l m) (first_has 0 64 (pending_in f l) m ns e).0)) ∙ or-false (on l.isr n)

  others_leave : (x : ℕ) (f : ℕ → Bool) → f n ≡ false → on (without x f) n ≡ on x n
  others_leave x f e = on_without x f n b ∙ rw e (and-true (on x n))

  -- whoever is m is not n
  apart : (m k : ℕ) → only n m ≡ false → only m k ≡ true → only k n ≡ false
  apart m k e t = test (only k n) (λ u. absurd (true≢false (sym (eq-eqb m n (sym (eqb-true k m t) ∙ sym (eqb-true n k u))) ∙ e))) (λ u. u)

  act_serves_no_other : (c : Core) (a : Act) → NotIsr a → disturbs n a ≡ false → requests n a ≡ false → Eligible n c.lines
      → on (turn c a).after.lines.isr n ≡ on c.lines.isr n
  unfolding line_turn moved polled raised lowered cleared masked
  act_serves_no_other c (move (poll m)) t e q r = others_enter c.vectors false (only m) c.lines (λ k. apart m k q)
  act_serves_no_other c (move (raise m)) t e q r = others_enter c.vectors false (only m) (with_irr c.lines (put c.lines.irr m)) (λ k. apart m k q)
  act_serves_no_other c (move (lower m)) t e q r = others_leave c.lines.isr (only m) e
  act_serves_no_other c (move (clear x)) t e q r = others_leave c.lines.isr (on x) e
  act_serves_no_other c (move (set_mask h v)) t e q r =
      let old = c.lines.mask in
      let new = with_half h old v in
      let k = with_mask c.lines new in
      let off = stays_unmasked h old v n b e r.unmasked in
      others_leave (enter c.vectors true (newly_unmasked old new) k).after.isr (newly_masked old new) (rw off (and-false (not (on old n))))
      ∙ others_enter c.vectors true (newly_unmasked old new) k (λ m u. test (only m n) (λ w. absurd (true≢false (sym (was (on old m) (on new m) u) ∙ rw (← eqb-true n m w) r.unmasked))) (λ w. w))
    where
      was : (x y : Bool) → (x && not y) ≡ true → x ≡ true
      was true y u = refl
      was false y u = u
  act_serves_no_other c (set_isr h v) t e q r = absurd t
  act_serves_no_other c (store s) t e q r = refl
  act_serves_no_other c (set_vector m v) t e q r = refl

  -- along acts, where n stays latched and unmasked
  abbrev Calm : Act → Type 0
  Calm a = NotIsr a × ((disturbs n a ≡ false) × (requests n a ≡ false))

  acts_serve_no_other : (c : Core) {xs : List Act} → Each Calm xs → Eligible n c.lines → on (turns c xs).after.lines.isr n ≡ on c.lines.isr n
  unfolding turns
  acts_serve_no_other c done r = refl
  acts_serve_no_other c (also {a = a} t e) r =
      acts_serve_no_other (turn c a).after e (act_spares n b c a t.1.0 r) ∙ act_serves_no_other c a t.0 t.1.0 t.1.1 r

  -- 'From the first poll or raise of it on': an input that is latched and unmasked, at a call that leaves it undisturbed, is in service afterwards exactly if it was, or
  -- the call is a poll or a raise of it.
  pub served_exactly : (d : Device) (c : Call) → Eligible n d.core.lines → Undisturbed n d c
      → in_service n (step d c).after.core.lines ≡ (in_service n d.core.lines || polls_or_raises n c)
  unfolding step acted
  served_exactly d c r u =
      test (polls_or_raises n c)
      (λ t. request_serves n b d c t r ∙ sym (or-true (in_service n d.core.lines)) ∙ ap (λ y. in_service n d.core.lines || y) (sym t))
      (λ t. acts_serve_no_other d.core (each_both (no_isr_act d.core c u.no_isr_write) (each_both u.not_disturbed (none_is_each (requests n) (acts_of d.core c) (sym (request_acts n d c) ∙ t)))) r
      ∙ sym (or-false (in_service n d.core.lines)) ∙ ap (λ y. in_service n d.core.lines || y) (sym t))

  -- ---- raised, or cleared

  -- 'It needs a new raise': after a call an input is latched exactly if the call raises it, or it was latched and the call neither lowers nor clears it.
  pub latched_exactly : (d : Device) (c : Call) → on (step d c).after.core.lines.irr n ≡ (is_raise n c || (on d.core.lines.irr n && not (call_takes n d c)))
  latched_exactly d c = call_latches n b d c

-- Demand 3 admits every call of which no act writes ISR and none replaces the vector byte of an input in service by another. So vector bytes of the others may change, and
-- a byte may be written that stands there.
pub admits_all_else : (d : Device) (c : Call) → some_act sets_isr (acts_of d.core c) ≡ false → some_act (replaces_served d.core) (acts_of d.core c) ≡ false → Admitted d c
admits_all_else d c = admitted_else d c

-- The premise that one input alone carries a vector can be met with any vector: after a reset each input has its own.
pub alone_after_reset : (n : ℕ) (c : Call) → CarriedAlone n n reset c
alone_after_reset = alone_at_reset
