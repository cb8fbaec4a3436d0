-- Demand 3, service: an input that is latched and unmasked, and stays undisturbed, is in service from the first poll or raise of it on.
-- Entering takes no input out of service, and leaving only those of its set; so an undisturbed input stays latched and unmasked, and in service once
-- it is.
use Rattle.basics.proofs.Prelude.{◌≡◌, refl, sym, ◌∙◌, Bool, true, false, not, true≢false, and-false, List, [], ◌∷◌, ◌++◌, ℕ, ◌<◌, eqb-true, on, inputs, only, put, without, with_half, as_half, on_put, on_without}
use Rattle.rules.specs.Lines.{Lines, Made, with_irr, with_mask, pending_in, serve, leave, newly_unmasked, newly_masked, polled, raised, lowered, cleared, masked}
use Rattle.rules.specs.Core.{Core, Move, poll, raise, lower, clear, set_mask, Act, move, set_isr, store, set_vector, moved, line_turn, turn, turns}
use Rattle.rules.specs.{Device.Device, Device.Call, Device.acts_of, Device.acted, Device.step, History.history}
use Rattle.histories.specs.{Premises.Along, Demands.done, Demands.also, Demands.in_service, Demands.Eligible, Demands.disturbs, Demands.Spared, Demands.Undisturbed, Demands.polls_or_raises}
use Rattle.laws.proofs.laws.{Serving.poll_serves, Serving.raise_latches, Serving.raise_serves, Halves.by_halves, Halves.on_new_half, Halves.on_kept_half}
use Rattle.histories.proofs.laws.Admitting as admitting
use Rattle.histories.proofs.laws.{Reach.each_both, Reach.NotIsr, Reach.no_isr_act, Folds.fold_acts, Folds.fold_calls, Folds.history_append, Folds.along_append, Folds.along_each}
use Rattle.rules.specs.Device as call

-- Input 5 is eligible where it is latched and unmasked, in service or not; not where all others are latched, and not where it alone is masked.
abbrev with : (mask irr isr : ℕ) → Lines
with m l s = record { mask = m; irr = l; isr = s }

eligible_lines : Eligible 5 (with 0xdf 0x20 0) × Eligible 5 (with 0xdf 0x20 0x20)
unfolding on
eligible_lines = (record { latched = refl; unmasked = refl }, record { latched = refl; unmasked = refl })

not_latched : Eligible 5 (with 0 0xdf 0) → ⊥
unfolding on
not_latched e = true≢false (sym e.latched)

not_unmasked : Eligible 5 (with 0x20 0x20 0) → ⊥
unfolding on
not_unmasked e = true≢false e.unmasked

-- a write to a half of MASK that brings no 1 to n's place leaves n unmasked
pub stays_unmasked : (h : Bool) (x v n : ℕ) → n < 64 → on (as_half h v) n ≡ false → on x n ≡ false → on (with_half h x v) n ≡ false
stays_unmasked h x v =
    by_halves (λ i. on (as_half h v) i ≡ false → on x i ≡ false → on (with_half h x v) i ≡ false) h
    (λ j l e f. on_new_half h x v j l ∙ sym (on_new_half h 0 v j l) ∙ e) (λ j l e f. on_kept_half h x v j l ∙ f)

module _ (n : ℕ) (b : n < 64) where
  -- n is eligible still, and in service if it was
  record Goes (l m : Lines) : Type 0 where
    eligible : Eligible n m
    served : in_service n l ≡ true → in_service n m ≡ true

  serve_goes : (vs : List ℕ) (o : Bool) (l : Lines) (ns : List ℕ) → Eligible n l → Goes l (serve vs o l ns).after
  serve_goes vs o l [] r = record { eligible = r; served = λ e. e }
  serve_goes vs o l (m ∷ ns) r =
      record { eligible = record { latched = r.latched; unmasked = r.unmasked }; served = λ e. rw (on_put l.isr m n b, e) }

  leave_goes : (vs : List ℕ) (o : Bool) (f : ℕ → Bool) (l : Lines) → f n ≡ false → Eligible n l → Goes l (leave vs o f l).after
  leave_goes vs o f l e r =
      record { eligible = record { latched = r.latched; unmasked = r.unmasked }; served = λ s. rw (on_without l.isr f n b, s, e) }

  -- a latch more, or other latches fewer
  latch_eligible : (l : Lines) (m : ℕ) → Eligible n l → Eligible n (with_irr l (put l.irr m))
  latch_eligible l m r = record { latched = rw (on_put l.irr m n b, r.latched); unmasked = r.unmasked }

  unlatch_eligible : (l : Lines) (f : ℕ → Bool) → f n ≡ false → Eligible n l → Eligible n (with_irr l (without l.irr f))
  unlatch_eligible l f e r = record { latched = rw (on_without l.irr f n b, r.latched, e); unmasked = r.unmasked }

  move_goes : (vs : List ℕ) (l : Lines) (m : Move) → disturbs n (move m) ≡ false → Eligible n l → Goes l (moved vs l m).after
  unfolding moved polled raised lowered cleared masked
  move_goes vs l (poll m) e r = serve_goes vs false l (inputs (pending_in (only m) l)) r
  move_goes vs l (raise m) e r =
      let k = with_irr l (put l.irr m) in
      let g = serve_goes vs false k (inputs (pending_in (only m) k)) (latch_eligible l m r) in
      record { eligible = g.eligible; served = g.served }
  move_goes vs l (lower m) e r =
      let g = leave_goes vs false (only m) (with_irr l (without l.irr (only m))) e (unlatch_eligible l (only m) e r) in
      record { eligible = g.eligible; served = g.served }
  move_goes vs l (clear x) e r =
      let g = leave_goes vs true (on x) (with_irr l (without l.irr (on x))) e (unlatch_eligible l (on x) e r) in
      record { eligible = g.eligible; served = g.served }
  move_goes vs l (set_mask h v) e r =
      let new = with_half h l.mask v in
      let off = stays_unmasked h l.mask v n b e r.unmasked in
      let k = with_mask l new in
      let one = serve_goes vs true k (inputs (pending_in (newly_unmasked l.mask new) k)) (record { latched = r.latched; unmasked = off }) in
      let two = leave_goes vs true (newly_masked l.mask new) _ (rw off (and-false (not (on l.mask n)))) one.eligible in
      record { eligible = two.eligible; served = λ s. two.served (one.served s) }

  act_goes : (c : Core) (a : Act) → NotIsr a × (disturbs n a ≡ false) → Eligible n c.lines → Goes c.lines (turn c a).after.lines
  unfolding line_turn
  act_goes c (move m) t r = move_goes c.vectors c.lines m t.1 r
  act_goes c (set_isr h v) t r = absurd t.0
  act_goes c (store s) t r = record { eligible = r; served = λ e. e }
  act_goes c (set_vector m v) t r = record { eligible = r; served = λ e. e }

  -- along acts and along calls
  abbrev Onward : Core → List Made → Core → Type 0
  Onward c ms d = Eligible n c.lines → Goes c.lines d.lines

  onward_none : (c : Core) → Onward c [] c
  onward_none c r = record { eligible = r; served = λ e. e }

  onward_next : (c d e : Core) (xs ys : List Made) → Onward c xs d → Onward d ys e → Onward c (xs ++ ys) e
  onward_next c d e xs ys f g r =
      let one = f r in
      let two = g one.eligible in
      record { eligible = two.eligible; served = λ s. two.served (one.served s) }

  call_goes : (d : Device) (c : Call) → Undisturbed n d c → Onward d.core (step d c).made (step d c).after.core
  unfolding step acted
  call_goes d c p =
      fold_acts Onward onward_none onward_next (λ a. NotIsr a × (disturbs n a ≡ false)) act_goes d.core
      (each_both (no_isr_act d.core c p.no_isr_write) p.not_disturbed)

  calls_go : (d : Device) (cs : List Call) → Along (Undisturbed n) d cs → Onward d.core (history d cs).made (history d cs).after.core
  calls_go = fold_calls (λ d ms e. Onward d.core ms e.core) (λ d. onward_none d.core)
      (λ d e f xs ys x y. onward_next d.core e.core f.core xs ys x y) (Undisturbed n) call_goes

  -- a write of ISR takes n out of service, or puts it in, and leaves it latched and unmasked
  pub act_spares : (c : Core) (a : Act) → disturbs n a ≡ false → Eligible n c.lines → Eligible n (turn c a).after.lines
  unfolding line_turn
  act_spares c (move m) t r = (move_goes c.vectors c.lines m t r).eligible
  act_spares c (set_isr h v) t r = record { latched = r.latched; unmasked = r.unmasked }
  act_spares c (store s) t r = r
  act_spares c (set_vector m v) t r = r

  call_spares : (d : Device) (c : Call) → Spared n d c → Eligible n d.core.lines → Eligible n (step d c).after.core.lines
  unfolding step acted
  call_spares d c p =
      fold_acts (λ c ms e. Eligible n c.lines → Eligible n e.lines) (λ c r. r) (λ c d e xs ys f g r. g (f r)) (λ a. disturbs n a ≡ false) act_spares
      d.core p

  calls_spare : (d : Device) (cs : List Call) → Along (Spared n) d cs → Eligible n d.core.lines → Eligible n (history d cs).after.core.lines
  calls_spare =
      fold_calls (λ d ms e. Eligible n d.core.lines → Eligible n e.core.lines) (λ d r. r) (λ d e f xs ys x y r. y (x r)) (Spared n) call_spares

  -- ---- a poll or a raise of n

  -- a raise latches it, so that it needs to be unmasked only
  latched_eligible : (l : Lines) → on l.mask n ≡ false → Eligible n (with_irr l (put l.irr n))
  latched_eligible l e = record { latched = raise_latches n b l; unmasked = e }

  raise_admits : (vs : List ℕ) (l : Lines) → on l.mask n ≡ false → Eligible n (raised vs l n).after
  unfolding raised polled
  raise_admits vs l e =
      let k = with_irr l (put l.irr n) in
      (serve_goes vs false k (inputs (pending_in (only n) k)) (latched_eligible l e)).eligible

  -- it is itself no call that disturbs n
  request_spares : (d : Device) (c : Call) → polls_or_raises n c ≡ true → Spared n d c
  unfolding acts_of
  request_spares d (call.level m true) e = also refl done
  request_spares d (call.level m false) e = absurd (true≢false (sym e))
  request_spares d (call.poll m) e = also refl done
  request_spares d (call.read w o) e = done
  request_spares d (call.write w o v) e = absurd (true≢false (sym e))
  request_spares d (call.drain k) e = done

  pub request_serves : (d : Device) (c : Call) → polls_or_raises n c ≡ true → Eligible n d.core.lines → in_service n (step d c).after.core.lines ≡ true
  unfolding step acted acts_of turns line_turn moved
  request_serves d (call.level m true) e r = rw (eqb-true m n e) (raise_serves n b d.core.vectors d.core.lines r.unmasked)
  request_serves d (call.level m false) e r = absurd (true≢false (sym e))
  request_serves d (call.poll m) e r = rw (eqb-true m n e) (poll_serves n b d.core.vectors d.core.lines r.latched r.unmasked)
  request_serves d (call.read w o) e r = absurd (true≢false (sym e))
  request_serves d (call.write w o v) e r = absurd (true≢false (sym e))
  request_serves d (call.drain k) e r = absurd (true≢false (sym e))

-- 'An input latched and unmasked, and after that not lowered, cleared or masked, is in service from the first poll or raise of it on.' In d the input n is
-- eligible, and no call from there on lowers, clears or masks it; c among them is a poll or raise of it, the first or another. From c on no write reaches
-- ISR; before c it may. Then n is in service at their end, whatever other calls lie before and after c.
pub in_service_from_the_poll_on : (n : ℕ) → n < 64 → (d : Device) (before : List Call) (c : Call) (later : List Call) → Eligible n d.core.lines
    → Along (Spared n) d before → polls_or_raises n c ≡ true → Along (Undisturbed n) (history d (before ++ (c ∷ []))).after later
    → in_service n (history d (before ++ (c ∷ later))).after.core.lines ≡ true
unfolding history
in_service_from_the_poll_on n b d before c later r p e q =
    let met = (history d before).after in
    let one = calls_spare n b d before p r in
    let two = call_spares n b met c (request_spares n b met c e) one in
    let after = rw (history_append d before (c ∷ [])) at q in
    let three = calls_go n b (step met c).after later after two in
    rw (history_append d before (c ∷ later)) (three.served (request_serves n b met c e one))

-- the same with demand 3's premise over all the calls: none of them is a write that reaches ISR
pub in_service_from_then_on : (n : ℕ) → n < 64 → (d : Device) (before : List Call) (c : Call) (later : List Call) → Eligible n d.core.lines
    → Along (Undisturbed n) d (before ++ (c ∷ later)) → polls_or_raises n c ≡ true → in_service n (history d (before ++ (c ∷ later))).after.core.lines ≡ true
unfolding history Along
in_service_from_then_on n b d before c later r p e =
    let parts = along_append (Undisturbed n) d before (c ∷ later) p in
    let spared = along_each (Undisturbed n) (Spared n) (λ x y u. u.not_disturbed) d before parts.0 in
    in_service_from_the_poll_on n b d before c later r spared e (rw (history_append d before (c ∷ [])) parts.1.1)

-- the same where the raise is what latches it: an input that is unmasked and raised is in service from that raise on
pub in_service_once_raised : (n : ℕ) → n < 64 → (d : Device) (later : List Call) → on d.core.lines.mask n ≡ false
    → Along (Undisturbed n) (step d (call.level n true)).after later → in_service n (history d (call.level n true ∷ later)).after.core.lines ≡ true
unfolding history step acted acts_of turns line_turn moved
in_service_once_raised n b d later e p =
    let vs = d.core.vectors in
    let l = d.core.lines in
    (calls_go n b (step d (call.level n true)).after later p (raise_admits n b vs l e)).served (raise_serves n b vs l e)
