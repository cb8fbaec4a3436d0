-- Demand 3, the account: for each vector, asserts made less deasserts made follow the in-service inputs that carry it.
-- A call moves the lines or changes vector bytes, never both (Reach). Where it moves the lines each act is in balance (Counts); where it changes vectors
-- it makes no event, and the premise keeps the vectors of the inputs in service.
use Rattle.basics.proofs.Prelude.{◌≡◌, refl, sym, ap, ◌∙◌, ⊎_elim, Bool, true, false, not, ◌&&◌, List, [], ◌++◌, ℕ, ◌+◌, arith, eqb, length, on, on_none, no_inputs}
use Rattle.rules.specs.{Lines.Lines, Lines.Made, Lines.served_in, Core.Core, Core.Act, Core.move, Core.set_isr, Core.store, Core.set_vector, Core.line_turn, Core.turn, Core.turns}
use Rattle.rules.specs.{Device.Device, Device.Call, Device.acts_of, Device.acted, Device.step, Device.reset, History.history, History.from_reset}
use Rattle.rules.specs.Account.{tally, served_with, has_vector, carries, asserts, deasserts, carrying}
use Rattle.rules.proofs.laws.Counts.{size_ext, tally_append, vector_balanced}
use Rattle.histories.specs.{Premises.Along, Premises.Admitted, Premises.writes_isr, Premises.ServedVectorsStay, Demands.some_act, Demands.sets_isr}
use Rattle.histories.proofs.laws.Admitting as admitting
use Rattle.histories.proofs.laws.Reach.{each_both, NotIsr, no_isr_act, isr_acts, LeavesVectors, lines_or_vectors}
use Rattle.histories.proofs.laws.Folds.{fold_acts, fold_calls, still, vectors_stay_lem}

module _ (v : ℕ) where
  -- from c to d, making these events
  abbrev Accounted : Core → List Made → Core → Type 0
  Accounted c ms d = asserts v ms + carrying v c ≡ deasserts v ms + carrying v d

  accounted_none : (c : Core) → Accounted c [] c
  unfolding tally
  accounted_none c = refl

  accounted_next : (c d e : Core) (xs ys : List Made) → Accounted c xs d → Accounted d ys e → Accounted c (xs ++ ys) e
  accounted_next c d e xs ys x y =
      omega (arith, tally_append (λ m. m.asserted && has_vector v m) xs ys, tally_append (λ m. not m.asserted && has_vector v m) xs ys, x, y)

  -- an act that is no write of ISR, counted by the vector bytes that it meets
  balanced : (vs : List ℕ) (l : Lines) (a : Act) → NotIsr a
      → asserts v (line_turn vs l a).made + served_with (carries v vs) l ≡ deasserts v (line_turn vs l a).made + served_with (carries v vs) (line_turn vs l a).after
  unfolding line_turn tally
  balanced vs l (move m) t = vector_balanced v vs l m
  balanced vs l (set_isr h x) t = absurd t
  balanced vs l (store s) t = refl
  balanced vs l (set_vector n x) t = refl

  -- and leaves them
  accounted_act : (c : Core) (a : Act) → NotIsr a × LeavesVectors a → Accounted c (turn c a).made (turn c a).after
  accounted_act c a t =
      balanced c.vectors c.lines a t.0
      ∙ ap (λ vs. deasserts v (turn c a).made + served_with (carries v vs) (turn c a).after.lines) (sym (vectors_stay_lem c.vectors a t.1))

  -- the lines stay, and so do the vectors of the inputs in service
  carrying_stays : (c d : Core) → c.lines ≡ d.lines → ServedVectorsStay c d → carrying v d ≡ carrying v c
  carrying_stays c d e k =
      ap (served_with (carries v d.vectors)) (sym e)
      ∙ size_ext (served_in (carries v d.vectors) c.lines) (served_in (carries v c.vectors) c.lines)
      (λ i b. both (on c.lines.isr i) (λ t. ap (λ x. eqb x v) (k i b t)))
    where
      both : {x y : Bool} (a : Bool) → (a ≡ true → x ≡ y) → (a && x) ≡ (a && y)
      both true f = f refl
      both false f = refl

  accounted_call : (d : Device) (c : Call) → Admitted d c → Accounted d.core (step d c).made (step d c).after.core
  unfolding step acted
  accounted_call d c p =
      let after = (turns d.core (acts_of d.core c)).after in
      ⊎_elim
      (λ e.
      let s = still d.core e in
      rw s.0 (omega (arith, accounted_none d.core, carrying_stays d.core after s.1 p.vectors_stay)))
      (λ e.
      fold_acts Accounted accounted_none accounted_next (λ a. NotIsr a × LeavesVectors a) accounted_act d.core
      (each_both (no_isr_act d.core c p.no_isr_write) e))
      (lines_or_vectors d.core c)

  -- at reset no input is in service
  pub none_served : carrying v reset.core ≡ 0
  none_served = ap length (no_inputs _ (λ i b. rw (on_none i)))

-- 01, Saved image: 'A load begins a new history: counts of demand 3 start there from the loaded ISR.' From any device, so from any loaded image:
-- asserts made, and the inputs that were in service with v, come to deasserts made, and the inputs that are in service with v now.
pub asserts_match_service_from : (v : ℕ) (d : Device) (cs : List Call) → Along Admitted d cs
    → asserts v (history d cs).made + carrying v d.core ≡ deasserts v (history d cs).made + carrying v (history d cs).after.core
asserts_match_service_from v =
    fold_calls (λ d ms e. Accounted v d.core ms e.core) (λ d. accounted_none v d.core)
    (λ d e f xs ys x y. accounted_next v d.core e.core f.core xs ys x y) Admitted (accounted_call v)

-- 'From reset, over any calls with no load or second reset, no write reaching the ISR registers and no vector byte changed while its input is in
-- service: for each vector, asserts made less deasserts made, returned and offered to the ring alike, equal the number of in-service inputs that now
-- carry it.' A load and a reset are no calls of a history (FromCalls); the other two premises are `Admitted`.
pub asserts_match_service : (v : ℕ) (cs : List Call) → Along Admitted reset cs
    → asserts v (from_reset cs).made ≡ deasserts v (from_reset cs).made + carrying v (from_reset cs).after.core
asserts_match_service v cs p = omega (arith, asserts_match_service_from v reset cs p, none_served v)

-- 'No write reaching the ISR registers' is no more than it says: the premise refuses a call exactly where one of its acts writes ISR, at any device.
pub isr_premise_exact : (d : Device) (c : Call) → writes_isr c ≡ some_act sets_isr (acts_of d.core c)
isr_premise_exact d c = isr_acts d.core c
