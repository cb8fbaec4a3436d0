-- An input that is not latched: no act but a raise of it makes an assert of it or latches it. CLEAR with its bit unlatches it.
use Rattle.basics.proofs.Prelude.{◌≡◌, refl, sym, ap, ◌∙◌, ⊎_elim, Bool, true, false, ◌&&◌, true≢false, and-false, List, [], ◌∷◌, ◌++◌, append-nil, ℕ, ◌<◌, arith, eqb-true, on, inputs, only, put, without, with_half, test, on_put, on_without, first_has}
use Rattle.rules.proofs.demands.Copy.{serve_irr}
use Rattle.rules.specs.Lines.{Lines, Made, event, with_irr, with_mask, pending_in, served_in, serve, enter, leave, newly_unmasked, newly_masked, polled, raised, lowered, cleared, masked}
use Rattle.rules.specs.Core.{Core, Move, poll, raise, lower, clear, set_mask, Act, move, set_isr, store, set_vector, moved, line_turn, turn, turns}
use Rattle.rules.specs.{Device.Device, Device.Call, Device.none, Device.acts_of, Device.acted, Device.step, Numbering.Numbers, Numbering.value_with, History.history, Account.tally}
use Rattle.rules.proofs.laws.Counts.{tally_append, tally_nil, tally_none}
use Rattle.histories.specs.{Premises.Along, Demands.Each, Demands.done, Demands.also, Demands.clears, Demands.some_act, Demands.Clears, Demands.Unraised, Demands.asserts_of}
use Rattle.laws.proofs.laws.Sets.{only_waiting}
use Rattle.histories.proofs.laws.Taking as taking
use Rattle.histories.proofs.laws.Reach.{each_both, each_so, NotMask, NotClear, mask_or_clear, ReturnsNone, write_returns_none}
use Rattle.histories.proofs.laws.Folds.{fold_acts, fold_calls}
use Rattle.rules.specs.Device as call

pub latched_of : (a b c d : Bool) → (a && ((b && c) && d)) ≡ true → b ≡ true
latched_of true true c d u = refl
latched_of true false c d u = u
latched_of false b c d u = absurd (true≢false (sym u))

module _ (n : ℕ) (b : n < 64) where
  -- from c to d, making these events
  pub record Quiet (ms : List Made) (l : Lines) : Type 0 where
    pub silent : asserts_of n ms ≡ 0
    pub unlatched : on l.irr n ≡ false

  -- ---- the two steps of the lines

  enter_silent : (vs : List ℕ) (o : Bool) (f : ℕ → Bool) (l : Lines) → on l.irr n ≡ false → asserts_of n (enter vs o f l).made ≡ 0
  unfolding tally
  enter_silent vs o f l h = go (inputs (pending_in f l)) refl
    where
      other : (m : ℕ) → pending_in f l m ≡ true → only n m ≡ false
      other m e =
          test (only n m) (λ t. absurd (true≢false (sym (latched_of (f m) (on l.irr m) _ _ e) ∙ rw (eqb-true m n t) h))) (λ t. t)

      go : (ns : List ℕ) → inputs (pending_in f l) ≡ ns → asserts_of n (serve vs o l ns).made ≡ 0
      go [] e = refl
      go (m ∷ ns) e = rw (other m (first_has 0 64 (pending_in f l) m ns e).0)

  enter_quiet : (vs : List ℕ) (o : Bool) (f : ℕ → Bool) (l : Lines) → on l.irr n ≡ false → Quiet (enter vs o f l).made (enter vs o f l).after
  enter_quiet vs o f l h =
      record { silent = enter_silent vs o f l h; unlatched = ap (λ x. on x n) (serve_irr vs o l (inputs (pending_in f l))) ∙ h }

  leave_silent : (vs : List ℕ) (o : Bool) (f : ℕ → Bool) (l : Lines) → asserts_of n (leave vs o f l).made ≡ 0
  leave_silent vs o f l = tally_none (λ m. m.asserted && only n m.input) (event vs o false) (λ m. refl) (inputs (served_in f l))

  leave_quiet : (vs : List ℕ) (o : Bool) (f : ℕ → Bool) (l : Lines) → on l.irr n ≡ false → Quiet (leave vs o f l).made (leave vs o f l).after
  leave_quiet vs o f l h = record { silent = leave_silent vs o f l; unlatched = h }

  fewer_latches : (l : Lines) (f : ℕ → Bool) → on l.irr n ≡ false → on (without l.irr f) n ≡ false
  fewer_latches l f h = on_without l.irr f n b ∙ rw h

  -- ---- acts

  -- an act is a raise of n
  abbrev raises_it : Act → Bool
  raises_it (move (poll m)) = false
  raises_it (move (raise m)) = only m n
  raises_it (move (lower m)) = false
  raises_it (move (clear x)) = false
  raises_it (move (set_mask h v)) = false
  raises_it (set_isr h v) = false
  raises_it (store s) = false
  raises_it (set_vector m v) = false

  move_quiet : (vs : List ℕ) (l : Lines) (m : Move) → raises_it (move m) ≡ false → on l.irr n ≡ false → Quiet (moved vs l m).made (moved vs l m).after
  unfolding moved polled raised lowered cleared masked
  move_quiet vs l (poll m) e h = enter_quiet vs false (only m) l h
  move_quiet vs l (raise m) e h = enter_quiet vs false (only m) (with_irr l (put l.irr m)) (on_put l.irr m n b ∙ rw (h, e))
  move_quiet vs l (lower m) e h = leave_quiet vs false (only m) (with_irr l (without l.irr (only m))) (fewer_latches l (only m) h)
  move_quiet vs l (clear x) e h = leave_quiet vs true (on x) (with_irr l (without l.irr (on x))) (fewer_latches l (on x) h)
  move_quiet vs l (set_mask g v) e h =
      let new = with_half g l.mask v in
      let k = with_mask l new in
      let one = enter_quiet vs true (newly_unmasked l.mask new) k h in
      let begun = enter vs true (newly_unmasked l.mask new) k in
      let two = leave_quiet vs true (newly_masked l.mask new) begun.after one.unlatched in
      let both = tally_append (λ m. m.asserted && only n m.input) begun.made (leave vs true (newly_masked l.mask new) begun.after).made in
      record { silent = omega (arith, both, one.silent, two.silent); unlatched = two.unlatched }

  act_quiet : (c : Core) (a : Act) → raises_it a ≡ false → on c.lines.irr n ≡ false → Quiet (turn c a).made (turn c a).after.lines
  unfolding line_turn
  act_quiet c (move m) e h = move_quiet c.vectors c.lines m e h
  act_quiet c (set_isr g v) e h = record { silent = tally_nil _; unlatched = h }
  act_quiet c (store s) e h = record { silent = tally_nil _; unlatched = h }
  act_quiet c (set_vector m v) e h = record { silent = tally_nil _; unlatched = h }

  -- ---- along acts and along calls

  abbrev Onward : Lines → List Made → Lines → Type 0
  Onward l ms k = on l.irr n ≡ false → Quiet ms k

  onward_next : (j k l : Lines) (xs ys : List Made) → Onward j xs k → Onward k ys l → Onward j (xs ++ ys) l
  onward_next j k l xs ys f g h =
      let one = f h in
      let two = g one.unlatched in
      record { silent = omega (arith, tally_append (λ m. m.asserted && only n m.input) xs ys, one.silent, two.silent); unlatched = two.unlatched }

  acts_quiet : (c : Core) {xs : List Act} → Each (λ a. raises_it a ≡ false) xs → Onward c.lines (turns c xs).made (turns c xs).after.lines
  acts_quiet =
      fold_acts (λ c ms d. Onward c.lines ms d.lines) (λ c h. record { silent = tally_nil _; unlatched = h })
      (λ c d e. onward_next c.lines d.lines e.lines) (λ a. raises_it a ≡ false) act_quiet

  -- a write raises nothing
  no_raise : (a : Act) → ReturnsNone a → raises_it a ≡ false
  no_raise (move (poll m)) t = refl
  no_raise (move (raise m)) t = absurd t
  no_raise (move (lower m)) t = refl
  no_raise (move (clear x)) t = refl
  no_raise (move (set_mask h v)) t = refl
  no_raise (set_isr h v) t = refl
  no_raise (store s) t = refl
  no_raise (set_vector m v) t = refl

  call_unraised : (d : Device) (c : Call) → Unraised n d c → Each (λ a. raises_it a ≡ false) (acts_of d.core c)
  unfolding acts_of
  call_unraised d (call.level m true) e = also e done
  call_unraised d (call.level m false) e = also refl done
  call_unraised d (call.poll m) e = also refl done
  call_unraised d (call.read w o) e = done
  call_unraised d (call.write w o v) e = each_so no_raise (write_returns_none d.core w o v)
  call_unraised d (call.drain k) e = done

  call_quiet : (d : Device) (c : Call) → Unraised n d c → Onward d.core.lines (step d c).made (step d c).after.core.lines
  unfolding step acted
  call_quiet d c e = acts_quiet d.core (call_unraised d c e)

  -- an input that is not latched makes no assert, and is not latched, until it is raised
  pub quiet_until_raised : (d : Device) (cs : List Call) → Along (Unraised n) d cs → on d.core.lines.irr n ≡ false
      → Quiet (history d cs).made (history d cs).after.core.lines
  quiet_until_raised =
      fold_calls (λ d ms e. Onward d.core.lines ms e.core.lines) (λ d h. record { silent = tally_nil _; unlatched = h })
      (λ d e f. onward_next d.core.lines e.core.lines f.core.lines) (Unraised n) call_quiet

  -- and a poll of it returns nothing, whatever the next number is
  pub poll_finds_none : (d : Device) (s : Numbers) → on d.core.lines.irr n ≡ false → value_with d s (call.poll n) ≡ none
  unfolding value_with step acts_of turns line_turn moved polled
  poll_finds_none d s h = rw (append-nil, only_waiting n d.core.lines b, h)

  -- ---- CLEAR

  clear_unlatches : (c : Core) (a : Act) → clears n a ≡ true → on (turn c a).after.lines.irr n ≡ false
  unfolding line_turn moved cleared
  clear_unlatches c (move (poll m)) e = absurd (true≢false (sym e))
  clear_unlatches c (move (raise m)) e = absurd (true≢false (sym e))
  clear_unlatches c (move (lower m)) e = absurd (true≢false (sym e))
  clear_unlatches c (move (clear x)) e = on_without c.lines.irr (on x) n b ∙ rw e (and-false (on c.lines.irr n))
  clear_unlatches c (move (set_mask h v)) e = absurd (true≢false (sym e))
  clear_unlatches c (set_isr h v) e = absurd (true≢false (sym e))
  clear_unlatches c (store s) e = absurd (true≢false (sym e))
  clear_unlatches c (set_vector m v) e = absurd (true≢false (sym e))

  acts_unlatch : (c : Core) {xs : List Act} → Each (λ a. raises_it a ≡ false) xs → some_act (clears n) xs ≡ true → on (turns c xs).after.lines.irr n ≡ false
  unfolding turns some_act
  acts_unlatch c done s = absurd (true≢false (sym s))
  acts_unlatch c (also {a = a} t e) s =
      test (clears n a) (λ k. (acts_quiet (turn c a).after e (clear_unlatches c a k)).unlatched) (λ k. acts_unlatch (turn c a).after e (rw k at s))

  -- a call that clears n is a write, and it writes no MASK
  clears_nothing : {xs : List Act} → Each NotClear xs → some_act (clears n) xs ≡ false
  unfolding some_act
  clears_nothing done = refl
  clears_nothing (also {a = move (poll m)} t e) = clears_nothing e
  clears_nothing (also {a = move (raise m)} t e) = clears_nothing e
  clears_nothing (also {a = move (lower m)} t e) = clears_nothing e
  clears_nothing (also {a = move (clear x)} t e) = absurd t
  clears_nothing (also {a = move (set_mask h v)} t e) = clears_nothing e
  clears_nothing (also {a = set_isr h v} t e) = clears_nothing e
  clears_nothing (also {a = store s} t e) = clears_nothing e
  clears_nothing (also {a = set_vector m v} t e) = clears_nothing e

  abbrev Gentle : Act → Type 0
  Gentle a = NotMask a × ReturnsNone a

  call_gentle : (d : Device) (c : Call) → Clears n d c → Each Gentle (acts_of d.core c)
  unfolding acts_of some_act
  call_gentle d (call.level m true) s = absurd (true≢false (sym s))
  call_gentle d (call.level m false) s = absurd (true≢false (sym s))
  call_gentle d (call.poll m) s = absurd (true≢false (sym s))
  call_gentle d (call.read w o) s = absurd (true≢false (sym s))
  call_gentle d (call.write w o v) s =
      ⊎_elim (λ e. each_both e (write_returns_none d.core w o v)) (λ e. absurd (true≢false (sym s ∙ clears_nothing e))) (mask_or_clear d.core w o v)
  call_gentle d (call.drain k) s = absurd (true≢false (sym s))

  -- so it makes no assert
  gentle_silent : (c : Core) (a : Act) → Gentle a → asserts_of n (turn c a).made ≡ 0
  unfolding line_turn moved cleared
  gentle_silent c (move (poll m)) t = absurd t.1
  gentle_silent c (move (raise m)) t = absurd t.1
  gentle_silent c (move (lower m)) t = absurd t.1
  gentle_silent c (move (clear x)) t = leave_silent c.vectors true (on x) (with_irr c.lines (without c.lines.irr (on x)))
  gentle_silent c (move (set_mask h v)) t = absurd t.0
  gentle_silent c (set_isr h v) t = tally_nil _
  gentle_silent c (store s) t = tally_nil _
  gentle_silent c (set_vector m v) t = tally_nil _

  pub clear_silent : (d : Device) (c : Call) → Clears n d c → asserts_of n (step d c).made ≡ 0
  unfolding step
  clear_silent d c s =
      fold_acts (λ c ms e. asserts_of n ms ≡ 0) (λ c. tally_nil _)
      (λ c e f xs ys x y. omega (arith, tally_append (λ m. m.asserted && only n m.input) xs ys, x, y)) Gentle gentle_silent d.core (call_gentle d c s)

  -- and leaves n unlatched
  pub call_unlatches : (d : Device) (c : Call) → Clears n d c → on (step d c).after.core.lines.irr n ≡ false
  unfolding step acted
  call_unlatches d c s = acts_unlatch d.core (each_so (λ a t. no_raise a t.1) (call_gentle d c s)) s
