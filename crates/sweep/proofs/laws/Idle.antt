-- A poll of an input that does not wait makes nothing and changes nothing (idle-poll). Along calls that a sweep admits, an input that does not wait at the start
-- never does; so the polls of such inputs can be left out anywhere (saved-history, saved-numbers).
use Rattle.basics.proofs.Prelude.{◌≡◌, refl, sym, ap, ◌∙◌, Bool, true, false, cond, not, ◌&&◌, true≢false, and-eq-true_iff, List, [], ◌∷◌, ◌++◌, ℕ, ◌<◌, arith, ltb, ltb-true, ltb-false, ne_eqb, eqb-true, not-true, on, inputs, only, test, on_number, no_inputs}
use Rattle.rules.specs.Lines.{Lines, is_pending, pending_in, polled}
use Rattle.rules.specs.{Core.moved, Core.line_turn, Core.vectors_after, Core.stored_after, Core.turns, Ring.ring_run}
use Rattle.rules.specs.Device.{Device, Call, Step, acts_of, acted, offers, step}
use Rattle.rules.specs.{Numbering.Numbers, Numbering.takes_all, Numbering.numbers_after, History.history}
use Rattle.calls.specs.Waiting.{waiting_in}
use Rattle.histories.specs.{Demands.Eligible, Demands.in_service, exported.Exported.numbers_through}
use Rattle.sweep.specs.{Sweeps.sweeping, Sweeps.every_call, Waited.polls_outside, Waited.polling_only}
use Rattle.sweep.proofs.laws.OneInput.{Awake, call_swept}
use Rattle.rules.specs.Device as call

-- ---- one that does not wait

-- it is awake: in service if it is latched and unmasked; and the other way round
pub idle_awake : (n : ℕ) (b : n < 64) (l : Lines) → is_pending l n ≡ false → Awake n b l
idle_awake n b l e r = served (on l.isr n) (rw (r.latched, r.unmasked) at e)
  where
    served : (z : Bool) → not z ≡ false → z ≡ true
    served true u = refl
    served false u = absurd (true≢false u)

pub awake_idle : (n : ℕ) (b : n < 64) (l : Lines) → Awake n b l → is_pending l n ≡ false
awake_idle n b l h = go (on l.irr n) (on l.mask n) (on l.isr n) (λ x y. h (record { latched = x; unmasked = y })) refl refl
  where
    go : (x y z : Bool) → (on l.irr n ≡ true → on l.mask n ≡ false → z ≡ true) → on l.irr n ≡ x → on l.mask n ≡ y → (x && not y && not z) ≡ false
    go true true z g e f = refl
    go true false true g e f = refl
    go true false false g e f = sym (g e f)
    go false y z g e f = refl

-- nobody is polled into service
no_entry : (n : ℕ) (l : Lines) → (n < 64 → is_pending l n ≡ false) → inputs (pending_in (only n) l) ≡ []
no_entry n l e = no_inputs (pending_in (only n) l) (λ i b. test (only n i) (λ t. let is = eqb-true i n t in rw (t, is) (e (rw is at b))) (λ t. rw t))

pub idle_poll : (d : Device) (n : ℕ) → (n < 64 → is_pending d.core.lines n ≡ false) → step d (call.poll n) ≡ record { after = d; made = []; drained = [] }
unfolding step acts_of acted turns line_turn moved polled offers ring_run vectors_after stored_after
idle_poll d n e = rw (no_entry n d.core.lines e)

-- ---- along calls

-- no input outside w waits
abbrev pub OthersIdle : ℕ → Device → Type 0
OthersIdle w d = (n : ℕ) → n < 64 → on w n ≡ false → is_pending d.core.lines n ≡ false

-- the set of those that wait has none outside
pub at_the_start : (d : Device) → OthersIdle (waiting_in d.core.lines) d
at_the_start d n b e = sym (on_number 64 (is_pending d.core.lines) n b) ∙ e

module _ (w : ℕ) where
  still_idle : (d : Device) (c : Call) → sweeping c ≡ true → OthersIdle w d → OthersIdle w (step d c).after
  still_idle d c s o n b e = awake_idle n b (step d c).after.core.lines ((call_swept n b d c s).awake (idle_awake n b d.core.lines (o n b e)))

  -- a poll that is saved does nothing
  saved_poll : (d : Device) → OthersIdle w d → (c : Call) → polls_outside w c ≡ true → step d c ≡ record { after = d; made = []; drained = [] }
  saved_poll d o (call.level n x) e = absurd (true≢false (sym e))
  saved_poll d o (call.poll n) e = idle_poll d n (λ b. o n b (not-true (on w n) e))
  saved_poll d o (call.read x p) e = absurd (true≢false (sym e))
  saved_poll d o (call.write x p v) e = absurd (true≢false (sym e))
  saved_poll d o (call.drain k) e = absurd (true≢false (sym e))

  -- one call, and then what others come to
  abbrev behind : Step → Step → Step
  behind s t = record { after = t.after; made = s.made ++ t.made; drained = s.drained ++ t.drained }

  pub saved_history : (d : Device) (cs : List Call) → OthersIdle w d → every_call sweeping cs ≡ true → history d (polling_only w cs) ≡ history d cs
  unfolding history polling_only
  saved_history d [] o e = refl
  saved_history d (c ∷ cs) o e =
      let both = (and-eq-true_iff (sweeping c) (every_call sweeping cs)).0 e in
      test (polls_outside w c)
      (λ t. rw t (saved_history d cs o both.1 ∙ sym (ap (λ (s : Step). behind s (history s.after cs)) (saved_poll d o c t))))
      (λ t. rw t (ap (behind (step d c)) (saved_history (step d c).after cs (still_idle d c both.0 o) both.1)))

  -- it takes no number either
  saved_number : (d : Device) (s : Numbers) → OthersIdle w d → (c : Call) → polls_outside w c ≡ true → numbers_after d s c ≡ s
  unfolding numbers_after takes_all
  saved_number d s o (call.level n x) e = absurd (true≢false (sym e))
  saved_number d s o (call.poll n) e = rw (saved_poll d o (call.poll n) e)
  saved_number d s o (call.read x p) e = absurd (true≢false (sym e))
  saved_number d s o (call.write x p v) e = absurd (true≢false (sym e))
  saved_number d s o (call.drain k) e = absurd (true≢false (sym e))

  pub saved_numbers : (d : Device) (s : Numbers) (cs : List Call) → OthersIdle w d → every_call sweeping cs ≡ true → numbers_through d s (polling_only w cs) ≡ numbers_through d s cs
  unfolding numbers_through polling_only
  saved_numbers d s [] o e = refl
  saved_numbers d s (c ∷ cs) o e =
      let both = (and-eq-true_iff (sweeping c) (every_call sweeping cs)).0 e in
      test (polls_outside w c)
      (λ t. rw t (saved_numbers d s cs o both.1 ∙ (λ j. numbers_through (sym (ap (λ (x : Step). x.after) (saved_poll d o c t)) j) (sym (saved_number d s o c t) j) cs)))
      (λ t. rw t (saved_numbers (step d c).after (numbers_after d s c) cs (still_idle d c both.0 o) both.1))
