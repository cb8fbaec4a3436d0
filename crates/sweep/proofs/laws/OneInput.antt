-- One input along a sweep: its mask bit stays, its latch and its service never go off, it comes into service only latched and unmasked and then makes one
-- assert, and once it has been polled it is in service whenever it is latched and unmasked.
use Rattle.basics.proofs.Prelude.{◌≡◌, refl, sym, ap, ◌∙◌, ◌⊎◌, inl, inr, ⊎_elim, Bool, true, false, cond, not, ◌&&◌, true≢false, and-eq-true_iff, or-true, or-false, List, [], ◌∷◌, ◌++◌, ℕ, ◌+◌, ◌<◌, arith, eq-eqb, ne_eqb, eqb-true, eqb-false, on, inputs, only, put, test, on_put, first_has}
use Rattle.rules.specs.Lines.{Lines, Made, event, with_irr, with_isr, pending_in, serve, enter, polled, raised}
use Rattle.rules.specs.Core.{Core, poll, raise, lower, clear, set_mask, Act, move, set_isr, store, set_vector, moved, line_turn, turn, turns}
use Rattle.rules.{specs.Device.Device, specs.Device.Call, specs.Device.acts_of, specs.Device.acted, specs.Device.step, specs.History.history, specs.Account.tally, proofs.laws.Counts.tally_append}
use Rattle.histories.{specs.Demands.in_service, specs.Demands.Eligible, specs.Demands.polls_or_raises, specs.Demands.asserts_of, proofs.laws.Folds.fold_acts, proofs.laws.Folds.fold_calls}
use Rattle.sweep.specs.Sweeps.{sweeping, every_call, some_call, deasserts_in}
use Rattle.laws.proofs.laws.Serving.{poll_serves}
use Rattle.sweep.proofs.laws.Quiet.{Settled, settled_acts, along_every}
use Rattle.rules.specs.Device as call

pending_is : (a b c d : Bool) → (a && ((b && not c) && not d)) ≡ true → (b ≡ true) × (c ≡ false) × (d ≡ false)
pending_is true true false false u = (refl, refl, refl)
pending_is true true false true u = absurd (true≢false (sym u))
pending_is true true true d u = absurd (true≢false (sym u))
pending_is true false c d u = absurd (true≢false (sym u))
pending_is false b c d u = absurd (true≢false (sym u))

serve_keeps : (vs : List ℕ) (o : Bool) (l : Lines) (ns : List ℕ) → ((serve vs o l ns).after.irr ≡ l.irr) × ((serve vs o l ns).after.mask ≡ l.mask)
serve_keeps vs o l [] = (refl, refl)
serve_keeps vs o l (n ∷ ns) = (refl, refl)

module _ (n : ℕ) (b : n < 64) where
  -- n is in service if it is latched and unmasked
  abbrev pub Awake : Lines → Type 0
  Awake l = Eligible n l → in_service n l ≡ true

  -- from l to k, making these events
  pub record Swept (l : Lines) (ms : List Made) (k : Lines) : Type 0 where
    pub mask : k.mask ≡ l.mask
    pub latched : on l.irr n ≡ true → on k.irr n ≡ true
    pub cause : in_service n k ≡ true → (in_service n l ≡ true) ⊎ Eligible n k
    pub count : asserts_of n ms + cond (in_service n l) 1 0 ≡ cond (in_service n k) 1 0
    pub awake : Awake l → Awake k
    pub silent : deasserts_in ms ≡ 0

  swept_none : (l : Lines) → Swept l [] l
  unfolding tally
  swept_none l = record { mask = refl; latched = λ e. e; cause = λ e. inl e; count = omega arith; awake = λ h. h; silent = refl }

  eligible_on : (l k : Lines) (ms : List Made) → Swept l ms k → Eligible n l → Eligible n k
  eligible_on l k ms s r = record { latched = s.latched r.latched; unmasked = ap (λ x. on x n) s.mask ∙ r.unmasked }

  swept_next : (l k j : Lines) (xs ys : List Made) → Swept l xs k → Swept k ys j → Swept l (xs ++ ys) j
  swept_next l k j xs ys s t =
      record {
        mask = t.mask ∙ s.mask;
        latched = λ e. t.latched (s.latched e);
        cause = λ e. ⊎_elim (λ u. ⊎_elim (λ v. inl v) (λ r. inr (eligible_on k j ys t r)) (s.cause u)) (λ r. inr r) (t.cause e);
        count = omega (arith, tally_append (λ (m : Made). m.asserted && only n m.input) xs ys, s.count, t.count);
        awake = λ h. t.awake (s.awake h);
        silent = omega (arith, tally_append (λ (m : Made). not m.asserted) xs ys, s.silent, t.silent);
      }

  -- ---- the steps of the lines

  -- an input that waits goes into service
  serve_swept : (vs : List ℕ) (l : Lines) (m : ℕ) → on l.irr m ≡ true → on l.mask m ≡ false → on l.isr m ≡ false
      → Swept l (event vs false true m ∷ []) (with_isr l (put l.isr m))
  unfolding tally
  serve_swept vs l m latched unmasked off =
      test (only m n)
      (λ t.
      let is = eqb-true n m t in
      record {
        mask = refl;
        latched = λ e. e;
        cause = λ e. inr (record { latched = rw is latched; unmasked = rw is unmasked });
        count = rw (on_put l.isr m n b, t, eq-eqb m n (sym is), or-true) (rw is (rw off));
        awake = λ h r. rw (on_put l.isr m n b, t) (or-true (on l.isr n));
        silent = refl;
      })
      (λ t.
      let same : on (put l.isr m) n ≡ on l.isr n = on_put l.isr m n b ∙ rw t (or-false (on l.isr n)) in
      record {
        mask = refl;
        latched = λ e. e;
        cause = λ e. inl (sym same ∙ e);
        count = rw (same, ne_eqb m n (λ e. eqb-false n m t (sym e))) (omega arith);
        awake = λ h r. same ∙ h (record { latched = r.latched; unmasked = r.unmasked });
        silent = refl;
      })

  enter_swept : (vs : List ℕ) (f : ℕ → Bool) (l : Lines) → Swept l (enter vs false f l).made (enter vs false f l).after
  enter_swept vs f l = go (inputs (pending_in f l)) refl
    where
      go : (ns : List ℕ) → inputs (pending_in f l) ≡ ns → Swept l (serve vs false l ns).made (serve vs false l ns).after
      go [] e = swept_none l
      go (m ∷ ns) e =
          let r = pending_is (f m) (on l.irr m) (on l.mask m) (on l.isr m) (first_has 0 64 (pending_in f l) m ns e).0 in
          serve_swept vs l m r.0 r.1 r.2

  -- a poll of n leaves it awake, and so does a raise
  polled_awake : (vs : List ℕ) (l : Lines) → Awake (polled vs l n).after
  unfolding polled
  polled_awake vs l r =
      let kept = serve_keeps vs false l (inputs (pending_in (only n) l)) in
      poll_serves n b vs l (ap (λ x. on x n) (sym kept.0) ∙ r.latched) (ap (λ x. on x n) (sym kept.1) ∙ r.unmasked)

  raised_awake : (vs : List ℕ) (l : Lines) → Awake (raised vs l n).after
  unfolding raised
  raised_awake vs l = polled_awake vs (with_irr l (put l.irr n))

  raise_awakes : (vs : List ℕ) (l : Lines) (m : ℕ) → Awake l → Awake (raised vs l m).after
  unfolding raised polled
  raise_awakes vs l m h =
      let k = with_irr l (put l.irr m) in
      test (only m n) (λ t. rw (← eqb-true n m t) (raised_awake vs l))
      (λ t.
      let same = on_put l.irr m n b ∙ rw t (or-false (on l.irr n)) in
      (enter_swept vs (only m) k).awake (λ r. h (record { latched = sym same ∙ r.latched; unmasked = r.unmasked })))

  raise_swept : (vs : List ℕ) (l : Lines) (m : ℕ) → Swept l (raised vs l m).made (raised vs l m).after
  unfolding raised polled
  raise_swept vs l m =
      let s = enter_swept vs (only m) (with_irr l (put l.irr m)) in
      record {
        mask = s.mask;
        latched = λ e. s.latched (rw (on_put l.irr m n b, e));
        cause = s.cause;
        count = s.count;
        awake = raise_awakes vs l m;
        silent = s.silent;
      }

  -- ---- acts, calls and stretches of calls

  act_swept : (c : Core) (a : Act) → Settled a → Swept c.lines (turn c a).made (turn c a).after.lines
  unfolding line_turn moved polled
  act_swept c (move (poll m)) t = enter_swept c.vectors (only m) c.lines
  act_swept c (move (raise m)) t = raise_swept c.vectors c.lines m
  act_swept c (move (lower m)) t = absurd (true≢false t)
  act_swept c (move (clear x)) t = absurd (true≢false t)
  act_swept c (move (set_mask h v)) t = absurd (true≢false t)
  act_swept c (set_isr h v) t = absurd (true≢false t)
  act_swept c (store s) t = swept_none c.lines
  act_swept c (set_vector m v) t = swept_none c.lines

  pub call_swept : (d : Device) (c : Call) → sweeping c ≡ true → Swept d.core.lines (step d c).made (step d c).after.core.lines
  unfolding step acted
  call_swept d c e =
      fold_acts (λ c ms e. Swept c.lines ms e.lines) (λ c. swept_none c.lines)
      (λ c e f xs ys x y. swept_next c.lines e.lines f.lines xs ys x y) Settled act_swept d.core (settled_acts d.core c e)

  pub calls_swept : (d : Device) (cs : List Call) → every_call sweeping cs ≡ true
      → Swept d.core.lines (history d cs).made (history d cs).after.core.lines
  calls_swept d cs e =
      fold_calls (λ d ms e. Swept d.core.lines ms e.core.lines) (λ d. swept_none d.core.lines)
      (λ d e f xs ys x y. swept_next d.core.lines e.core.lines f.core.lines xs ys x y) (λ d c. sweeping c ≡ true) call_swept
      d cs (along_every sweeping d cs e)

  call_awakes : (d : Device) (c : Call) → polls_or_raises n c ≡ true → Awake (step d c).after.core.lines
  unfolding step acted acts_of turns line_turn moved
  call_awakes d (call.level m true) e = rw (eqb-true m n e) (raised_awake d.core.vectors d.core.lines)
  call_awakes d (call.level m false) e = absurd (true≢false (sym e))
  call_awakes d (call.poll m) e = rw (eqb-true m n e) (polled_awake d.core.vectors d.core.lines)
  call_awakes d (call.read w o) e = absurd (true≢false (sym e))
  call_awakes d (call.write w o v) e = absurd (true≢false (sym e))
  call_awakes d (call.drain k) e = absurd (true≢false (sym e))

  -- once polled or raised, awake to the end
  pub calls_awake : (d : Device) (cs : List Call) → every_call sweeping cs ≡ true → some_call (polls_or_raises n) cs ≡ true
      → Awake (history d cs).after.core.lines
  unfolding history
  calls_awake d [] e p = absurd (true≢false (sym p))
  calls_awake d (c ∷ cs) e p =
      let both = (and-eq-true_iff (sweeping c) (every_call sweeping cs)).0 e in
      test (polls_or_raises n c) (λ t. (calls_swept (step d c).after cs both.1).awake (call_awakes d c t))
      (λ t. calls_awake (step d c).after cs both.1 (rw t at p))
