-- A call as the wait of one input takes it, and a day's waits by its marks.
use Rattle.basics.proofs.Prelude.{and-false, not-false, ◌≡◌, refl, sym, ap, subst, ◌∙◌, Bool, true, false, cond, not, ◌&&◌, ◌||◌, Bool·not-not, and-eq-true_iff, or-true, true≢false, List, [], ◌∷◌, ◌++◌, append-nil, ℕ, ◌+◌, ◌-◌, ◌<◌, ◌≤◌, max, arith, eqb, ltb, length, drop, drop_of_length-le, drop_at, eqb-true, eqb-false, eq-eqb, ne_eqb, on, only, test}
use Rattle.passes.proofs.laws.Acting.{settle_over, back_over, slot_append, notes_of_acts, NotRaise, step, Latched, Some, Gone, over_step, acts_step, raise_step}
use Rattle.rules.specs.{Lines.Lines, Core.Act, Core.move, Core.raise, Core.lower, Core.poll, Core.clear, Core.set_mask, Core.set_isr, Core.store, Core.set_vector, Account.tally}
use Rattle.rules.{specs.Device.Device, specs.Device.WellFormed, specs.Device.Call, specs.Device.acts_of, specs.Device.acted, proofs.laws.Steps.acted_one}
use Rattle.histories.{specs.Demands.done, specs.Demands.also, specs.Demands.is_raise, specs.Demands.call_takes, proofs.laws.Taking.call_latches, proofs.laws.Reach.each_so, proofs.laws.Reach.ReturnsNone, proofs.laws.Reach.write_returns_none, proofs.laws.WellFormed.step_well}
use Rattle.plain.specs.{Machine.Machine, Plain.Engine, Sequence.Item, Sequence.call, Sequence.load, Sequence.refused, Sequence.notes_of, Sequence.takes}
use Rattle.plain.proofs.laws.{Same.Run, Same.Same, Following.stepped, Following.counted_run, Following.like_call, Following.sized, Following.same_counted}
use Rattle.sheets.specs.Day.{Moment, after, number, made, moments}
use Rattle.sheets.specs.Waits.{moves_level, is_idle, begins, assert_of, asserts, clears_by, takes_it, takes_back, End, answered, withdrawn, end_from, waits, is_withdrawn, is_open, greatest}
use Rattle.passes.specs.tallies.Marks.{Mark, idle_in, act_marks, marks_of, item_marks, day_marks}
use Rattle.passes.specs.Slots.{NoLoad, Slot, start_at, slot_all, notes_in}
use Rattle.passes.proofs.laws.{Marking.eqb_sym, Taken.takes_is}
use Rattle.rules.specs.Device as device

module _ (n : ℕ) (below : n < 64) where
  not_raise : (k : ℕ) (a : Act) → ReturnsNone a → NotRaise n below k a
  not_raise k (move (poll m)) t = tt
  not_raise k (move (raise m)) t = t
  not_raise k (move (lower m)) t = tt
  not_raise k (move (clear b)) t = tt
  not_raise k (move (set_mask h v)) t = tt
  not_raise k (set_isr h v) t = tt
  not_raise k (store x) t = tt
  not_raise k (set_vector m v) t = tt

  -- ---- one call

  abbrev CallSteps : ℕ → Device → Call → Slot → Type 0
  CallSteps k d c s =
      let ms = marks_of k d (acts_of d.core c) in
      slot_all n s ms ≡ step n below k (moves_level n true c && idle_in d.core.lines n) (Some n below k ms) (Gone n below k (device.step d c).after.core.lines) s

  call_steps : (k : ℕ) (d : Device) (c : Call) (s : Slot) → Latched n below k s d.core.lines → CallSteps k d c s
  unfolding acts_of device.step marks_of
  call_steps k d (device.level m true) s h =
      let a = move (raise m) in
      subst (λ (ms : List Mark). slot_all n s ms ≡ step n below k (eqb m n && idle_in d.core.lines n) (Some n below k ms) (Gone n below k (acted d (a ∷ [])).core.lines) s) (sym (append-nil (act_marks k d a)))
      (raise_step n below k d m s h ∙ ap (λ (e : Device). step n below k (eqb m n && idle_in d.core.lines n) (Some n below k (act_marks k d a)) (Gone n below k e.core.lines) s) (sym (acted_one d a)))
  call_steps k d (device.level m false) s h = acts_step n below k d (move (lower m) ∷ []) (also tt done) s h
  call_steps k d (device.poll m) s h = acts_step n below k d (move (poll m) ∷ []) (also tt done) s h
  call_steps k d (device.read w o) s h = acts_step n below k d [] done s h
  call_steps k d (device.write w o v) s h = acts_step n below k d (acts_of d.core (device.write w o v)) (each_so (not_raise k) (write_returns_none d.core w o v)) s h
  call_steps k d (device.drain j) s h = acts_step n below k d [] done s h

  -- a wait that is not over after a record has its input latched
  step_latched : (k : ℕ) (b a t : Bool) (s : Slot) → ((step n below k b a t s).since ≡ 0 → ⊥) → t ≡ false
  unfolding step
  step_latched k b true t s x = absurd (x (settle_over n below k (cond b (start_at k s) s)))
  step_latched k b false true s x = absurd (x (back_over n below k (cond b (start_at k s) s)))
  step_latched k b false false s x = refl

  -- ---- the record, and the latch

  -- where a wait goes on, its input is latched: then the record takes it back exactly if the latch is off afterwards
  pub latch_told : (k : ℕ) (d : Device) (c : Call) → on d.core.lines.irr n ≡ true → Gone n below k (device.step d c).after.core.lines ≡ takes_it n c
  latch_told k d c h =
      ap not (call_latches n below d c ∙ ap (λ y. is_raise n c || (y && not (call_takes n d c))) h ∙ ap (λ y. is_raise n c || not y) (takes_is n below d c)) ∙ last c
    where
      last : (c : Call) → not (is_raise n c || not (takes_it n c)) ≡ takes_it n c
      last (device.level m true) = ap not (or-true (only m n))
      last (device.level m false) = Bool·not-not (eqb m n)
      last (device.poll m) = refl
      last (device.read w o) = refl
      last (device.write w o v) = Bool·not-not (clears_by n w o v)
      last (device.drain j) = refl

  -- where one begins, the raise latches it
  pub raise_told : (k : ℕ) (d : Device) (c : Call) → moves_level n true c ≡ true → Gone n below k (device.step d c).after.core.lines ≡ takes_it n c
  raise_told k d (device.level m true) e =
      ap not (call_latches n below d (device.level m true) ∙ ap (λ y. y || (on d.core.lines.irr n && not (call_takes n d (device.level m true)))) (eqb_sym n m ∙ e))
  raise_told k d (device.level m false) e = absurd (true≢false (sym e))
  raise_told k d (device.poll m) e = absurd (true≢false (sym e))
  raise_told k d (device.read w o) e = absurd (true≢false (sym e))
  raise_told k d (device.write w o v) e = absurd (true≢false (sym e))
  raise_told k d (device.drain j) e = absurd (true≢false (sym e))

  -- and elsewhere there is nothing to take back
  step_same : (k : ℕ) (b a t u : Bool) (s : Slot) → ((s.since ≡ 0 → ⊥) → t ≡ u) → (b ≡ true → t ≡ u) → step n below k b a t s ≡ step n below k b a u s
  step_same k true a t u s f g = ap (λ x. step n below k true a x s) (g refl)
  step_same k false a t u s f g =
      test (eqb s.since 0)
      (λ z. let o = eqb-true s.since 0 z in sym (over_step n below k a t s o) ∙ over_step n below k a u s o)
      (λ z. ap (λ x. step n below k false a x s) (f (eqb-false s.since 0 z)))

  -- ---- the ends of waits

  -- the wait that is not over, and those that begin
  abbrev pub ends_from : Slot → List Moment → List End
  ends_from s ms = cond (eqb s.since 0) [] (end_from n (s.since - 1) ms ∷ []) ++ waits n ms

  pub record Closed (s t : Slot) (ws : List End) : Type 0 where
    pub greatest : t.greatest ≡ max s.greatest (greatest ws)
    pub withdrawn : t.withdrawn ≡ s.withdrawn + tally is_withdrawn ws
    pub lasts : cond (eqb t.since 0) 0 1 ≡ tally is_open ws

  closed_none : (s : Slot) → Closed s s (ends_from s [])
  unfolding end_from waits greatest tally
  closed_none s =
      test (eqb s.since 0)
      (λ t. rw t (record { greatest = omega arith; withdrawn = omega arith; lasts = rw t refl }))
      (λ t. rw t (record { greatest = omega arith; withdrawn = omega arith; lasts = rw t refl }))

  -- one record more in front: whether a wait begins there, whether an assert was made, whether the latch is gone
  module _ (k : ℕ) (e : ℕ → End) (ws : List End) where
    ended : (a u : Bool) → ℕ → End
    ended a u j = cond a (answered (k - j)) (cond u withdrawn (e j))

    abbrev Later : Slot → Slot → Type 0
    Later z t = Closed z t (cond (eqb z.since 0) [] (e (z.since - 1) ∷ []) ++ ws)

    abbrev Now : (b a u : Bool) → Slot → Slot → Type 0
    Now b a u s t = Closed s t (cond (eqb s.since 0) [] (ended a u (s.since - 1) ∷ []) ++ (cond b (ended a u k ∷ []) [] ++ ws))

    over_now : (b a u : Bool) (s t : Slot) → s.since ≡ 0 → Closed s t (cond b (ended a u k ∷ []) [] ++ ws) → Now b a u s t
    over_now b a u s t z c = rw (eq-eqb s.since 0 z) c

    -- a wait begins here
    begun_now : (a u : Bool) (s t : Slot) → s.since ≡ 0 → Later (step n below k true a u s) t → Now true a u s t
    unfolding step ended greatest tally
    begun_now true u s t z c =
        let c₁ = (rw (ne_eqb (k + 1) 0 (λ q. omega (arith, q))) at c) in
        over_now true true u s t z (record { greatest = omega (arith, c₁.greatest); withdrawn = omega (arith, c₁.withdrawn); lasts = omega (arith, c₁.lasts) })
    begun_now false true s t z c =
        let c₁ = (rw (ne_eqb (k + 1) 0 (λ q. omega (arith, q))) at c) in
        over_now true false true s t z (record { greatest = omega (arith, c₁.greatest); withdrawn = omega (arith, c₁.withdrawn); lasts = omega (arith, c₁.lasts) })
    begun_now false false s t z c =
        let j : k + 1 - 1 ≡ k = omega arith in
        let c₁ = (rw (ne_eqb (k + 1) 0 (λ q. omega (arith, q)), j) at c) in
        over_now true false false s t z (record { greatest = c₁.greatest; withdrawn = c₁.withdrawn; lasts = c₁.lasts })

    earlier : (j : ℕ) → (j ≡ 0 → ⊥) → k + 1 - j ≡ k - (j - 1)
    earlier j h = omega (arith, h)

    max_both : (a b c : ℕ) → max (max a b) c ≡ max a (max b c)
    max_both a b c = omega arith

    -- one that began before
    lasting_now : (a u : Bool) (s t : Slot) → eqb s.since 0 ≡ false → Later (step n below k false a u s) t → Now false a u s t
    unfolding step ended greatest tally
    lasting_now true u s t z c =
        let c₁ = (rw z at c) in
        let same = earlier s.since (eqb-false s.since 0 z) in
        rw z (record { greatest = c₁.greatest ∙ max_both s.greatest (k + 1 - s.since) (greatest ws) ∙ ap (λ j. max s.greatest (max j (greatest ws))) same; withdrawn = omega (arith, c₁.withdrawn); lasts = omega (arith, c₁.lasts) })
    lasting_now false true s t z c =
        let c₁ = (rw z at c) in
        rw z (record { greatest = omega (arith, c₁.greatest); withdrawn = omega (arith, c₁.withdrawn); lasts = omega (arith, c₁.lasts) })
    lasting_now false false s t z c = c

    closed_now : (b a u : Bool) (s t : Slot) → ((s.since ≡ 0 → ⊥) → b ≡ false) → Later (step n below k b a u s) t → Now b a u s t
    closed_now true a u s t h c =
        test (eqb s.since 0) (λ z. begun_now a u s t (eqb-true s.since 0 z) c) (λ z. absurd (true≢false (h (eqb-false s.since 0 z))))
    closed_now false a u s t h c =
        test (eqb s.since 0)
        (λ z. let o = eqb-true s.since 0 z in over_now false a u s t o (rw z at (subst (λ (y : Slot). Later y t) (sym (over_step n below k a u s o)) c)))
        (λ z. lasting_now a u s t z c)

  closed_next : (m : Moment) (ms : List Moment) (s t : Slot) → ((s.since ≡ 0 → ⊥) → begins n m ≡ false) → {z : Slot} → z ≡ step n below (number m) (begins n m) (asserts n m) (takes_back n m) s
      → Closed z t (ends_from z ms) → Closed s t (ends_from s (m ∷ ms))
  unfolding end_from waits ended
  closed_next m ms s t h e c =
      closed_now (number m) (λ j. end_from n j ms) (waits n ms) (begins n m) (asserts n m) (takes_back n m) s t h (subst (λ (y : Slot). Closed y t (ends_from y ms)) e c)

  -- ---- a day

  module _ (e : Engine) (r : Run) (x : Same e r) where
    abbrev lines : Lines
    lines = r.device.core.lines

    idle_same : is_idle n e ≡ idle_in lines n
    idle_same = ap (λ (y : Machine). not y.latched && not y.in_service) (x.machine n below)

    -- the events that a call made
    made_call : (c : Call) → Same (takes e (call c)).after (stepped r c) → made (record { before = e; item = call c }) ≡ notes_in (marks_of r.call r.device (acts_of r.device.core c))
    unfolding device.step
    made_call c y =
        let new = notes_of r.call r.device.ring (device.step r.device c).made in
        ap (drop (length e.history)) y.tail.notes ∙ (λ i. drop (length (x.tail.notes i)) (r.notes ++ new)) ∙ drop_at r.notes new (length r.notes) refl
        ∙ sym (notes_of_acts r.call r.device (acts_of r.device.core c))

    made_none : made (record { before = e; item = refused }) ≡ []
    made_none = let h : length e.history ≤ length e.history = omega arith in drop_of_length-le e.history h

    -- a call, and a refused record, as steps of the wait
    call_moment : (c : Call) (y : Same (takes e (call c)).after (stepped r c)) (s : Slot) → Latched n below r.call s lines
        → slot_all n s (item_marks r.call r.device (call c)) ≡ (let m : Moment = record { before = e; item = call c } in step n below (number m) (begins n m) (asserts n m) (takes_back n m) s)
    call_moment c y s h =
        let b = moves_level n true c && idle_in lines n in
        let some = Some n below r.call (marks_of r.call r.device (acts_of r.device.core c)) in
        let gone = Gone n below r.call (device.step r.device c).after.core.lines in
        call_steps r.call r.device c s h
        ∙ step_same r.call b some gone (takes_it n c) s (λ q. latch_told r.call r.device c (h q))
        (λ t. raise_told r.call r.device c ((and-eq-true_iff (moves_level n true c) (idle_in lines n)).0 t).0)
        ∙ (λ i. step n below (sym x.call i) (moves_level n true c && sym idle_same i) (ltb 0 (tally (assert_of n) (sym (made_call c y) i))) (takes_it n c) s)

    refused_moment : (s : Slot) → s ≡ (let m : Moment = record { before = e; item = refused } in step n below (number m) (begins n m) (asserts n m) (takes_back n m) s)
    unfolding step tally
    refused_moment s = λ i. step n below e.call false (ltb 0 (tally (assert_of n) (sym made_none i))) false s

    -- a wait that is not over: no other begins
    begins_none : (c : Call) (s : Slot) → Latched n below r.call s lines → (s.since ≡ 0 → ⊥) → begins n (record { before = e; item = call c }) ≡ false
    begins_none c s h z = ap (λ b. moves_level n true c && b) (idle_same ∙ ap (λ b. not b && not (on lines.isr n)) (h z)) ∙ and-false (moves_level n true c)

  pub day_closes : (xs : List Item) (e : Engine) (r : Run) → Same e r → WellFormed r.device → NoLoad xs → (s : Slot) → Latched n below r.call s r.device.core.lines
      → Closed s (slot_all n s (day_marks r.call r.device xs)) (ends_from s (moments e xs))
  unfolding day_marks moments slot_all
  day_closes [] e r x w l s h = closed_none s
  day_closes (call c ∷ xs) e r x w l s h =
      let y = (like_call e r x (sized w) c).after in
      let z = slot_all n s (item_marks r.call r.device (call c)) in
      let is = call_moment e r x c y s h in
      let m : Moment = record { before = e; item = call c } in
      let latched : Latched n below (r.call + 1) z (stepped r c).device.core.lines =
      λ q. not-false (on (stepped r c).device.core.lines.irr n)
      (step_latched r.call (moves_level n true c && idle_in r.device.core.lines n) (Some n below r.call (marks_of r.call r.device (acts_of r.device.core c)))
      (Gone n below r.call (device.step r.device c).after.core.lines) s (λ o. q (ap (λ (v : Slot). v.since) (call_steps r.call r.device c s h) ∙ o)))
      in
      let rest = day_closes xs (takes e (call c)).after (stepped r c) y (step_well r.device c w) l z latched in
      let whole : slot_all n z (day_marks (r.call + 1) (device.step r.device c).after xs) ≡ slot_all n s (item_marks r.call r.device (call c) ++ day_marks (r.call + 1) (device.step r.device c).after xs) =
      sym (slot_append n s (item_marks r.call r.device (call c)) (day_marks (r.call + 1) (device.step r.device c).after xs))
      in
      closed_next m (moments (takes e (call c)).after xs) s _ (begins_none e r x c s h) is (subst (λ (v : Slot). Closed z v (ends_from z (moments (takes e (call c)).after xs))) whole rest)
  day_closes (load d ∷ xs) e r x w l s h = absurd l
  day_closes (refused ∷ xs) e r x w l s h =
      let rest = day_closes xs (takes e refused).after (counted_run r) (same_counted e r x) w l s h in
      closed_next (record { before = e; item = refused }) (moments (takes e refused).after xs) s _ (λ q. refl) (refused_moment e r x s) rest
