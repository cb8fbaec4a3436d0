-- What a call of a sweep makes: nothing, or the assert of the input that it polls or raises, returned, with the vector byte that it meets (call-announces).
-- So the ring is offered nothing; and of the call's answer area, where it is exported, a host reads that assert (read-is-asserted).
use Rattle.basics.proofs.Prelude.{◌≡◌, refl, sym, ap, ◌∙◌, true, false, cond, ◌&&◌, true≢false, and-eq-true_iff, and-true, List, [], ◌∷◌, ◌++◌, append-nil, append_assoc, ℕ, ◌+◌, ◌*◌, ◌^◌, ◌<◌, arith, get_or, eq-eqb, eqb-true, inputs, only, put, test, first_has}
use Rattle.rules.specs.Lines.{Lines, Made, with_irr, pending_in, serve, enter, polled, raised}
use Rattle.rules.specs.{Ring.Event, Ring.Ring, Ring.RingAct, Ring.draw, Ring.kept, Ring.dropped, Ring.ring_step, Ring.ring_run, Ring.drawn, Core.moved, Core.line_turn, Core.turns}
use Rattle.rules.specs.{Device.Device, Device.Call, Device.some, Device.acts_of, Device.acted, Device.offers, Device.draws, Device.step, Numbering.Numbers, Numbering.returned_with, Numbering.value_with}
use Rattle.rules.{specs.History.history, specs.Account.tally, proofs.laws.Rings.fifo, proofs.laws.Counts.tally_append, proofs.laws.Counts.tally_nil}
use Rattle.calls.{specs.Calls.answered, specs.Calls.present_in, proofs.laws.Answers.none_read, proofs.laws.Answers.some_read}
use Rattle.histories.{specs.Premises.Along, specs.Demands.polls_or_raises, specs.Demands.asserts_of, specs.Demands.ring_acts, proofs.laws.Folds.still, proofs.laws.Folds.along_each}
use Rattle.sweep.specs.Sweeps.{sweeping, every_call, assert_from, Announced, nothing, one, AssertedBy}
use Rattle.sweep.proofs.laws.Quiet.{write_leaves_lines, along_every}
use Rattle.rules.specs.Device as call

-- ---- what one call makes

entering_announces : (d : Device) (c : Call) (m : ℕ) (l : Lines) → polls_or_raises m c ≡ true → (step d c).made ≡ (enter d.core.vectors false (only m) l).made
    → Announced d c
entering_announces d c m l p e = go (inputs (pending_in (only m) l)) refl
  where
    go : (ns : List ℕ) → inputs (pending_in (only m) l) ≡ ns → Announced d c
    go [] f = nothing (e ∙ ap (λ ns. (serve d.core.vectors false l ns).made) f)
    go (k ∷ ns) f =
        let first = (first_has 0 64 (pending_in (only m) l) k ns f).0 in
        let is = eqb-true k m ((and-eq-true_iff (only m k) _).0 first).0 in
        one m p (e ∙ ap (λ ns. (serve d.core.vectors false l ns).made) f ∙ ap (λ i. assert_from d i ∷ []) is)

pub call_announces : (d : Device) (c : Call) → sweeping c ≡ true → Announced d c
unfolding step acts_of turns line_turn moved raised polled
call_announces d (call.level m true) e =
    entering_announces d (call.level m true) m (with_irr d.core.lines (put d.core.lines.irr m)) (eq-eqb m m refl) (append-nil _)
call_announces d (call.level m false) e = absurd (true≢false (sym e))
call_announces d (call.poll m) e = entering_announces d (call.poll m) m d.core.lines (eq-eqb m m refl) (append-nil _)
call_announces d (call.read w o) e = nothing refl
call_announces d (call.write w o v) e = nothing (still d.core (write_leaves_lines d.core w o v e)).0
call_announces d (call.drain k) e = nothing refl

pub calls_announce : (d : Device) (cs : List Call) → every_call sweeping cs ≡ true → Along Announced d cs
calls_announce d cs e = along_each (λ e c. sweeping c ≡ true) Announced call_announces d cs (along_every sweeping d cs e)

-- ---- the call that asserts an input

asserted_behind : (n : ℕ) (d : Device) (c : Call) (cs : List Call) → AssertedBy n (step d c).after cs → AssertedBy n d (c ∷ cs)
unfolding history
asserted_behind n d c cs r =
    record {
      before = c ∷ r.before;
      call = r.call;
      later = r.later;
      met = r.met;
      whole = ap (λ ys. c ∷ ys) r.whole;
      meets = r.meets;
      asks = r.asks;
      made = r.made;
    }

asserted_here : (n : ℕ) (d : Device) (c : Call) (cs : List Call) → Announced d c → (asserts_of n (step d c).made ≡ 0 → AssertedBy n d (c ∷ cs)) → AssertedBy n d (c ∷ cs)
unfolding history tally
asserted_here n d c cs (nothing e) behind = behind (rw e)
asserted_here n d c cs (one m q e) behind =
    test (only n m)
    (λ t.
    let is = eqb-true m n t in
    record {
      before = [];
      call = c;
      later = cs;
      met = d;
      whole = refl;
      meets = refl;
      asks = ap (λ i. polls_or_raises i c) (sym is) ∙ q;
      made = e ∙ ap (λ i. assert_from d i ∷ []) is;
    })
    (λ t. behind (rw (e, t)))

pub asserted_by : (n : ℕ) (d : Device) (cs : List Call) → Along Announced d cs → 0 < asserts_of n (history d cs).made → AssertedBy n d cs
unfolding history Along
asserted_by n d [] a p = absurd (omega (arith, p, tally_nil (λ (m : Made). m.asserted && only n m.input)))
asserted_by n d (c ∷ cs) a p =
    let after = (step d c).after in
    let both = tally_append (λ (m : Made). m.asserted && only n m.input) (step d c).made (history after cs).made in
    asserted_here n d c cs a.0 (λ z. asserted_behind n d c cs (asserted_by n after cs a.1 (omega (arith, both, z, p))))

-- ---- the ring

-- what is drained and what waits is what waited, and no drop is counted
abbrev pub DrainedOnly : Ring → List Event → Ring → Type 0
DrainedOnly r es s = (es ++ s.waiting ≡ r.waiting) × (s.drops ≡ r.drops)

draws_only : (r : Ring) (c : Call) → DrainedOnly r (ring_run r (draws c)).drained (ring_run r (draws c)).after
unfolding ring_run ring_step drawn kept
draws_only r (call.level n b) = (refl, refl)
draws_only r (call.poll n) = (refl, refl)
draws_only r (call.read w o) = (refl, refl)
draws_only r (call.write w o v) = (refl, refl)
draws_only r (call.drain k) = (sym (fifo r (draw k ∷ [])) ∙ append-nil r.waiting, refl)

unoffered : (d : Device) (c : Call) → Announced d c → offers (step d c).made ≡ []
unfolding offers
unoffered d c (nothing e) = rw e
unoffered d c (one n p e) = rw e

call_drains : (d : Device) (c : Call) → Announced d c → DrainedOnly d.ring (step d c).drained (step d c).after.ring
unfolding step acted ring_run
call_drains d c a = rw (unoffered d c a) (draws_only d.ring c)

pub calls_drain : (d : Device) (cs : List Call) → Along Announced d cs → DrainedOnly d.ring (history d cs).drained (history d cs).after.ring
unfolding history Along
calls_drain d [] a = (refl, refl)
calls_drain d (c ∷ cs) a =
    let first = call_drains d c a.0 in
    let rest = calls_drain (step d c).after cs a.1 in
    (append_assoc (step d c).drained (history (step d c).after cs).drained _ ∙ ap (λ es. (step d c).drained ++ es) rest.0 ∙ first.0, rest.1 ∙ first.1)

-- nothing is dropped, wherever the count stands
draws_lose_none : (c : Call) (xs : List RingAct) → ((s : Ring) → dropped s xs ≡ []) → (s : Ring) → dropped s (draws c ++ xs) ≡ []
unfolding dropped
draws_lose_none (call.level n b) xs f s = f s
draws_lose_none (call.poll n) xs f s = f s
draws_lose_none (call.read w o) xs f s = f s
draws_lose_none (call.write w o v) xs f s = f s
draws_lose_none (call.drain k) xs f s = f (ring_step s (draw k)).after

pub calls_lose_none : (d : Device) (cs : List Call) → Along Announced d cs → (s : Ring) → dropped s (ring_acts d cs) ≡ []
unfolding Along ring_acts dropped
calls_lose_none d [] a s = refl
calls_lose_none d (c ∷ cs) a s = rw (unoffered d c a.0) (draws_lose_none c (ring_acts (step d c).after cs) (calls_lose_none (step d c).after cs a.1) s)

-- ---- the answer of one call

-- a poll or raise of one input is none of another
asks_one : (c : Call) (k i : ℕ) → polls_or_raises k c ≡ true → polls_or_raises i c ≡ only i k
asks_one (call.level m true) k i e = ap (only i) (eqb-true m k e)
asks_one (call.level m false) k i e = absurd (true≢false (sym e))
asks_one (call.poll m) k i e = ap (only i) (eqb-true m k e)
asks_one (call.read w o) k i e = absurd (true≢false (sym e))
asks_one (call.write w o v) k i e = absurd (true≢false (sym e))
asks_one (call.drain j) k i e = absurd (true≢false (sym e))

-- it answers the vector that it returned, with its number
answers_returned : (d : Device) (s : Numbers) (c : Call) (k : ℕ) → polls_or_raises k c ≡ true → value_with d s c ≡ returned_with s (step d c).made
unfolding value_with
answers_returned d s (call.level m b) k e = refl
answers_returned d s (call.poll m) k e = refl
answers_returned d s (call.read w o) k e = absurd (true≢false (sym e))
answers_returned d s (call.write w o v) k e = absurd (true≢false (sym e))
answers_returned d s (call.drain j) k e = absurd (true≢false (sym e))

pub read_is_asserted : (d : Device) (s : Numbers) (c : Call) → Announced d c → (i : ℕ) (a : List ℕ)
    → cond (polls_or_raises i c && present_in (answered 0 (value_with d s c) a)) 1 0 ≡ asserts_of i (step d c).made
unfolding tally
read_is_asserted d s c (nothing e) i a =
    test (polls_or_raises i c) (λ t. rw (t, answers_returned d s c i t, e, none_read 0 a)) (λ t. rw (t, e))
read_is_asserted d s c (one k p e) i a =
    rw (asks_one c k i p, answers_returned d s c k p, e, some_read 0 a (get_or d.core.vectors k 0 + 2 ^ 16 * s.next), and-true) (omega arith)

-- where there is a vector, it is the byte that the input has in d, and the number behind it is the next
pub vector_answered : (d : Device) (s : Numbers) (c : Call) → Announced d c → (i : ℕ) (a : List ℕ) → polls_or_raises i c ≡ true
    → present_in (answered 0 (value_with d s c) a) ≡ true → value_with d s c ≡ some (get_or d.core.vectors i 0 + 2 ^ 16 * s.next)
vector_answered d s c (nothing e) i a p t =
    absurd (true≢false (sym t ∙ ap (λ v. present_in (answered 0 v a)) (answers_returned d s c i p ∙ ap (returned_with s) e) ∙ none_read 0 a))
vector_answered d s c (one k q e) i a p t =
    let is = eqb-true k i (sym (asks_one c k i q) ∙ p) in
    answers_returned d s c i p ∙ ap (returned_with s) e ∙ ap (λ m. some (get_or d.core.vectors m 0 + 2 ^ 16 * s.next)) is
