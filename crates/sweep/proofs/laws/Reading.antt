-- What a host reads of exported calls whose calls are such as a sweep admits: in answer areas the asserts that the history makes, input by input
-- (asserts-read). And the 64 polls one after another: all are done (polls-done).
use Rattle.basics.proofs.Prelude.{◌≡◌, refl, sym, ap, ap₂, ◌∙◌, Bool, true, false, cond, not, ◌&&◌, true≢false, and-eq-true_iff, and-true, and-false, List, [], ◌∷◌, ◌++◌, map, ℕ, ◌+◌, arith, eqb, only, test}
use Rattle.rules.specs.{Lines.Made, Lines.event, Ring.Event, Device.Call, Device.Step, Device.step, Numbering.value_with, History.history, Account.tally}
use Rattle.rules.proofs.laws.Counts.{tally_append, tally_nil}
use Rattle.images.specs.Image.{numbers_in}
use Rattle.calls.{specs.Calls.Request, specs.Calls.pass, specs.Calls.calls, specs.Calls.asked_by, specs.Calls.answered, specs.Calls.present_in, specs.Calls.Outcome, proofs.laws.Requests.by_request}
use Rattle.histories.specs.Demands.{polls_or_raises, asserts_of, returned_in}
use Rattle.histories.specs.exported.Exported.{Exported, left_by, is_done, is_load, call_of, Underway, carried_on, NoLoads, done_call, done_calls, current, Faithful}
use Rattle.histories.proofs.{laws.Folds.history_append, exported.laws.Chains.handed, exported.laws.Chains.faithful_on, exported.laws.Chains.carried_on_lem}
use Rattle.sweep.specs.{Sweeps.sweeping, Sweeps.every_call, Sweeps.deasserts_in, Handed.asks_for, Handed.reads_assert, Handed.asserts_read}
use Rattle.sweep.proofs.laws.Announcing.{call_announces, read_is_asserted}
use Rattle.rules.specs.Device as device
use Rattle.calls.specs.Calls as request

-- ---- deasserts

-- an assert counts as none, and a deassert as one, returned or offered
deasserts_told : map deasserts_in ((event [] false true 5 ∷ []) ∷ (event [] false false 5 ∷ []) ∷ (event [] true false 5 ∷ []) ∷ []) ≡ 0 ∷ 1 ∷ 1 ∷ []
unfolding tally
deasserts_told = refl

-- what is returned is among what is made
pub returned_silent : (ms : List Made) → deasserts_in ms ≡ 0 → tally (λ (y : Event). not y.asserted) (returned_in ms) ≡ 0
unfolding tally returned_in
returned_silent [] e = refl
returned_silent (m ∷ ms) e =
    let rest = returned_silent ms (omega (arith, e)) in
    test m.offered (λ t. rw t rest) (λ t. rw t (omega (arith, e, rest)))

-- ---- one call

-- what a request asks for is what its call polls or raises
pub asks_is : (n : ℕ) (q : Request) (c : Call) → asked_by q ≡ calls (pass c) → asks_for n q ≡ polls_or_raises n c
asks_is n =
    by_request (λ q c. asks_for n q ≡ polls_or_raises n c) (λ base size address width w o. refl) (λ base size address width v w o. refl) (λ m v. levels m (not (eqb v 0)))
    (λ m. refl) (λ buffer place. refl)
  where
    levels : (m : ℕ) (b : Bool) → (only n m && b) ≡ polls_or_raises n (device.level m b)
    levels m true = and-true (only n m)
    levels m false = and-false (only n m)

-- of a refused call no assert is read
refused_reads_none : (i : ℕ) (x : Exported) → is_done x ≡ false → reads_assert i x ≡ false
refused_reads_none i x t = ap (λ b. b && (asks_for i x.asked && present_in (left_by x).answer)) t

-- ---- along exported calls

module _ (h : Underway) (f : Faithful h) (x : Exported) (n : is_load h.left x ≡ false) where
  one_read : every_call sweeping (done_call x) ≡ true → (i : ℕ) → cond (reads_assert i x) 1 0 ≡ asserts_of i (history (current h) (done_call x)).made
  unfolding history
  one_read e i =
      test (is_done x)
      (λ t.
      let r = handed h x f t n in
      let d = current h in
      let one : done_call x ≡ r.call ∷ [] = (λ j. cond (t j) (call_of (r.passes j)) []) in
      let ns = numbers_in x.given in
      let answer : (left_by x).answer ≡ answered 0 (value_with d ns r.call) x.answer = ap (λ (o : Outcome). o.answer) r.left in
      let admits = ((and-eq-true_iff (sweeping r.call) true).0 (rw one at e)).0 in
      let reads = read_is_asserted d ns r.call (call_announces d r.call admits) i x.answer in
      let whole = tally_append (λ (m : Made). m.asserted && only i m.input) (step d r.call).made [] in
      rw (one, t, answer, asks_is i x.asked r.call r.passes) (omega (arith, reads, whole, tally_nil (λ (m : Made). m.asserted && only i m.input))))
      (λ t.
      let none : done_call x ≡ [] = (λ j. cond (t j) (call_of (asked_by x.asked)) []) in
      rw (none, refused_reads_none i x t) (sym (tally_nil (λ (m : Made). m.asserted && only i m.input))))

every_append : (t : Call → Bool) (xs ys : List Call) → every_call t (xs ++ ys) ≡ true → (every_call t xs ≡ true) × (every_call t ys ≡ true)
every_append t [] ys e = (refl, e)
every_append t (c ∷ xs) ys e =
    let both = (and-eq-true_iff (t c) (every_call t (xs ++ ys))).0 e in
    let rest = every_append t xs ys both.1 in
    ((and-eq-true_iff (t c) (every_call t xs)).1 (both.0, rest.0), rest.1)

pub asserts_read_lem : (h : Underway) → Faithful h → (xs : List Exported) → NoLoads h xs → every_call sweeping (done_calls xs) ≡ true
    → (i : ℕ) → asserts_read i xs ≡ asserts_of i (history (current h) (done_calls xs)).made
unfolding history done_calls NoLoads asserts_read
asserts_read_lem h f [] n e i = sym (tally_nil (λ (m : Made). m.asserted && only i m.input))
asserts_read_lem h f (x ∷ xs) n e i =
    let parts = every_append sweeping (done_call x) (done_calls xs) e in
    let met = history (current h) (done_call x) in
    let rest = asserts_read_lem (carried_on h x) (faithful_on h x f (λ t. absurd (true≢false (sym t ∙ n.0)))) xs n.1 parts.1 i in
    let same = ap (λ d. asserts_of i (history d (done_calls xs)).made) (carried_on_lem h x f n.0).current in
    let both = tally_append (λ (m : Made). m.asserted && only i m.input) met.made (history met.after (done_calls xs)).made in
    ap₂ ◌+◌ (one_read h f x n.0 parts.0 i) (rest ∙ same) ∙ sym both
    ∙ ap (λ (s : Step). asserts_of i s.made) (sym (history_append (current h) (done_call x) (done_calls xs)))
