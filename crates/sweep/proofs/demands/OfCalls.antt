-- 02, C-24, of exported calls, each given the image that the one before it left. A refused call counts as none.
use Rattle.basics.proofs.Prelude.{◌≡◌, refl, sym, ap, subst, ◌∙◌, true, false, Bool, true≢false, and-eq-true_iff, List, [], ◌∷◌, ℕ, ◌+◌, ◌*◌, ◌%◌, ◌^◌, ◌<◌, arith, lit<, lit≤, get_or, Bytes, test, ◌≤◌, length}
use Rattle.rules.specs.{Device.Call, Numbering.value_with, History.history}
use Rattle.images.specs.Image.{decode, numbers_in, image_test, accepted}
use Rattle.calls.{specs.Calls.Request, specs.Calls.asked_by, specs.Calls.answered, specs.Calls.present_in, specs.Calls.value_in, specs.Calls.Outcome, proofs.laws.Answers.value_read}
use Rattle.histories.specs.Demands.{polls_or_raises}
use Rattle.histories.specs.exported.Exported.{Exported, left_by, is_done, is_reset, Underway, carried_through, NoLoads, HandedOn, done_calls, left_after, current, in_image, Faithful, at_load}
use Rattle.histories.proofs.exported.laws.{Chains.faithful_at_load, Chains.done_call_lem, Chains.refused_leaves, Readings.read_as}
use Rattle.histories.proofs.exported.demands.FromCalls.{image_holds_device, image_holds_history, handed_on_is_no_load, left_through}
use Rattle.sweep.specs.{Sweeps.sweeping, Sweeps.is_poll, Sweeps.some_call, Sweeps.Sweep, Handed.asks_for, Handed.reads_assert, Handed.WakesAllRead, Handed.polls_all}
use Rattle.laws.proofs.laws.Images.{decode_well_formed, numbers_well}
use Rattle.sweep.proofs.laws.{Announcing.call_announces, Announcing.vector_answered, Reading.returned_silent, Reading.asserts_read_lem, Reading.asks_is, Polls.all_polled, Polls.polls_done}
use Rattle.sweep.proofs.demands.WakesAll.{one_sweep_wakes_all, sweep_offers_nothing, sweep_loses_nothing}
use Rattle.rules.specs.Device as call
use Rattle.calls.specs.Calls as request

-- From any history under way, over exported calls of which none is a load and of which the done ones are a sweep.
pub sweep_of_calls : (h : Underway) → Faithful h → (xs : List Exported) → NoLoads h xs → Sweep (done_calls xs)
    → WakesAllRead (in_image h) xs (in_image (carried_through h xs))
sweep_of_calls h f xs n s =
    rw (image_holds_device h f, image_holds_history h f xs n)
    (let cs = done_calls xs in
    let w = one_sweep_wakes_all (current h) cs s in
    let r = read_as h f xs n in
    let ring = sweep_offers_nothing (current h) cs s in
    record {
      served = w.served;
      no_deassert = rw r.returned (returned_silent (history (current h) cs).made w.no_deassert);
      none_offered = rw r.drained ring.0;
      none_dropped = ring.1;
      none_lost = sweep_loses_nothing (current h) cs s;
      asserted = λ i b. asserts_read_lem h f xs n s.admitted i ∙ w.asserted i b;
    })

-- where one of the calls is done, the image that they began with is accepted: those refused before it left it as it was
done_on_accepted : (t : Call → Bool) (i : List ℕ) (xs : List Exported) → HandedOn i xs → some_call t (done_calls xs) ≡ true → image_test i ≡ accepted
unfolding HandedOn done_calls
done_on_accepted t i [] o e = absurd (true≢false (sym e))
done_on_accepted t i (x ∷ xs) o e =
    test (is_done x) (λ d. subst (λ j. image_test j ≡ accepted) o.0 (done_call_lem (at_load x.given) x d o.1).accepted)
    (λ d. done_on_accepted t i xs (subst (λ j. HandedOn j xs) (refused_leaves x d ∙ o.0) o.2) (rw d at e))

-- From any accepted image i, loaded or left by whatever calls: exported calls of which the first is given i and each other the image that the one before it
-- left, none a reset, and of which the done ones are a sweep. Then all of it holds from the device in i to the one in the image left last.
pub sweep_of_an_image : (i : List ℕ) → Bytes i → image_test i ≡ accepted → (xs : List Exported) → HandedOn i xs → Sweep (done_calls xs)
    → WakesAllRead (decode i) xs (decode (left_after i xs))
sweep_of_an_image i b t xs o s =
    rw (← left_through (at_load i) xs o) (sweep_of_calls (at_load i) (faithful_at_load i b t) xs (handed_on_is_no_load (at_load i) xs o) s)

-- That i is accepted need not be asked: else no call would be done.
pub sweep_of_any_image : (i : List ℕ) → Bytes i → (xs : List Exported) → HandedOn i xs → Sweep (done_calls xs)
    → WakesAllRead (decode i) xs (decode (left_after i xs))
sweep_of_any_image i b xs o s = sweep_of_an_image i b (done_on_accepted (is_poll 0) i xs o (s.polled 0 (lit< tt))) xs o s

-- The sweep that hosts do, from any accepted image: polls of the inputs 0 to 63, each given the image that the one before it left, with an answer area of 16
-- bytes or more. All are done and are a sweep, so that at their end every latched and unmasked input is in service.
pub polls_are_a_sweep : (i a : List ℕ) → Bytes i → image_test i ≡ accepted → 16 ≤ length a → Sweep (done_calls (polls_all i a))
polls_are_a_sweep i a b t r = subst Sweep (sym (polls_done 0 64 (lit≤ tt) i a b t r).1) all_polled

pub polls_wake_all : (i a : List ℕ) → Bytes i → image_test i ≡ accepted → 16 ≤ length a → WakesAllRead (decode i) (polls_all i a) (decode (left_after i (polls_all i a)))
polls_wake_all i a b t r = sweep_of_an_image i b t (polls_all i a) (polls_done 0 64 (lit≤ tt) i a b t r).0 (polls_are_a_sweep i a b t r)

-- ---- which vector a host reads

asks_sweeps : (n : ℕ) (c : Call) → polls_or_raises n c ≡ true → sweeping c ≡ true
asks_sweeps n (call.level m true) e = refl
asks_sweeps n (call.level m false) e = e
asks_sweeps n (call.poll m) e = refl
asks_sweeps n (call.read w o) e = refl
asks_sweeps n (call.write w o v) e = absurd (true≢false (sym e))
asks_sweeps n (call.drain k) e = refl

asks_no_reset : (n : ℕ) (q : Request) → asks_for n q ≡ true → is_reset (asked_by q) ≡ false
asks_no_reset n request.reset e = sym e
asks_no_reset n (request.read base size address width) e = refl
asks_no_reset n (request.write base size address width v) e = refl
asks_no_reset n (request.level m v) e = refl
asks_no_reset n (request.poll m) e = refl
asks_no_reset n (request.drain buffer place) e = refl

module _ (n : ℕ) (x : Exported) (b : Bytes x.given) (e : reads_assert n x ≡ true) where
  abbrev vector : ℕ
  vector = get_or (decode x.given).core.vectors n 0

  abbrev number : ℕ
  number = (numbers_in x.given).next

  -- the value, and that both are small
  told : (value_in (left_by x).answer ≡ vector + 2 ^ 16 * number) × (vector < 256)
  told =
      let d = decode x.given in
      let s = numbers_in x.given in
      let both = (and-eq-true_iff (is_done x) _).0 e in
      let asked = (and-eq-true_iff (asks_for n x.asked) (present_in (left_by x).answer)).0 both.1 in
      let r = done_call_lem (at_load x.given) x both.0 (asks_no_reset n x.asked asked.0) in
      let asks = sym (asks_is n x.asked r.call r.passes) ∙ asked.0 in
      let answer : (left_by x).answer ≡ answered 0 (value_with d s r.call) x.answer = ap (λ (o : Outcome). o.answer) r.left in
      let says = vector_answered d s r.call (call_announces d r.call (asks_sweeps n r.call asks)) n x.answer asks (rw answer at asked.1) in
      let small = (decode_well_formed x.given b r.accepted).vector_bytes n in
      let few = (numbers_well x.given b r.accepted).next in
      (ap value_in (answer ∙ ap (λ v. answered 0 v x.answer) says) ∙ value_read 0 x.answer (vector + 2 ^ 16 * number) (omega (arith, small, few)), small)

  -- Where a host reads an assert of n in an answer area, in a sweep or elsewhere, the vector there, which is the value's low byte, is the vector byte that n has in the
  -- image that the call was given;
  pub vector_in_the_answer : value_in (left_by x).answer % 256 ≡ get_or (decode x.given).core.vectors n 0
  vector_in_the_answer = ap (λ v. v % 256) told.0 ∙ low vector number told.1
    where
      low : (v k : ℕ) → v < 256 → (v + 2 ^ 16 * k) % 256 ≡ v
      low v k h = omega arith

  -- and the whole value has behind it the number that this image loads with as the next (02, C-19).
  pub value_in_the_answer : value_in (left_by x).answer ≡ get_or (decode x.given).core.vectors n 0 + 2 ^ 16 * (numbers_in x.given).next
  value_in_the_answer = told.0
