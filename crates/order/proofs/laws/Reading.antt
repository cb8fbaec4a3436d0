-- What a host reads of exported calls on images with the fifth body: the events that their calls of the device return and drain, each with its number.
use Rattle.basics.proofs.Prelude.{◌≡◌, refl, sym, ap, ap₂, ◌∙◌, Bool, true, false, cond, not, List, [], ◌∷◌, ◌++◌, append-nil, append_assoc, ℕ, zero, suc, ◌-◌, ◌/◌, ◌^◌, ◌<◌, ◌≤◌, eqb, length, take, drop, get_or, test, Each}
use Rattle.histories.proofs.exported.laws.Readings.{none_answered, some_answered, level_single, poll_single, returned_below, drained_told}
use Rattle.histories.specs.exported.Exported.{in_answer, numbered_to, quads_to, Exported, left_by, is_done, is_load, Underway, carried_on, NoLoads, done_call, done_calls, current, Faithful, numbers_through}
use Rattle.histories.proofs.{laws.WellFormed.step_events, exported.laws.Chains.current_well, exported.laws.Chains.handed, exported.laws.Chains.carried_on_lem, exported.laws.Chains.faithful_kept}
use Rattle.histories.proofs.exported.demands.FromCalls.{image_holds_numbers}
use Rattle.rules.specs.{Ring.Event, Ring.ring_run, Device.Device, Device.WellFormed, Device.Call, Device.Value, Device.none, Device.some, Device.step, Device.amount}
use Rattle.rules.specs.Numbering.{Numbers, WellNumbered, Numbered, with_numbers, drained_length, quads_in, numbers_after, drained_with, value_with}
use Rattle.rules.specs.History.{history}
use Rattle.images.specs.{Form.numbers, Form.has, Image.numbers_in}
use Rattle.calls.specs.Calls.{pass, Request, calls, asked_by, answered, buffer_of, place_of, written, Outcome}
use Rattle.calls.proofs.laws.{Requests.by_request, Answers.quads_read}
use Rattle.order.specs.{Numbered.in_value, Numbered.returned_of, Numbered.returned_through, Numbered.drained_through, Read.returned_read, Read.drained_read}
use Rattle.rules.specs.Device as device
use Rattle.calls.specs.Calls as request
use Rattle.order.proofs.laws.Computed as computed

-- ---- one call

-- an answer area holds the event of a value
in_answer_lem : (b : Bool) (x : Value) (a : List ℕ) → amount x < 2 ^ 64 → in_answer b (answered 0 x a) ≡ in_value b x
in_answer_lem b none a h = none_answered b a
in_answer_lem b (some v) a h = some_answered b v a h

-- the numbers of those drained have 16 bits
each_with : (es : List Event) (ns : List ℕ) (k : ℕ) → ((i : ℕ) → get_or ns i 0 < 2 ^ 16) → Each (λ (x : Numbered). x.number < 2 ^ 16) (with_numbers es (take k ns))
each_with [] ns k h = tt
each_with (e ∷ es) ns zero h = tt
each_with (e ∷ es) [] (suc k) h = tt
each_with (e ∷ es) (n ∷ ns) (suc k) h = (h 0, each_with es ns k (λ i. h (suc i)))

module _ (d : Device) (w : WellFormed d) (s : Numbers) (v : WellNumbered d s) where
  reads_returned : (a : List ℕ) (q : Request) (c : Call) → asked_by q ≡ calls (pass c) → numbered_to q (answered 0 (value_with d s c) a) ≡ returned_of d s c
  unfolding value_with
  reads_returned a =
      by_request (λ q c. numbered_to q (answered 0 (value_with d s c) a) ≡ returned_of d s c) (λ base size address width y o. refl) (λ base size address width x y o. refl)
      (λ n x.
      let b = not (eqb x 0) in
      let made = (step d (device.level n b)).made in
      in_answer_lem b (value_with d s (device.level n b)) a (returned_below s v.next b made (level_single d n b) (step_events d (device.level n b) w)))
      (λ n.
      let made = (step d (device.poll n)).made in
      in_answer_lem true (value_with d s (device.poll n)) a (returned_below s v.next true made (poll_single d n) (step_events d (device.poll n) w)))
      (λ buffer place. refl)

  reads_drained : (a : List ℕ) (q : Request) (c : Call) → asked_by q ≡ calls (pass c) → place_of q ≤ length (buffer_of q)
      → quads_to q (answered 0 (value_with d s c) a) (written (buffer_of q) (place_of q) (drained_with d s c)) ≡ drained_with d s c
  unfolding step ring_run drained_with
  reads_drained a =
      by_request (λ q c. place_of q ≤ length (buffer_of q) → quads_to q (answered 0 (value_with d s c) a) (written (buffer_of q) (place_of q) (drained_with d s c)) ≡ drained_with d s c)
      (λ base size address width y o h. refl) (λ base size address width x y o h. refl) (λ n x h. refl) (λ n h. refl)
      (λ buffer place h.
      let k = (length buffer - place) / drained_length in
      let xs = drained_with d s (device.drain k) in
      ap (λ n. quads_in n (drop place (written buffer place xs))) (drained_told d w s v k a)
      ∙ quads_read xs buffer place h (each_with (step d (device.drain k)).drained s.waiting k v.each))

-- ---- along exported calls

returned_append : (d : Device) (s : Numbers) (cs ds : List Call)
    → returned_through d s (cs ++ ds) ≡ returned_through d s cs ++ returned_through (history d cs).after (numbers_through d s cs) ds
unfolding history numbers_through returned_through
returned_append d s [] ds = refl
returned_append d s (c ∷ cs) ds =
    let e = (step d c).after in
    let t = numbers_after d s c in
    ap (λ l. returned_of d s c ++ l) (returned_append e t cs ds)
    ∙ sym (append_assoc (returned_of d s c) (returned_through e t cs) (returned_through (history e cs).after (numbers_through e t cs) ds))

drained_append : (d : Device) (s : Numbers) (cs ds : List Call)
    → drained_through d s (cs ++ ds) ≡ drained_through d s cs ++ drained_through (history d cs).after (numbers_through d s cs) ds
unfolding history numbers_through drained_through
drained_append d s [] ds = refl
drained_append d s (c ∷ cs) ds =
    let e = (step d c).after in
    let t = numbers_after d s c in
    ap (λ l. drained_with d s c ++ l) (drained_append e t cs ds)
    ∙ sym (append_assoc (drained_with d s c) (drained_through e t cs) (drained_through (history e cs).after (numbers_through e t cs) ds))

module _ (h : Underway) (f : Faithful h) (t : has f.form numbers ≡ true) (x : Exported) (n : is_load h.left x ≡ false) where
  one_returned : cond (is_done x) (numbered_to x.asked (left_by x).answer) [] ≡ returned_through (current h) f.numbers (done_call x)
  unfolding returned_through
  one_returned =
      test (is_done x)
      (λ done.
      let r = handed h x f done n in
      let numbers-are = ap numbers_in r.given ∙ image_holds_numbers h f t in
      let answer : (left_by x).answer ≡ answered 0 (value_with (current h) f.numbers r.call) x.answer = ap (λ (o : Outcome). o.answer) r.left ∙ ap (λ s. answered 0 (value_with (current h) s r.call) x.answer) numbers-are in
      rw (done, r.passes, answer, append-nil) (reads_returned (current h) (current_well h f) f.numbers f.numbered x.answer x.asked r.call r.passes))
      (λ done. rw done)

  one_drained : cond (is_done x) (quads_to x.asked (left_by x).answer (left_by x).events) [] ≡ drained_through (current h) f.numbers (done_call x)
  unfolding drained_through
  one_drained =
      test (is_done x)
      (λ done.
      let r = handed h x f done n in
      let numbers-are = ap numbers_in r.given ∙ image_holds_numbers h f t in
      let es : List Numbered → List ℕ = written (buffer_of x.asked) (place_of x.asked) in
      let answer : (left_by x).answer ≡ answered 0 (value_with (current h) f.numbers r.call) x.answer = ap (λ (o : Outcome). o.answer) r.left ∙ ap (λ s. answered 0 (value_with (current h) s r.call) x.answer) numbers-are in
      let events : (left_by x).events ≡ es (drained_with (current h) f.numbers r.call) = ap (λ (o : Outcome). o.events) r.left ∙ ap (λ s. es (drained_with (current h) s r.call)) numbers-are in
      rw (done, r.passes, answer, events, append-nil) (reads_drained (current h) (current_well h f) f.numbers f.numbered x.answer x.asked r.call r.passes r.fits))
      (λ done. rw done)

-- what a host has read, beside what calls return and drain
pub record ReadAs (xs : List Exported) (d : Device) (s : Numbers) : Type 0 where
  pub returned : returned_read xs ≡ returned_through d s (done_calls xs)
  pub drained : drained_read xs ≡ drained_through d s (done_calls xs)

pub read_as : (h : Underway) (f : Faithful h) → has f.form numbers ≡ true → (xs : List Exported) → NoLoads h xs → ReadAs xs (current h) f.numbers
unfolding done_calls NoLoads returned_read drained_read returned_through drained_through
read_as h f t [] n = record { returned = refl; drained = refl }
read_as h f t (x ∷ xs) n =
    let e = (carried_on_lem h x f n.0).current in
    let d = current h in
    let s = f.numbers in
    let after = numbers_through d s (done_call x) in
    let rest = read_as (carried_on h x) (faithful_kept h x f n.0) t xs n.1 in
    record {
      returned =
          ap₂ ◌++◌ (one_returned h f t x n.0) (rest.returned ∙ ap (λ u. returned_through u after (done_calls xs)) e)
          ∙ sym (returned_append d s (done_call x) (done_calls xs));
      drained =
          ap₂ ◌++◌ (one_drained h f t x n.0) (rest.drained ∙ ap (λ u. drained_through u after (done_calls xs)) e)
          ∙ sym (drained_append d s (done_call x) (done_calls xs));
    }
