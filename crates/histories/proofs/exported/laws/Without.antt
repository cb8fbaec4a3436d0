-- What a done call hands back, without the numbers of events: the answer area of the device's own value, and an event buffer of the events that it drained.
use Rattle.basics.proofs.Prelude.{◌≡◌, refl, sym, ap, ap₂, ◌∙◌, Bool, true, false, cond, not, List, [], ◌∷◌, ◌++◌, ℕ, zero, suc, ◌+◌, ◌-◌, ◌*◌, ◌/◌, ◌%◌, ◌^◌, ◌<◌, ◌≤◌, arith, eqb, length, take, drop, get_or, set, length-take-le, take_at, drop_at, get_or-drop, get_or-set_other, number_of, bytes_of, test}
use Rattle.rules.specs.{Lines.Made, Ring.flag, Ring.Event, Ring.ring_run, Device.Device, Device.WellFormed, Device.Call, Device.some, Device.returned, Device.value, Device.step}
use Rattle.rules.specs.Numbering.{Numbers, WellNumbered, numbers_after, Numbered, drained_length, quads_of, quads_in, events_in, returned_with, drained_with, value_with}
use Rattle.rules.proofs.laws.Numbered.{numbers_step}
use Rattle.images.{specs.Form.Form, specs.Form.numbers, specs.Form.has, specs.Form.form_length, specs.Image.encode_as, specs.Image.encode_like, specs.Image.numbers_in, proofs.laws.Saved.encode_without}
use Rattle.calls.specs.Calls.{Tested, pass, Request, afresh, calls, asked_by, answered, present_in, value_in, buffer_of, place_of, written, Outcome}
use Rattle.calls.proofs.laws.Requests.{by_request}
use Rattle.histories.specs.exported.Exported.{Exported, left_by, is_done, without_number, quads_without, without_numbers, answer_without, events_without, unnumbered, is_load, Underway, current, Faithful, in_answer, returned_to, drained_to, lost_to}
use Rattle.laws.proofs.laws.Images.{encode_as_lem, numbers_encode}
use Rattle.histories.proofs.laws.WellFormed.{ByteEvents, step_events, step_well}
use Rattle.histories.proofs.exported.laws.Chains.{current_well, left_length, Handed, handed}
use Rattle.histories.proofs.exported.laws.Readings.{Single, nothing, one, level_single, poll_single, drained_told, drained_events}
use Rattle.rules.specs.Device as device
use Rattle.calls.specs.Calls as request

-- ---- the answer area

-- a number in bits 16 to 31 leaves byte 9 and the bytes past 11 as they are
above_low : (n : ℕ) → 256 * n % 256 ≡ 0
above_low n = omega arith

above_past : (n : ℕ) → n < 2 ^ 16 → 256 * n / 256 / 256 / 256 ≡ 0
above_past n h = omega arith

-- a byte with a number in those bits: without bytes 10 and 11 the byte alone
number_put_to_0 : (x n : ℕ) → x < 256 → n < 2 ^ 16 → (a : List ℕ) → set (set (answered 0 (some (x + 2 ^ 16 * n)) a) 10 0) 11 0 ≡ answered 0 (some x) a
unfolding answered
number_put_to_0 x n h k a =
    let y = x + 2 ^ 16 * n in
    let low : y % 256 ≡ x % 256 = omega arith in
    let none : x / 256 ≡ 0 = omega arith in
    let above : y / 256 ≡ 256 * n = omega arith in
    let second = ap (λ z. z % 256) above ∙ above_low n in
    let past = ap (λ z. z / 256 / 256 / 256) above ∙ above_past n k in
    (λ i. 0 ∷ 1 ∷ 0 ∷ 0 ∷ 0 ∷ 0 ∷ 0 ∷ 0 ∷ low i ∷ second i ∷ 0 ∷ 0 ∷ (bytes_of 4 (past i) ++ drop 16 a))
    ∙ (λ i. 0 ∷ 1 ∷ 0 ∷ 0 ∷ 0 ∷ 0 ∷ 0 ∷ 0 ∷ x % 256 ∷ (bytes_of 7 (sym none i) ++ drop 16 a))

single_without : (s : Numbers) → s.next < 2 ^ 16 → (b : Bool) (ms : List Made) (a : List ℕ) → Single b ms → ByteEvents ms
    → set (set (answered 0 (returned_with s ms) a) 10 0) 11 0 ≡ answered 0 (returned ms) a
unfolding answered
single_without s h b ms a nothing e = refl
single_without s h b ms a (one m o t) e = rw o (number_put_to_0 m.vector s.next (e 0) h a)

-- ---- the event buffer

quads_put_to_0 : (xs : List Numbered) (rest : List ℕ) → quads_without (length xs) (quads_of xs ++ rest) ≡ quads_of (unnumbered (events_in xs)) ++ rest
quads_put_to_0 [] rest = refl
quads_put_to_0 (x ∷ xs) rest = ap (λ l. x.event.vector ∷ flag x.event.asserted ∷ 0 ∷ 0 ∷ l) (quads_put_to_0 xs rest)

length_unnumbered : (xs : List Numbered) → length (unnumbered (events_in xs)) ≡ length xs
length_unnumbered [] = refl
length_unnumbered (x ∷ xs) = ap suc (length_unnumbered xs)

written_without : (xs : List Numbered) (buffer : List ℕ) (place : ℕ) → place ≤ length buffer
    → take place (written buffer place xs) ++ quads_without (length xs) (drop place (written buffer place xs)) ≡ written buffer place (unnumbered (events_in xs))
unfolding written
written_without xs buffer place h =
    let front = take place buffer in
    let rest = drop (place + drained_length * length xs) buffer in
    let n = length-take-le place buffer h in
    ap₂ ◌++◌ (take_at front (quads_of xs ++ rest) place n) (ap (quads_without (length xs)) (drop_at front (quads_of xs ++ rest) place n) ∙ quads_put_to_0 xs rest)
    ∙ ap (λ k. front ++ (quads_of (unnumbered (events_in xs)) ++ drop (place + drained_length * k) buffer)) (sym (length_unnumbered xs))

-- ---- a call

module _ (d : Device) (w : WellFormed d) (s : Numbers) (v : WellNumbered d s) where
  pub answer_without_lem : (a : List ℕ) (q : Request) (c : Call) → asked_by q ≡ calls (pass c)
      → without_number q (answered 0 (value_with d s c) a) ≡ answered 0 (value d c) a
  unfolding value value_with
  answer_without_lem a =
      by_request (λ q c. without_number q (answered 0 (value_with d s c) a) ≡ answered 0 (value d c) a) (λ base size address width y o. refl) (λ base size address width x y o. refl)
      (λ n x. let b = not (eqb x 0) in single_without s v.next b (step d (device.level n b)).made a (level_single d n b) (step_events d (device.level n b) w))
      (λ n. single_without s v.next true (step d (device.poll n)).made a (poll_single d n) (step_events d (device.poll n) w)) (λ buffer place. refl)

  pub events_without_lem : (a : List ℕ) (q : Request) (c : Call) → asked_by q ≡ calls (pass c) → place_of q ≤ length (buffer_of q)
      → without_numbers q (answered 0 (value_with d s c) a) (written (buffer_of q) (place_of q) (drained_with d s c))
      ≡ written (buffer_of q) (place_of q) (unnumbered (step d c).drained)
  unfolding step ring_run drained_with
  events_without_lem a =
      by_request (λ q c. place_of q ≤ length (buffer_of q)
      → without_numbers q (answered 0 (value_with d s c) a) (written (buffer_of q) (place_of q) (drained_with d s c)) ≡ written (buffer_of q) (place_of q) (unnumbered (step d c).drained))
      (λ base size address width y o h. refl) (λ base size address width x y o h. refl) (λ n x h. refl) (λ n h. refl)
      (λ buffer place h.
      let k = (length buffer - place) / drained_length in
      let xs = drained_with d s (device.drain k) in
      ap (λ n. take place (written buffer place xs) ++ quads_without n (drop place (written buffer place xs))) (drained_told d w s v k a)
      ∙ written_without xs buffer place h ∙ ap (λ (es : List Event). written buffer place (unnumbered es)) (drained_events d w s v k))

-- ---- an exported call

-- the image of a device is its image with the numbers that it then loads with: a form without the fifth body has none of them
pub own_numbers : (f : Form) (i : List ℕ) → length i ≡ form_length f → (d : Device) → WellFormed d → (s : Numbers) → WellNumbered d s
    → encode_like i d s ≡ encode_like i d (numbers_in (encode_like i d s))
own_numbers f i e d w s v =
    let is = encode_as_lem f i e d s in
    is ∙ test (has f numbers) (λ t. ap (encode_as f d) (sym (numbers_encode d w s v f t))) (λ t. encode_without f t d s (numbers_in (encode_as f d s)))
    ∙ sym (encode_as_lem f i e d (numbers_in (encode_as f d s))) ∙ ap (λ l. encode_like i d (numbers_in l)) (sym is)

module _ (h : Underway) (x : Exported) (f : Faithful h) (t : is_done x ≡ true) (n : is_load h.left x ≡ false) where
  abbrev did : Handed h x
  did = handed h x f t n

  pub handed_image : (left_by x).image ≡ encode_like x.given (step (current h) did.call).after (numbers_in (left_by x).image)
  handed_image =
      let d = current h in
      let s = numbers_in x.given in
      let image_is = ap (λ (o : Outcome). o.image) did.left in
      image_is
      ∙ own_numbers f.form x.given (ap length did.given ∙ left_length h f) (step d did.call).after (step_well d did.call (current_well h f)) (numbers_after d s did.call)
      (numbers_step d s did.call did.numbered)
      ∙ ap (λ l. encode_like x.given (step d did.call).after (numbers_in l)) (sym image_is)

  pub handed_answer : answer_without x ≡ answered 0 (value (current h) did.call) x.answer
  handed_answer =
      (λ i. cond (t i) (without_number x.asked (did.left i).answer) (left_by x).answer)
      ∙ answer_without_lem (current h) (current_well h f) (numbers_in x.given) did.numbered x.answer x.asked did.call did.passes

  pub handed_events : events_without x ≡ written (buffer_of x.asked) (place_of x.asked) (unnumbered (step (current h) did.call).drained)
  handed_events =
      (λ i. cond (t i) (without_numbers x.asked (did.left i).answer (did.left i).events) (left_by x).events)
      ∙ events_without_lem (current h) (current_well h f) (numbers_in x.given) did.numbered x.answer x.asked did.call did.passes did.fits

-- a reset hands back no number of an event
no_call : {A : Type 0} (u : Tested Call) → calls u ≡ afresh → A
no_call u e = absurd (let z : ◌≡◌ {A = ℕ} 0 1 = cc in omega arith)

reset_without : (q : Request) → asked_by q ≡ afresh → (a e : List ℕ) → (without_number q a ≡ a) × (without_numbers q a e ≡ e)
reset_without request.reset k a e = (refl, refl)
reset_without (request.read base size address width) k a e = no_call _ k
reset_without (request.write base size address width v) k a e = no_call _ k
reset_without (request.level n v) k a e = no_call _ k
reset_without (request.poll n) k a e = no_call _ k
reset_without (request.drain buffer place) k a e = no_call _ k

module _ (x : Exported) (k : asked_by x.asked ≡ afresh) (t : is_done x ≡ true) where
  pub reset_answer : answer_without x ≡ (left_by x).answer
  reset_answer =
      (λ i. cond (t i) (without_number x.asked (left_by x).answer) (left_by x).answer) ∙ (reset_without x.asked k (left_by x).answer (left_by x).events).0

  pub reset_events : events_without x ≡ (left_by x).events
  reset_events =
      (λ i. cond (t i) (without_numbers x.asked (left_by x).answer (left_by x).events) (left_by x).events)
      ∙ (reset_without x.asked k (left_by x).answer (left_by x).events).1

-- ---- what a host reads, it reads without the numbers

-- the low byte of a value, whatever stands behind it
low_byte : (l : List ℕ) → number_of (take 8 l) % 256 ≡ get_or l 0 0 % 256
low_byte [] = refl
low_byte (x ∷ l) = omega arith

vector_without : (a : List ℕ) → value_in a % 256 ≡ value_in (set (set a 10 0) 11 0) % 256
vector_without a = low_byte (drop 8 a) ∙ ap (λ n. n % 256) (stays a) ∙ sym (low_byte (drop 8 (set (set a 10 0) 11 0)))
  where
    stays : (a : List ℕ) → get_or (drop 8 a) 0 0 ≡ get_or (drop 8 (set (set a 10 0) 11 0)) 0 0
    stays a =
        get_or-drop 8 a 0 0 ∙ sym (get_or-set_other a 10 8 0 0 (λ e. omega (arith, e))) ∙ sym (get_or-set_other (set a 10 0) 11 8 0 0 (λ e. omega (arith, e)))
        ∙ sym (get_or-drop 8 (set (set a 10 0) 11 0) 0 0)

event_without : (b : Bool) (a : List ℕ) → events_in (in_answer b a) ≡ events_in (in_answer b (set (set a 10 0) 11 0))
event_without b a =
    let flag-stays : get_or a 1 0 ≡ get_or (set (set a 10 0) 11 0) 1 0 = sym (get_or-set_other a 10 1 0 0 (λ e. omega (arith, e))) ∙ sym (get_or-set_other (set a 10 0) 11 1 0 0 (λ e. omega (arith, e))) in
    told a ∙ (λ i. cond (eqb (flag-stays i) 1) (record { vector = vector_without a i; asserted = b } ∷ []) []) ∙ sym (told (set (set a 10 0) 11 0))
  where
    told : (a : List ℕ) → events_in (in_answer b a) ≡ cond (present_in a) (record { vector = value_in a % 256; asserted = b } ∷ []) []
    told a = test (present_in a) (λ t. rw t) (λ t. rw t)

pub returned_without : (q : Request) (a : List ℕ) → returned_to q a ≡ returned_to q (without_number q a)
returned_without request.reset a = refl
returned_without (request.read base size address width) a = refl
returned_without (request.write base size address width v) a = refl
returned_without (request.level n v) a = event_without (not (eqb v 0)) a
returned_without (request.poll n) a = event_without true a
returned_without (request.drain buffer place) a = refl

-- events are told by two of their four bytes
events_in_without : (n : ℕ) (l : List ℕ) → events_in (quads_in n l) ≡ events_in (quads_in n (quads_without n l))
events_in_without zero l = refl
events_in_without (suc n) [] = refl
events_in_without (suc n) (v ∷ []) = refl
events_in_without (suc n) (v ∷ f ∷ []) = refl
events_in_without (suc n) (v ∷ f ∷ a ∷ []) = refl
events_in_without (suc n) (v ∷ f ∷ a ∷ b ∷ l) = ap (λ es. record { vector = v; asserted = eqb f 1 } ∷ es) (events_in_without n l)

without_nothing : (n : ℕ) → quads_without n [] ≡ []
without_nothing zero = refl
without_nothing (suc n) = refl

behind_place : (n place : ℕ) (e : List ℕ) → drop place (take place e ++ quads_without n (drop place e)) ≡ quads_without n (drop place e)
behind_place n zero e = refl
behind_place n (suc p) [] = rw (without_nothing n)
behind_place n (suc p) (x ∷ e) = behind_place n p e

pub drained_without : (q : Request) (a e : List ℕ) → drained_to q a e ≡ drained_to q (without_number q a) (without_numbers q a e)
drained_without request.reset a e = refl
drained_without (request.read base size address width) a e = refl
drained_without (request.write base size address width v) a e = refl
drained_without (request.level n v) a e = refl
drained_without (request.poll n) a e = refl
drained_without (request.drain buffer place) a e =
    events_in_without (value_in a) (drop place e) ∙ ap (λ l. events_in (quads_in (value_in a) l)) (sym (behind_place (value_in a) place e))

pub lost_without : (q : Request) (a : List ℕ) → lost_to q a ≡ lost_to q (without_number q a)
lost_without request.reset a = refl
lost_without (request.read base size address width) a = refl
lost_without (request.write base size address width v) a = refl
lost_without (request.level n v) a = refl
lost_without (request.poll n) a = refl
lost_without (request.drain buffer place) a = refl
