-- How an exported call ends, by the test that decides it: one law for each way that a call can end; and the outcome of a call that has ended.
use Rattle.basics.proofs.Prelude.{◌≡◌, refl, sym, ap, ◌∙◌, and-false, List, [], ◌++◌, ℕ, ◌+◌, ◌-◌, ◌*◌, ◌/◌, ◌<◌, ◌≤◌, arith, length, take, drop, length-drop, take-append-drop, drop-drop, lt-ltb, le-ltb, le-leb, lt-leb}
use Rattle.rules.specs.{Ring.RingAct, Ring.ring_run, Access.Width, Device.Device, Device.Call, Device.Value, Device.none, Device.acts_of, Device.draws, Device.acted, Device.step, Device.reset}
use Rattle.rules.specs.Numbering.{Numbers, from_zero, Numbered, with_numbers, drained_length, quads_of, room_of, numbers_after, drained_with, value_with}
use Rattle.images.specs.{Form.Form, Form.unknown, Form.known, Form.form_of, Image.ImageTest, Image.image_test, Image.encode_like, Image.decode, Image.numbers_in}
use Rattle.calls.specs.Calls.{Refusal, refusal_number, refusal_value, wrong_length, wrong_contents, no_input, no_room, Tested, pass, refuse, on_pass, image_answer, image_number, image_value, input_call, width_test, address_test, access_call, Request, drain, Asked, calls, asked_by, Done, done_on, reset_as, performed, answer_length, answered, buffer_of, place_of, written, Outcome, leaves, Ending, ended, ending, outcome, AnswerRoom}
use Rattle.rules.specs.Device as device
use Rattle.images.specs.Image as image
use Rattle.calls.specs.Calls as asked

-- ---- 7, or how it ends

-- room is asked for 16 bytes
pub room_is_16 : (a : List ℕ) → AnswerRoom a → answer_length ≤ length a
room_is_16 a h = omega (arith, h)

module _ (q : Request) (i a : List ℕ) where
  abbrev undone : Outcome
  undone = leaves (refusal_number no_room) i a (buffer_of q)

  pub answer_short : length a < answer_length → outcome q i a ≡ undone
  unfolding outcome
  answer_short h = rw (lt-leb answer_length (length a) h)

  pub place_past : length (buffer_of q) < place_of q → outcome q i a ≡ undone
  unfolding outcome
  place_past h = rw (lt-leb (place_of q) (length (buffer_of q)) h, and-false)

  -- with room, the answer area has the number and the value with which it ends
  pub room : answer_length ≤ length a → place_of q ≤ length (buffer_of q) → (x : Ending) → x ≡ ending q i → {b : List ℕ} → b ≡ answered x.number x.value a
      → leaves x.number x.image b x.events ≡ outcome q i a
  unfolding outcome
  room roomy inside x e {b} f =
      (λ t. leaves x.number x.image (f t) x.events) ∙ (λ t. leaves (e t).number (e t).image (answered (e t).number (e t).value a) (e t).events)
      ∙ rw (le-leb answer_length (length a) (omega (arith, roomy)), le-leb (place_of q) (length (buffer_of q)) inside)

-- ---- a call of the device: 4, 5, 8 to 11

module _ (q : Request) (i : List ℕ) (x : Tested Call) (asks : asked_by q ≡ calls x) where
  tested : (t : ImageTest) → image_test i ≡ t → ending q i ≡ ended q i (on_pass (image_answer t (decode i)) (λ d. on_pass x (λ c. pass (done_on d (numbers_in i) c))))
  unfolding performed
  tested t e =
      ap (λ (y : Asked). ended q i (performed y i)) asks
      ∙ ap (λ (u : ImageTest). ended q i (on_pass (image_answer u (decode i)) (λ d. on_pass x (λ c. pass (done_on d (numbers_in i) c))))) e

  pub image_refused : (t : ImageTest) → image_test i ≡ t → (t ≡ image.accepted → ⊥) → ending q i ≡ record { number = image_number t; value = image_value t; image = i; events = buffer_of q }
  image_refused image.accepted e n = absurd (n refl)
  image_refused image.wrong_length e n = tested image.wrong_length e
  image_refused image.wrong_contents e n = tested image.wrong_contents e
  image_refused (image.broken k a) e n = tested (image.broken k a) e

  -- ---- the image is accepted: 3, 2, 1, or done

  module _ (e : image_test i ≡ image.accepted) where
    pub call_refused : (r : Refusal) → x ≡ refuse r → ending q i ≡ ended q i (refuse r)
    call_refused r f = tested image.accepted e ∙ ap (λ (y : Tested Call). ended q i (on_pass y (λ c. pass (done_on (decode i) (numbers_in i) c)))) f

    -- from an image that holds the device and the numbers after the call, the call's value, and the events that it drained
    pub call_done : (c : Call) → x ≡ pass c → (d : Device) (s : Numbers) (v : Value) (j o : List ℕ) → j ≡ encode_like i d s → d ≡ (step (decode i) c).after
        → s ≡ numbers_after (decode i) (numbers_in i) c → v ≡ value_with (decode i) (numbers_in i) c
        → o ≡ written (buffer_of q) (place_of q) (drained_with (decode i) (numbers_in i) c) → record { number = 0; value = v; image = j; events = o } ≡ ending q i
    call_done c f d s v j o g h n k l =
        (λ t. record { number = 0; value = k t; image = (g ∙ (λ u. encode_like i (h u) (n u))) t; events = l t })
        ∙ sym (tested image.accepted e ∙ ap (λ (y : Tested Call). ended q i (on_pass y (λ c. pass (done_on (decode i) (numbers_in i) c)))) f)

-- a call that draws nothing leaves an event buffer that is none
pub no_events : (d : Device) (s : Numbers) (c : Call) → draws c ≡ [] → [] ≡ written [] 0 (drained_with d s c)
unfolding written step ring_run drained_with
no_events d s c e = ap (λ (xs : List RingAct). written [] 0 (with_numbers (ring_run (acted d (acts_of d.core c)).ring xs).drained (take (room_of c) s.waiting))) (sym e)

-- ---- reset

module _ (i : List ℕ) where
  pub reset_refused : form_of (length i) ≡ unknown → ending asked.reset i ≡ ended asked.reset i (refuse wrong_length)
  unfolding performed
  reset_refused e = ap (λ k. ended asked.reset i (reset_as k)) e

  pub reset_done : (f : Form) → form_of (length i) ≡ known f → ending asked.reset i ≡ record { number = 0; value = none; image = encode_like i reset (from_zero 0); events = [] }
  unfolding performed written
  reset_done f e = ap (λ k. ended asked.reset i (reset_as k)) e

-- ---- a drain from a place on is a drain into the bytes from there

-- an ending of a call that was lent the bytes behind some others
abbrev pub behind : List ℕ → Ending → Ending
behind l x = record { number = x.number; value = x.value; image = x.image; events = l ++ x.events }

module _ (events : List ℕ) (place : ℕ) where
  written_behind : (es : List Numbered) → written events place es ≡ take place events ++ written (drop place events) 0 es
  unfolding written
  written_behind es =
      let n : drained_length * length es ≡ 0 + drained_length * length es = omega arith in
      ap (λ (l : List ℕ). take place events ++ (quads_of es ++ l)) (sym (drop-drop (drained_length * length es) place events) ∙ ap (λ (k : ℕ). drop k (drop place events)) n)

  room_behind : length events - place ≡ length (drop place events) - 0
  room_behind = simp length-drop (omega arith)

  pub drain_behind : (i : List ℕ) → ending (drain events place) i ≡ behind (take place events) (ending (drain (drop place events) 0) i)
  drain_behind i =
      go (performed (asked_by (drain events place)) i)
      ∙ ap (λ (k : ℕ). behind (take place events) (ended (drain (drop place events) 0) i (performed (calls (pass (device.drain (k / drained_length)))) i))) room_behind
    where
      go : (t : Tested Done) → ended (drain events place) i t ≡ behind (take place events) (ended (drain (drop place events) 0) i t)
      go (pass x) = ap (λ (l : List ℕ). record { number = 0; value = x.value; image = encode_like i x.device x.numbers; events = l }) (written_behind x.drained)
      go (refuse r) = ap (λ (l : List ℕ). record { number = refusal_number r; value = refusal_value r; image = i; events = l }) (sym (take-append-drop place events))

-- ---- what a call asks

pub input_refused : (n : ℕ) (c : Call) → 64 ≤ n → input_call n c ≡ refuse no_input
input_refused n c h = rw (le-ltb n 64 h)

pub input_passed : (n : ℕ) (c : Call) → n < 64 → input_call n c ≡ pass c
input_passed n c h = rw (lt-ltb n 64 h)

module _ (base size address width : ℕ) (f : Width → ℕ → Call) where
  pub width_refused : (r : Refusal) → width_test width ≡ refuse r → access_call base size address width f ≡ refuse r
  width_refused r e = ap (λ (t : Tested Width). on_pass t (λ w. on_pass (address_test base size address width) (λ o. pass (f w o)))) e

  pub address_refused : (w : Width) (r : Refusal) → width_test width ≡ pass w → address_test base size address width ≡ refuse r → access_call base size address width f ≡ refuse r
  address_refused w r e g =
      ap (λ (t : Tested Width). on_pass t (λ w. on_pass (address_test base size address width) (λ o. pass (f w o)))) e ∙ ap (λ (t : Tested ℕ). on_pass t (λ o. pass (f w o))) g

  pub access_passed : (w : Width) (o : ℕ) → width_test width ≡ pass w → address_test base size address width ≡ pass o → access_call base size address width f ≡ pass (f w o)
  access_passed w o e g =
      ap (λ (t : Tested Width). on_pass t (λ w. on_pass (address_test base size address width) (λ o. pass (f w o)))) e ∙ ap (λ (t : Tested ℕ). on_pass t (λ o. pass (f w o))) g
