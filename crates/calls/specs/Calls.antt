-- The six exported calls, on any bytes, numbers and lengths: the number handed back, and every byte of image, answer area and event buffer afterwards.
use Rattle.std.specs.Prelude.{Bool, cond, not, ◌&&◌, List, [], ◌∷◌, ◌++◌, ◌≡◌, ℕ, ◌+◌, ◌-◌, ◌*◌, ◌/◌, ◌≤◌, eqb, leb, ltb, length, take, drop, get_or}
use Rattle.basics.specs.Numbers.{bytes_of, number_of, part}
use Rattle.rules.specs.Access.{Width, byte, word, dword, qword}
use Rattle.rules.specs.Device.{Device, Call, Value, none, some, amount, step}
use Rattle.rules.specs.Device as device
use Rattle.rules.specs.Numbering.{Numbers, from_zero, Numbered, drained_length, quads_of, numbers_after, drained_with, value_with}
use Rattle.calls.specs.Window.{inside, offset}
use Rattle.images.specs.Form.{Known, unknown, known, form_of}
use Rattle.images.specs.Image.{Fault, copy_differs, many_wait, bad_flag, unused_set, ImageTest, image_test, encode_like, decode, numbers_in}
use Rattle.images.specs.Image as image

-- ---- refusals

-- why a call is refused (01, Numbers handed back)
pub data Refusal : Type 0 where
  outside : ℕ → Refusal
  no_width no_input wrong_length wrong_contents no_room : Refusal
  broken : Fault → ℕ → Refusal

-- the numbers of what can be wrong with an image's bodies (02, C-16)
abbrev pub fault_number : Fault → ℕ
fault_number copy_differs = 8
fault_number many_wait = 9
fault_number bad_flag = 10
fault_number unused_set = 11

-- its number, and its value: of 1 the address, of 8 to 11 the place in the image (01, Numbers handed back; 02, C-16)
abbrev pub refusal_number : Refusal → ℕ
refusal_number (outside address) = 1
refusal_number no_width = 2
refusal_number no_input = 3
refusal_number wrong_length = 4
refusal_number wrong_contents = 5
refusal_number no_room = 7
refusal_number (broken k a) = fault_number k

abbrev pub refusal_value : Refusal → Value
refusal_value (outside address) = some address
refusal_value no_width = none
refusal_value no_input = none
refusal_value wrong_length = none
refusal_value wrong_contents = none
refusal_value no_room = none
refusal_value (broken k a) = some a

-- what a test answers: it passes and gives something, or it refuses
pub data Tested (A : Type 0) : Type 0 where
  pass : A → Tested A
  refuse : Refusal → Tested A

-- a refusal is handed straight up
abbrev pub on_pass : {A B : Type 0} → Tested A → (A → Tested B) → Tested B
on_pass (pass x) f = f x
on_pass (refuse r) f = refuse r

-- ---- the tests

-- 4, 5, then 8 to 11: what the test of an image found, and the device of one that is accepted (01, Numbers handed back; 02, C-16)
abbrev pub image_answer : ImageTest → Device → Tested Device
image_answer image.accepted d = pass d
image_answer image.wrong_length d = refuse wrong_length
image_answer image.wrong_contents d = refuse wrong_contents
image_answer (image.broken k a) d = refuse (broken k a)

-- the number and the value of what was found, 0 and none for an accepted image (01, Numbers handed back)
abbrev pub image_number : ImageTest → ℕ
image_number image.accepted = 0
image_number image.wrong_length = refusal_number wrong_length
image_number image.wrong_contents = refusal_number wrong_contents
image_number (image.broken k a) = refusal_number (broken k a)

abbrev pub image_value : ImageTest → Value
image_value image.accepted = none
image_value image.wrong_length = refusal_value wrong_length
image_value image.wrong_contents = refusal_value wrong_contents
image_value (image.broken k a) = refusal_value (broken k a)

-- 3: a call on an input asks for one below 64 (01, Numbers handed back)
abbrev pub input_call : ℕ → Call → Tested Call
input_call n c = cond (ltb n 64) (pass c) (refuse no_input)

-- 2: a width is 1, 2, 4 or 8 (01, Numbers handed back)
abbrev pub width_test : ℕ → Tested Width
width_test w =
    cond (eqb w 1) (pass byte) (cond (eqb w 2) (pass word) (cond (eqb w 4) (pass dword) (cond (eqb w 8) (pass qword) (refuse no_width))))

-- 1: an access inside the window, as an offset (01, Numbers handed back; 02, C-14)
abbrev pub address_test : ℕ → ℕ → ℕ → ℕ → Tested ℕ
address_test base size address width = cond (inside base size address width) (pass (offset base address)) (refuse (outside address))

-- an access: 2 before 1 (01, Numbers handed back)
abbrev pub access_call : ℕ → ℕ → ℕ → ℕ → (Width → ℕ → Call) → Tested Call
access_call base size address width f = on_pass (width_test width) (λ w. on_pass (address_test base size address width) (λ o. pass (f w o)))

-- ---- the calls

-- what a host asks: the numbers of each exported call in their order, and a drain's event buffer (01, The boundary)
pub data Request : Type 0 where
  reset : Request
  read : (base size address width : ℕ) → Request
  write : (base size address width value : ℕ) → Request
  level : (input level : ℕ) → Request
  poll : (input : ℕ) → Request
  drain : (events : List ℕ) (place : ℕ) → Request

-- what is asked of the device: to start afresh, or a call, which may be refused
pub data Asked : Type 0 where
  afresh : Asked
  calls : Tested Call → Asked

-- level 0 lowers, any other raises; a drain has room for the events that fit behind its place (01, The boundary; 01, The ring; 02, C-19)
abbrev pub asked_by : Request → Asked
asked_by reset = afresh
asked_by (read base size address width) = calls (access_call base size address width device.read)
asked_by (write base size address width v) = calls (access_call base size address width (λ w o. device.write w o v))
asked_by (level n v) = calls (input_call n (device.level n (not (eqb v 0))))
asked_by (poll n) = calls (input_call n (device.poll n))
asked_by (drain events place) = calls (pass (device.drain ((length events - place) / drained_length)))

-- what a call that was done gives
pub record Done : Type 0 where
  pub device : Device
  pub numbers : Numbers
  pub value : Value
  pub drained : List Numbered

abbrev pub done_on : Device → Numbers → Call → Done
done_on d s c = record { device = (step d c).after; numbers = numbers_after d s c; value = value_with d s c; drained = drained_with d s c }

-- reset takes any bytes that have the length of a form; numbers begin at 0 (01, Saved image; 02, C-17, C-19)
abbrev pub reset_as : Known → Tested Done
reset_as unknown = refuse wrong_length
reset_as (known f) = pass (record { device = device.reset; numbers = from_zero 0; value = none; drained = [] })

-- a call wants an accepted image, and then what it asks is tested (01, Numbers handed back: 4, 5, 8 to 11, then 3, or 2 before 1)
unfoldable pub performed : Asked → List ℕ → Tested Done
performed afresh i = reset_as (form_of (length i))
performed (calls t) i = on_pass (image_answer (image_test i) (decode i)) (λ d. on_pass t (λ c. pass (done_on d (numbers_in i) c)))

-- ---- the bytes afterwards

-- the answer area: 16 bytes are written, those past them stay (01, The boundary)
abbrev pub answer_length : ℕ
answer_length = 16

-- it has room for them
abbrev pub AnswerRoom : List ℕ → Type 0
AnswerRoom a = answer_length ≤ length a

-- 1 where a value is present (01, The boundary)
abbrev pub present : Value → ℕ
present none = 0
present (some v) = 1

-- byte 0 the number, 1 whether a value is present, 2..7 zero, 8..15 the value; the rest stay (01, The boundary)
unfoldable pub answered : ℕ → Value → List ℕ → List ℕ
answered number v a = (number ∷ present v ∷ 0 ∷ 0 ∷ 0 ∷ 0 ∷ 0 ∷ 0 ∷ bytes_of 8 (amount v)) ++ drop answer_length a

-- what a host reads in an answer area: whether a value is present, and the value (01, The boundary)
abbrev pub present_in : List ℕ → Bool
present_in a = eqb (get_or a 1 0) 1

abbrev pub value_in : List ℕ → ℕ
value_in a = number_of (part 8 8 a)

-- the event buffer of a request; of any but a drain there is none
abbrev pub buffer_of : Request → List ℕ
buffer_of reset = []
buffer_of (read base size address width) = []
buffer_of (write base size address width v) = []
buffer_of (level n v) = []
buffer_of (poll n) = []
buffer_of (drain events place) = events

-- where in it a drain writes
abbrev pub place_of : Request → ℕ
place_of reset = 0
place_of (read base size address width) = 0
place_of (write base size address width v) = 0
place_of (level n v) = 0
place_of (poll n) = 0
place_of (drain events place) = place

-- events are written from a place on, four bytes each, and all other bytes stay (01, The ring; 02, C-19)
unfoldable pub written : List ℕ → ℕ → List Numbered → List ℕ
written buffer place es = take place buffer ++ (quads_of es ++ drop (place + drained_length * length es) buffer)

-- what a call leaves: the number handed back, and every byte lent
pub record Outcome : Type 0 where
  pub number : ℕ
  pub image : List ℕ
  pub answer : List ℕ
  pub events : List ℕ

abbrev pub leaves : ℕ → List ℕ → List ℕ → List ℕ → Outcome
leaves n i a e = record { number = n; image = i; answer = a; events = e }

-- how a call ends that has room: the number and the value of its answer, and the bytes of image and event buffer
pub record Ending : Type 0 where
  pub number : ℕ
  pub value : Value
  pub image : List ℕ
  pub events : List ℕ

-- done: the image, in the form that it was given in, and the drained events are written; refused: neither (01, Numbers handed back; 02, C-17)
abbrev pub ended : Request → List ℕ → Tested Done → Ending
ended q i (pass x) = record { number = 0; value = x.value; image = encode_like i x.device x.numbers; events = written (buffer_of q) (place_of q) x.drained }
ended q i (refuse r) = record { number = refusal_number r; value = refusal_value r; image = i; events = buffer_of q }

abbrev pub ending : Request → List ℕ → Ending
ending q i = ended q i (performed (asked_by q) i)

-- either way its number and its value go into the answer area (01, The boundary)
abbrev pub settled : List ℕ → Ending → Outcome
settled a e = leaves e.number e.image (answered e.number e.value a) e.events

-- 7: the answer area has its 16 bytes, and a drain's place is not past the end of its buffer (01, Numbers handed back)
abbrev pub has_room : Request → List ℕ → Bool
has_room q a = leb answer_length (length a) && leb (place_of q) (length (buffer_of q))

-- what a request leaves of any image and answer area; refusal 7 comes first and leaves every byte (01, Numbers handed back; 00, demand 1)
unfoldable pub outcome : Request → List ℕ → List ℕ → Outcome
outcome q i a = cond (has_room q a) (settled a (ending q i)) (leaves (refusal_number no_room) i a (buffer_of q))

-- ---- promises

-- a call's promise: what it leaves of the image i and the answer area a, where q is asked, is `outcome` in its number and in every byte of image, answer
-- area and event buffer (01, How tight the promises are)
pub record Promised (q : Request) (i a : List ℕ) (x : Outcome) : Type 0 where
  pub number : x.number ≡ (outcome q i a).number
  pub image : x.image ≡ (outcome q i a).image
  pub answer : x.answer ≡ (outcome q i a).answer
  pub events : x.events ≡ (outcome q i a).events
