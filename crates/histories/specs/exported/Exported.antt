-- Exported calls: which of them are loads, the history that they carry on, and what a host reads of them.
use Rattle.std.specs.Prelude.{Bool, true, false, cond, not, ◌&&◌, ◌||◌, List, [], ◌∷◌, ◌++◌, map, ◌≡◌, ℕ, zero, suc, ◌+◌, ◌/◌, ◌%◌, ◌^◌, eqb, take, drop, set}
use Rattle.basics.specs.Numbers.{Bytes}
use Rattle.rules.specs.Ring.{Event}
use Rattle.rules.specs.Device.{Device, WellFormed, Call, step, value}
use Rattle.rules.specs.Device as device
use Rattle.rules.specs.Numbering.{Numbers, from_zero, WellNumbered, Numbered, quads_in, events_in, numbers_after, drained_with, value_with}
use Rattle.images.specs.Form.{Form}
use Rattle.images.specs.Image.{encode_as, encode_like, decode, numbers_in}
use Rattle.basics.specs.Numbers.{same}
use Rattle.calls.specs.Calls as request
use Rattle.calls.specs.Calls.{Request, pass, refuse, Asked, afresh, calls, asked_by, answered, present_in, value_in, buffer_of, place_of, written, Outcome, outcome}
use Rattle.rules.specs.History.{history}
use Rattle.rules.specs.Account.{carrying, asserts_among, deasserts_among}

-- ---- one call

-- an exported call as a host makes it: the image given, what is asked, the answer area
pub record Exported : Type 0 where
  pub given : List ℕ
  pub asked : Request
  pub answer : List ℕ

-- what it leaves; it is done where its number is 0, and a refused call counts as no call (01, Saved image)
abbrev pub left_by : Exported → Outcome
left_by x = outcome x.asked x.given x.answer

abbrev pub is_done : Exported → Bool
is_done x = eqb (left_by x).number 0

-- ---- what it hands back, without the numbers of events (02, C-19: vectors and flags are compared without them)

-- an answer area, with the number of a returned vector put to 0: bytes 10 and 11, which a level or a poll has for it
abbrev pub without_number : Request → List ℕ → List ℕ
without_number request.reset a = a
without_number (request.read base size address width) a = a
without_number (request.write base size address width v) a = a
without_number (request.level n v) a = set (set a 10 0) 11 0
without_number (request.poll n) a = set (set a 10 0) 11 0
without_number (request.drain buffer place) a = a

-- the first n events of four bytes each, with their numbers put to 0
abbrev pub quads_without : ℕ → List ℕ → List ℕ
quads_without zero l = l
quads_without (suc n) [] = []
quads_without (suc n) (v ∷ []) = v ∷ []
quads_without (suc n) (v ∷ f ∷ []) = v ∷ f ∷ []
quads_without (suc n) (v ∷ f ∷ a ∷ []) = v ∷ f ∷ a ∷ []
quads_without (suc n) (v ∷ f ∷ a ∷ b ∷ l) = v ∷ f ∷ 0 ∷ 0 ∷ quads_without n l

-- an event buffer, with the numbers put to 0 of as many events from a drain's place on as its answer says
abbrev pub without_numbers : Request → (answer events : List ℕ) → List ℕ
without_numbers request.reset a e = e
without_numbers (request.read base size address width) a e = e
without_numbers (request.write base size address width v) a e = e
without_numbers (request.level n v) a e = e
without_numbers (request.poll n) a e = e
without_numbers (request.drain buffer place) a e = take place e ++ quads_without (value_in a) (drop place e)

-- what a call left: of a done call; a refused one hands back no number of an event
abbrev pub answer_left : Request → Outcome → List ℕ
answer_left q o = cond (eqb o.number 0) (without_number q o.answer) o.answer

abbrev pub events_left : Request → Outcome → List ℕ
events_left q o = cond (eqb o.number 0) (without_numbers q o.answer o.events) o.events

abbrev pub answer_without : Exported → List ℕ
answer_without x = answer_left x.asked (left_by x)

abbrev pub events_without : Exported → List ℕ
events_without x = events_left x.asked (left_by x)

-- events as they are drained, each with 0 for its number
abbrev pub unnumbered : List Event → List Numbered
unnumbered es = map (λ e. record { event = e; number = 0 }) es

-- ---- loads

-- a request to start afresh
abbrev pub is_reset : Asked → Bool
is_reset afresh = true
is_reset (calls t) = false

-- after the first call: a done call given another image than the last done call left, or a done reset (01, Saved image)
abbrev pub is_load : List ℕ → Exported → Bool
is_load left x = is_done x && (is_reset (asked_by x.asked) || not (same left x.given))

-- the call of the device that a done request is; of a reset, none
abbrev pub call_of : Asked → List Call
call_of afresh = []
call_of (calls (pass c)) = c ∷ []
call_of (calls (refuse r)) = []

-- a history under way: the device that it began from, its calls since, and the image that the last done call left
pub record Underway : Type 0 where
  pub began : Device
  pub calls : List Call
  pub left : List ℕ

-- one exported call more: refused, nothing; a load begins a new history from what it was given (01, Saved image)
unfoldable pub carried_on : Underway → Exported → Underway
carried_on h x =
    let new = is_load h.left x in
    cond (is_done x)
    (record {
      began = cond new (cond (is_reset (asked_by x.asked)) device.reset (decode x.given)) h.began;
      calls = cond new [] h.calls ++ call_of (asked_by x.asked);
      left = (left_by x).image;
    })
    h

-- ---- calls, one after another

-- exported calls, one after another: the history under way after them (01, Saved image)
unfoldable pub carried_through : Underway → List Exported → Underway
carried_through h [] = h
carried_through h (x ∷ xs) = carried_through (carried_on h x) xs

-- none of them is a load: each done one is no reset, and is given the image that the last done one left (01, Saved image)
unfoldable pub NoLoads : Underway → List Exported → Type 0
NoLoads h [] = Unit {0}
NoLoads h (x ∷ xs) = (is_load h.left x ≡ false) × NoLoads (carried_on h x) xs

-- each is given the image that the one before it left, done or refused, and none is a reset (01, Saved image: handing that same image on is no load)
unfoldable pub HandedOn : List ℕ → List Exported → Type 0
HandedOn left [] = Unit {0}
HandedOn left (x ∷ xs) = (x.given ≡ left) × (is_reset (asked_by x.asked) ≡ false) × HandedOn (left_by x).image xs

-- the image left at last, done or refused, where each call is given the image that the one before it left
unfoldable pub left_after : List ℕ → List Exported → List ℕ
left_after i [] = i
left_after i (x ∷ xs) = left_after (left_by x).image xs

-- the call of the device that an exported call is, if it is one; a refused call counts as no call (01, Saved image)
abbrev pub done_call : Exported → List Call
done_call x = cond (is_done x) (call_of (asked_by x.asked)) []

unfoldable pub done_calls : List Exported → List Call
done_calls [] = []
done_calls (x ∷ xs) = done_call x ++ done_calls xs

-- an exported call is one call of the device d: it is done, its image is that of d after the call, in the form that it was given, its answer area has the
-- call's value, and its event buffer the events that the call drained (01, The boundary; 01, The ring; 02, C-17); numbers are those that the image given loads
-- with, and what they become (02, C-19). Without them the answer area has d's value, and the event buffer the events that d drained
pub record IsStep (d : Device) (x : Exported) : Type 0 where
  pub call : Call
  pub is : done_call x ≡ call ∷ []
  pub number : (left_by x).number ≡ 0
  pub image : (left_by x).image ≡ encode_like x.given (step d call).after (numbers_after d (numbers_in x.given) call)
  pub answer : (left_by x).answer ≡ answered 0 (value_with d (numbers_in x.given) call) x.answer
  pub events : (left_by x).events ≡ written (buffer_of x.asked) (place_of x.asked) (drained_with d (numbers_in x.given) call)
  pub plain_answer : answer_without x ≡ answered 0 (value d call) x.answer
  pub plain_events : events_without x ≡ written (buffer_of x.asked) (place_of x.asked) (unnumbered (step d call).drained)

-- the images that they are given are bytes
abbrev pub GivenBytes : List Exported → Type 0
GivenBytes [] = Unit {0}
GivenBytes (x ∷ xs) = Bytes x.given × GivenBytes xs

-- the device to which a history under way has come
abbrev pub current : Underway → Device
current h = (history h.began h.calls).after

-- the device that the image left last holds
abbrev pub in_image : Underway → Device
in_image h = decode h.left

-- a history under way is that of the image left last: it began with a device that an image can hold, and that image is the device to which it has come, with
-- numbers that fit it, in one of the forms; a form without the fifth body has none of them (02, C-19)
pub record Faithful (h : Underway) : Type 0 where
  pub form : Form
  pub began : WellFormed h.began
  pub numbers : Numbers
  pub numbered : WellNumbered (current h) numbers
  pub left : h.left ≡ encode_as form (current h) numbers

-- what numbers become by calls of the device, one after another (02, C-19)
unfoldable pub numbers_through : Device → Numbers → List Call → Numbers
numbers_through d s [] = s
numbers_through d s (c ∷ cs) = numbers_through (step d c).after (numbers_after d s c) cs

-- the history that a done reset begins, in the form that its image is given; numbers begin at 0 (01, Saved image; 02, C-17, C-19)
abbrev pub after_reset : Form → Underway
after_reset f = record { began = device.reset; calls = []; left = encode_as f device.reset (from_zero 0) }

-- the history that a load of the image i begins: the load's own call is the first of it (01, Saved image)
abbrev pub at_load : List ℕ → Underway
at_load i = record { began = decode i; calls = []; left = i }

-- ---- what a host reads

-- the event in an answer area, if it has one: an assert (true) or a deassert, the vector in the low byte of the value and the number in its bits 16 to 31 (02, C-19)
abbrev pub in_answer : Bool → List ℕ → List Numbered
in_answer b a = cond (present_in a) (record { event = record { vector = value_in a % 256; asserted = b }; number = value_in a / 2 ^ 16 } ∷ []) []

-- the event that a request returned: level 0 a deassert, any other level and a poll an assert (01, Inputs; 01, The boundary)
abbrev pub numbered_to : Request → List ℕ → List Numbered
numbered_to request.reset a = []
numbered_to (request.read base size address width) a = []
numbered_to (request.write base size address width v) a = []
numbered_to (request.level n v) a = in_answer (not (eqb v 0)) a
numbered_to (request.poll n) a = in_answer true a
numbered_to (request.drain buffer place) a = []

-- the events that a request drained: from its place on, four bytes each, as many as its answer says (01, The ring; 02, C-19)
abbrev pub quads_to : Request → (answer events : List ℕ) → List Numbered
quads_to request.reset a e = []
quads_to (request.read base size address width) a e = []
quads_to (request.write base size address width v) a e = []
quads_to (request.level n v) a e = []
quads_to (request.poll n) a e = []
quads_to (request.drain buffer place) a e = quads_in (value_in a) (drop place e)

-- the same events without their numbers: a number tells no event (02, C-19)
abbrev pub returned_to : Request → List ℕ → List Event
returned_to q a = events_in (numbered_to q a)

abbrev pub drained_to : Request → (answer events : List ℕ) → List Event
drained_to q a e = events_in (quads_to q a e)

-- all that exported calls handed back, in order: in answer areas, and in event buffers; a refused call nothing
unfoldable pub returned_by : List Exported → List Event
returned_by [] = []
returned_by (x ∷ xs) = cond (is_done x) (returned_to x.asked (left_by x).answer) [] ++ returned_by xs

unfoldable pub drained_by : List Exported → List Event
drained_by [] = []
drained_by (x ∷ xs) = cond (is_done x) (drained_to x.asked (left_by x).answer (left_by x).events) [] ++ drained_by xs

-- how many events a request says that it dropped: a write by the value in its answer area (02, C-15)
abbrev pub lost_to : Request → List ℕ → ℕ
lost_to request.reset a = 0
lost_to (request.read base size address width) a = 0
lost_to (request.write base size address width v) a = cond (present_in a) (value_in a) 0
lost_to (request.level n v) a = 0
lost_to (request.poll n) a = 0
lost_to (request.drain buffer place) a = 0

-- what the done writes among exported calls say in their answer areas, added up; a refused call says nothing
unfoldable pub losses_read : List Exported → ℕ
losses_read [] = 0
losses_read (x ∷ xs) = cond (is_done x) (lost_to x.asked (left_by x).answer) 0 + losses_read xs

-- the account of a vector v between two devices, of exported calls by which the one comes to the other: asserts read in answer areas and in event
-- buffers, asserts that wait at last and asserts that were lost, with the deasserts that waited at first and the inputs then in service with v, come to
-- the same of deasserts, with the asserts that waited at first and the inputs in service with v at last (00, demand 3; 01, Saved image)
abbrev pub Balances : ℕ → Device → List Exported → (lost : List Event) → Device → Type 0
Balances v d xs lost e =
    asserts_among v (returned_by xs) + asserts_among v (drained_by xs) + asserts_among v e.ring.waiting + asserts_among v lost
    + deasserts_among v d.ring.waiting + carrying v d.core
    ≡ deasserts_among v (returned_by xs) + deasserts_among v (drained_by xs) + deasserts_among v e.ring.waiting + deasserts_among v lost
    + asserts_among v d.ring.waiting + carrying v e.core
