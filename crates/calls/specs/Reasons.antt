-- Every reason to refuse an exported call, with its number and its value (01, Numbers handed back; 02; 17, of a tally, is the library's own), and what such a call leaves. A front has a table, which says of each reason
-- when it is given; `Refuses` says that the front keeps to it, and what then follows is proved once.
use Rattle.std.specs.Prelude.{cond, List, ◌≡◌, ℕ, eqb}
use Rattle.rules.specs.Device.{Value, none, some}
use Rattle.images.specs.Image.{Fault, ImageTest}
use Rattle.images.specs.Image as image
use Rattle.calls.specs.Calls.{Refusal, no_input, no_width, outside, no_room, fault_number, refusal_number, refusal_value, image_number, image_value, answered}
use Rattle.calls.specs.Untouched.{Left, left, IsDone}

-- ---- the reasons

-- of an image: its length, its contents, or what is wrong in a body and at which place (01; 02, C-16)
pub data OfImage : Type 0 where
  bad_length bad_head : OfImage
  bad_body : Fault → (place : ℕ) → OfImage

-- of what is asked: an input from 64 up, a width that is none, an address outside the window (01)
pub data OfRequest : Type 0 where
  bad_input bad_width : OfRequest
  bad_address : ℕ → OfRequest

-- of a trace: its contents, or its first bad record (02, C-11)
pub data OfTrace : Type 0 where
  bad_contents : OfTrace
  bad_at : (number : ℕ) → OfTrace

-- of the hoist profile: no aligned Dword, or what it forbids (02, C-22)
pub data OfProfile : Type 0 where
  not_aligned not_fit : OfProfile

-- and want of room; no block left of a trace (02, C-23); a number of a tally that cannot be, at its place
pub data Reason : Type 0 where
  short_room : Reason
  of_image : OfImage → Reason
  of_request : OfRequest → Reason
  of_trace : OfTrace → Reason
  of_profile : OfProfile → Reason
  none_left : Reason
  of_tally : (place : ℕ) → Reason

-- ---- their numbers and values: 12 to 17 stand here, 1 to 5 and 7 to 11 in Calls

-- what testing an image finds then
abbrev pub test_of : OfImage → ImageTest
test_of bad_length = image.wrong_length
test_of bad_head = image.wrong_contents
test_of (bad_body k p) = image.broken k p

abbrev pub refusal_of : OfRequest → Refusal
refusal_of bad_input = no_input
refusal_of bad_width = no_width
refusal_of (bad_address x) = outside x

abbrev pub trace_reason : OfTrace → ℕ
trace_reason bad_contents = 12
trace_reason (bad_at k) = 13

abbrev pub profile_reason : OfProfile → ℕ
profile_reason not_aligned = 14
profile_reason not_fit = 15

abbrev pub trace_told : OfTrace → Value
trace_told bad_contents = none
trace_told (bad_at k) = some k

abbrev pub reason_number : Reason → ℕ
reason_number short_room = refusal_number no_room
reason_number (of_image f) = image_number (test_of f)
reason_number (of_request w) = refusal_number (refusal_of w)
reason_number (of_trace t) = trace_reason t
reason_number (of_profile v) = profile_reason v
reason_number none_left = 16
reason_number (of_tally p) = 17

-- 1 has the address, 8 to 11 the place in the image, 13 the number of the record, 17 the place in the tally; all others have none
abbrev pub reason_value : Reason → Value
reason_value short_room = none
reason_value (of_image f) = image_value (test_of f)
reason_value (of_request w) = refusal_value (refusal_of w)
reason_value (of_trace t) = trace_told t
reason_value (of_profile v) = none
reason_value none_left = none
reason_value (of_tally p) = some p

-- ---- what a call leaves that is refused for one

-- number and value stand in the answer area, but of 7, which writes no byte
abbrev pub told_in : ℕ → Value → List ℕ → List ℕ
told_in n v a = cond (eqb n (refusal_number no_room)) a (answered n v a)

abbrev pub told_for : Reason → List ℕ → List ℕ
told_for r a = told_in (reason_number r) (reason_value r) a

-- none of these is so
abbrev pub NoneOf : {A : Type 0} → (A → Type 0) → Type 0
NoneOf {A} P = (x : A) → P x → ⊥

-- the number is handed back, and all that was lent is as it was
abbrev pub refused_for : Reason → (lent : List (List ℕ)) (answer : List ℕ) → Left
refused_for r lent a = left (reason_number r) lent (told_for r a)

-- A table says of each reason when it is given. A call that was lent these bytes keeps to it: where a reason is given it is refused for that, and where it is refused, a reason is given.
pub record Refuses (Given : Reason → Type 0) (lent : List (List ℕ)) (answer : List ℕ) (x : Left) : Type 0 where
  pub refused : (r : Reason) → Given r → x ≡ refused_for r lent answer
  pub given : (IsDone x.number → ⊥) → (r : Reason) × Given r

-- ---- by the number

-- the one holds exactly where the other does
abbrev pub Exactly : Type 0 → Type 0 → Type 0
Exactly A B = (A → B) × (B → A)

-- Each number is handed back exactly where its row of the table is met; 0 exactly where none is.
pub record ByNumber (Given : Reason → Type 0) (number : ℕ) : Type 0 where
  pub zero : Exactly (IsDone number) (NoneOf Given)
  pub one : Exactly (number ≡ 1) ((address : ℕ) × Given (of_request (bad_address address)))
  pub two : Exactly (number ≡ 2) (Given (of_request bad_width))
  pub three : Exactly (number ≡ 3) (Given (of_request bad_input))
  pub four : Exactly (number ≡ 4) (Given (of_image bad_length))
  pub five : Exactly (number ≡ 5) (Given (of_image bad_head))
  pub seven : Exactly (number ≡ 7) (Given short_room)
  pub body : (k : Fault) → Exactly (number ≡ fault_number k) ((place : ℕ) × Given (of_image (bad_body k place)))
  pub twelve : Exactly (number ≡ 12) (Given (of_trace bad_contents))
  pub thirteen : Exactly (number ≡ 13) ((k : ℕ) × Given (of_trace (bad_at k)))
  pub fourteen : Exactly (number ≡ 14) (Given (of_profile not_aligned))
  pub fifteen : Exactly (number ≡ 15) (Given (of_profile not_fit))
  pub sixteen : Exactly (number ≡ 16) (Given none_left)
  pub seventeen : Exactly (number ≡ 17) ((place : ℕ) × Given (of_tally place))
