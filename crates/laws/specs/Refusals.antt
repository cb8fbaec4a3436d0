-- The tables of refusals of the six calls, of a conversion and of the call that tells who waits (01, Numbers handed back, as it stands with 02): of each reason, when it is given, on any bytes, numbers and lengths.
-- The order is in the rows: 7, then 4, 5, 8 to 11, then 3, or 2 before 1; each row has what comes before it shut out.
use Rattle.std.specs.Prelude.{List, ◌⊎◌, ◌≡◌, ℕ, ◌+◌, ◌-◌, ◌^◌, ◌<◌, ◌≤◌, min, length}
use Rattle.calls.specs.Calls.{Request, reset, read, write, level, poll, drain, buffer_of, place_of, AnswerRoom}
use Rattle.calls.specs.Reasons.{OfImage, bad_length, bad_head, bad_body, OfRequest, bad_input, bad_width, bad_address, Reason, short_room, of_image, of_request, of_trace, of_profile, none_left, of_tally}
use Rattle.laws.specs.Wrong.{NoForm, OtherContents, Broken, Found, IsImage}

-- ---- the six calls

-- 7: the answer area has under 16 bytes, or a drain's place is past the end of its event buffer
abbrev pub NoRoom : Request → List ℕ → Type 0
NoRoom q a = (length a < 16) ⊎ (length (buffer_of q) < place_of q)

abbrev pub Room : Request → List ℕ → Type 0
Room q a = AnswerRoom a × (place_of q ≤ length (buffer_of q))

-- 4, 5, 8 to 11: a reset takes any bytes of a form's length, and every other call wants an accepted image
abbrev pub OfReset : List ℕ → OfImage → Type 0
OfReset i bad_length = NoForm i
OfReset i bad_head = ⊥
OfReset i (bad_body k p) = ⊥

abbrev pub Unloaded : Request → List ℕ → OfImage → Type 0
Unloaded reset i x = OfReset i x
Unloaded (read base size address width) i x = Found i x
Unloaded (write base size address width v) i x = Found i x
Unloaded (level n v) i x = Found i x
Unloaded (poll n) i x = Found i x
Unloaded (drain events place) i x = Found i x

-- 3: an input of 64 or more
abbrev pub OfInput : ℕ → OfRequest → Type 0
OfInput n bad_input = 64 ≤ n
OfInput n bad_width = ⊥
OfInput n (bad_address x) = ⊥

-- 2: a width that is not 1, 2, 4 or 8
abbrev pub NoWidth : ℕ → Type 0
NoWidth w = (w ≡ 1 → ⊥) × (w ≡ 2 → ⊥) × (w ≡ 4 → ⊥) × (w ≡ 8 → ⊥)

-- 1: a byte of the access is not in the window (02, C-14)
abbrev pub Outside : (base size address width : ℕ) → Type 0
Outside base size address width = (address < base) ⊎ (min (base + size) (2 ^ 64 - 1) < address + width)

abbrev pub OfAccess : (base size address width : ℕ) → OfRequest → Type 0
OfAccess base size address width bad_input = ⊥
OfAccess base size address width bad_width = NoWidth width
OfAccess base size address width (bad_address x) = (NoWidth width → ⊥) × Outside base size address width × (x ≡ address)

abbrev pub Unasked : Request → OfRequest → Type 0
Unasked reset w = ⊥
Unasked (read base size address width) w = OfAccess base size address width w
Unasked (write base size address width v) w = OfAccess base size address width w
Unasked (level n v) w = OfInput n w
Unasked (poll n) w = OfInput n w
Unasked (drain events place) w = ⊥

-- The table of the six calls.
abbrev pub Given : Request → (image answer : List ℕ) → Reason → Type 0
Given q i a short_room = NoRoom q a
Given q i a (of_image x) = Room q a × Unloaded q i x
Given q i a (of_request w) = Room q a × IsImage i × Unasked q w
Given q i a (of_trace t) = ⊥
Given q i a (of_profile v) = ⊥
Given q i a none_left = ⊥
Given q i a (of_tally p) = ⊥

-- ---- a conversion

-- 4 of the image or of the target comes before 5 and 8 to 11 (02, C-17)
abbrev pub Unmovable : (image target : List ℕ) → OfImage → Type 0
Unmovable i t bad_length = NoForm i ⊎ NoForm t
Unmovable i t bad_head = (NoForm t → ⊥) × OtherContents i
Unmovable i t (bad_body k p) = (NoForm t → ⊥) × Broken i k p

-- 7, 4, 5, 8 to 11
abbrev pub ConvertGiven : (image target answer : List ℕ) → Reason → Type 0
ConvertGiven i t a short_room = length a < 16
ConvertGiven i t a (of_image x) = AnswerRoom a × Unmovable i t x
ConvertGiven i t a (of_request w) = ⊥
ConvertGiven i t a (of_trace y) = ⊥
ConvertGiven i t a (of_profile v) = ⊥
ConvertGiven i t a none_left = ⊥
ConvertGiven i t a (of_tally p) = ⊥

-- ---- who waits

-- 7, 4, 5, 8 to 11
abbrev pub WaitingGiven : (image answer : List ℕ) → Reason → Type 0
WaitingGiven i a short_room = length a < 16
WaitingGiven i a (of_image x) = AnswerRoom a × Found i x
WaitingGiven i a (of_request w) = ⊥
WaitingGiven i a (of_trace t) = ⊥
WaitingGiven i a (of_profile v) = ⊥
WaitingGiven i a none_left = ⊥
WaitingGiven i a (of_tally p) = ⊥
