-- A record of the recorded answers: what it says, what it lends, and when what a call left is what was recorded.
-- The form of the file is told in tools/harness/records.rs.
use Rattle.std.specs.Prelude.{◌≡◌, Bool, true, false, cond, List, [], ◌∷◌, ℕ, ◌+◌, ◌*◌, ◌%◌, eqb, ltb, get_or, replicate, Result, Ok, Err}
use Rattle.basics.specs.Numbers.{number_of, part}
use Rattle.bits.specs.bytes.Put.{with_word}
use Rattle.replay.specs.declared.records.Mismatch.{Mismatch}
use Rattle.replay.specs.declared.records.Call.{Call}
use Rattle.replay.specs.declared.records.Call.TheVariants as call
use Rattle.replay.specs.declared.records.Kind.{Kind}
use Rattle.replay.specs.declared.records.Kind.TheVariants as kind
use Rattle.replay.specs.declared.records.Held.{Held}
use Rattle.replay.specs.declared.records.Held.TheVariants.{Agrees, Nothing}

-- ---- fields

-- the number in the eight bytes from a place on
abbrev pub word_at : ℕ → List ℕ → ℕ
word_at at r = number_of (part at 8 r)

abbrev pub kind_of : List ℕ → ℕ
kind_of r = get_or r 0 0

abbrev pub number_said : List ℕ → ℕ
number_said r = get_or r 1 0

abbrev pub present_said : List ℕ → ℕ
present_said r = get_or r 2 0

abbrev pub lent_answer : List ℕ → ℕ
lent_answer r = get_or r 3 0

abbrev pub lent_image : List ℕ → ℕ
lent_image r = number_of (part 60 2 r)

-- only a drain is lent an event buffer
abbrev pub lent_events : ℕ → List ℕ → ℕ
lent_events kind r = cond (ltb kind 6) 0 (word_at 24 r)

abbrev pub image_sum : List ℕ → ℕ
image_sum r = number_of (part 4 4 r)

abbrev pub event_sum : List ℕ → ℕ
event_sum r = number_of (part 56 4 r)

-- ---- kinds

-- the first byte of a record, by its kind
abbrev pub call_code : Call → ℕ
call_code call.Reset = 1
call_code call.Read = 2
call_code call.Write = 3
call_code call.Level = 4
call_code call.Poll = 5
call_code call.Drain = 6

abbrev pub code_of : Kind → ℕ
code_of (kind.Call c) = call_code c
code_of kind.Image = 7
code_of kind.Whole = 8
code_of kind.Byte = 9

-- a byte is the code of a kind, or of none
abbrev pub Decodes : ℕ → Result Kind Mismatch → Type 0
Decodes code (Ok k) = code_of k ≡ code
Decodes code (Err m) = (k : Kind) → code_of k ≡ code → ⊥

-- ---- the areas

-- what stands in the answer area and in the event buffer before every call
abbrev pub answer_fill : List ℕ
answer_fill = replicate 32 0xee

abbrev pub event_fill : List ℕ
event_fill = replicate 64 0xdd

-- the answer area that was recorded: 7 leaves it, any other number is written with whether a value is present, and the value
abbrev pub recorded_answer : List ℕ → List ℕ
recorded_answer r =
    cond (eqb (number_said r) 7) answer_fill (with_word 8 (word_at 8 r) (with_word 0 (number_said r + 256 * present_said r) answer_fill))

-- the checksum of bytes, on from h
unfoldable pub checksum_of : ℕ → List ℕ → ℕ
checksum_of h [] = h
checksum_of h (b ∷ bs) = checksum_of ((257 * h + b + 1) % 4294967291) bs

-- ---- agreement

-- what a call left is what the record holds
pub record AsNoted (r : List ℕ) (number : ℕ) (image answer events : List ℕ) : Type 0 where
  pub handed : number ≡ number_said r
  pub area : answer ≡ recorded_answer r
  pub kept : checksum_of 0 image ≡ image_sum r
  pub drained : kind_of r ≡ 6 → checksum_of 0 events ≡ event_sum r

-- a record agrees: there was something to compare, and nothing differs
abbrev pub agreed : Result Held Mismatch → Bool
agreed (Ok Agrees) = true
agreed (Ok Nothing) = false
agreed (Err m) = false
