-- The exported calls that play a trace, from a reset (02, C-11) and on from an image, on any bytes: the number handed back, and every byte of image, answers, events and
-- answer area afterwards. They differ in what they test of the image, and in the image that the first record is played on.
use Rattle.std.specs.Prelude.{Bool, cond, ◌&&◌, List, [], ◌∷◌, ◌++◌, ℕ, ◌+◌, ◌*◌, eqb, leb, length, drop}
use Rattle.rules.specs.Device.{Value, some}
use Rattle.images.specs.Form.{Known, unknown, known, form_of}
use Rattle.images.specs.Image.{ImageTest, image_test}
use Rattle.images.specs.Image as image
use Rattle.calls.specs.Calls.{refusal_number, refusal_value, wrong_length, no_room, image_number, image_value, answer_length, Outcome}
use Rattle.calls.specs.Reasons.{told_in}
use Rattle.traces.specs.Trace.{Record, record_count, TraceTest, good, wrong_contents, bad_record, trace_number, trace_value, trace_test}
use Rattle.traces.specs.Played.{drain_room, records, Played, played_from, played_through, afresh, drained_in}

-- ---- the first records of a play

-- the first n records of a trace, played on an image, and from reset
abbrev pub played_on_to : List ℕ → ℕ → List ℕ → Played
played_on_to l n i = played_from l n 0 i

abbrev pub played_to : List ℕ → ℕ → List ℕ → Played
played_to l n i = played_on_to l n (afresh i)

-- a play, and what one record more leaves
abbrev pub behind : Played → Outcome → Played
behind p o = record { image = o.image; answers = p.answers ++ o.answer; events = p.events ++ drained_in o }

-- ---- the room that a trace asks for: sixteen bytes for each record's answer, and a drain of all for each record that drains

abbrev pub drains : Record → ℕ
drains r = cond (eqb r.kind 6) 1 0

unfoldable pub drains_in : List Record → ℕ
drains_in [] = 0
drains_in (r ∷ rs) = drains r + drains_in rs

abbrev pub play_room : List ℕ → (answers events : List ℕ) → Bool
play_room l bs es = leb (answer_length * record_count l) (length bs) && leb (drain_room * drains_in (records l)) (length es)

-- ---- the tests, in their order

-- it is refused, with a number and a value, or it plays
pub data PlayTest : Type 0 where
  refused : (number : ℕ) (value : Value) → PlayTest
  plays : PlayTest

-- 12, 13, then 7 where the answers or the events have no room
abbrev pub trace_left : TraceTest → (room : Bool) → PlayTest
trace_left (good first n) room = cond room plays (refused (refusal_number no_room) (refusal_value no_room))
trace_left wrong_contents room = refused (trace_number wrong_contents) (trace_value wrong_contents)
trace_left (bad_record k) room = refused (trace_number (bad_record k)) (trace_value (bad_record k))

-- 4 before them: of an image that is reset the length alone is tested
abbrev pub length_left : Known → PlayTest → PlayTest
length_left unknown t = refused (refusal_number wrong_length) (refusal_value wrong_length)
length_left (known f) t = t

unfoldable pub play_test : (trace image answers events : List ℕ) → PlayTest
play_test l i bs es = length_left (form_of (length i)) (trace_left (trace_test l) (play_room l bs es))

-- 4, 5, then 8 to 11 before them: an image that is played on is tested as each of its records' calls tests it
abbrev pub image_left : ImageTest → PlayTest → PlayTest
image_left image.accepted t = t
image_left image.wrong_length t = refused (image_number image.wrong_length) (image_value image.wrong_length)
image_left image.wrong_contents t = refused (image_number image.wrong_contents) (image_value image.wrong_contents)
image_left (image.broken k a) t = refused (image_number (image.broken k a)) (image_value (image.broken k a))

unfoldable pub play_on_test : (trace image answers events : List ℕ) → PlayTest
play_on_test l i bs es = image_left (image_test i) (trace_left (trace_test l) (play_room l bs es))

-- ---- the bytes afterwards

-- how a play ends: its number and its value, and the bytes of image, answers and events
pub record PlayEnding : Type 0 where
  pub number : ℕ
  pub value : Value
  pub image : List ℕ
  pub answers : List ℕ
  pub events : List ℕ

-- bytes stand in front of a buffer, and those past them stay
abbrev pub in_front : List ℕ → List ℕ → List ℕ
in_front xs buffer = xs ++ drop (length xs) buffer

-- refused, no byte changes; played from an image on, the value is the number of records
abbrev pub play_ends : PlayTest → (trace from image answers events : List ℕ) → PlayEnding
play_ends (refused n v) l b i bs es = record { number = n; value = v; image = i; answers = bs; events = es }
play_ends plays l b i bs es = record {
  number = 0;
  value = some (record_count l);
  image = (played_through l b).image;
  answers = in_front (played_through l b).answers bs;
  events = in_front (played_through l b).events es;
}

-- from the image after its reset, or from the image as it is
abbrev pub play_ending : (trace image answers events : List ℕ) → PlayEnding
play_ending l i bs es = play_ends (play_test l i bs es) l (afresh i) i bs es

abbrev pub play_on_ending : (trace image answers events : List ℕ) → PlayEnding
play_on_ending l i bs es = play_ends (play_on_test l i bs es) l i i bs es

-- what a call leaves: the number handed back, and every byte lent to be written
pub record PlayLeft : Type 0 where
  pub number : ℕ
  pub image : List ℕ
  pub answers : List ℕ
  pub events : List ℕ
  pub answer : List ℕ

abbrev pub play_leaves : ℕ → (image answers events answer : List ℕ) → PlayLeft
play_leaves n i bs es a = record { number = n; image = i; answers = bs; events = es; answer = a }

-- number and value go into the answer area, but of 7
abbrev pub play_settled : List ℕ → PlayEnding → PlayLeft
play_settled a e = play_leaves e.number e.image e.answers e.events (told_in e.number e.value a)

-- 7 for the answer area comes first, whatever the ending would be
abbrev pub play_told : PlayEnding → (image answers events answer : List ℕ) → PlayLeft
play_told e i bs es a = cond (leb answer_length (length a)) (play_settled a e) (play_leaves (refusal_number no_room) i bs es a)

unfoldable pub playing : (trace image answers events answer : List ℕ) → PlayLeft
playing l i bs es a = play_told (play_ending l i bs es) i bs es a

unfoldable pub playing_on : (trace image answers events answer : List ℕ) → PlayLeft
playing_on l i bs es a = play_told (play_on_ending l i bs es) i bs es a
