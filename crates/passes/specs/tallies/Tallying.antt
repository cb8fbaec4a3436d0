-- The three exported calls of a tally, on any bytes: the number handed back, and every byte of tally, sheet and answer area afterwards.
use Rattle.std.specs.Prelude.{Bool, cond, ◌&&◌, List, ◌++◌, ℕ, ◌+◌, leb, length, drop}
use Rattle.rules.specs.Device.{Device, Value, none}
use Rattle.images.specs.Image.{ImageTest, accepted, wrong_length, wrong_contents, broken, image_test, decode}
use Rattle.calls.specs.Calls.{refusal_number, no_room, answer_length, answered, image_number, image_value}
use Rattle.traces.specs.Trace as trace
use Rattle.traces.specs.Trace.{TraceTest, record_count, trace_number, trace_value, trace_test}
use Rattle.sheets.specs.Day.{items}
use Rattle.sheets.specs.Sheet.{Row, empty_row, rows_below, sheet_bytes}
use Rattle.passes.specs.tallies.Grid.{Grid, put}
use Rattle.passes.specs.tallies.Marks.{all_marked, day_marks}
use Rattle.passes.specs.tallies.Tally.{tally_length, numbers_of, counted_in, row_in, tally_bytes, TallyTest, sound, wrong_at, tally_test, tally_number, tally_value}
use Rattle.passes.specs.Finish.{is_on}

-- what a call leaves: the number handed back, and the bytes that were lent to be written
pub record TallyLeft : Type 0 where
  pub number : ℕ
  pub bytes : List ℕ
  pub answer : List ℕ

abbrev pub tally_leaves : ℕ → (bytes answer : List ℕ) → TallyLeft
tally_leaves n t a = record { number = n; bytes = t; answer = a }

-- bytes stand in front of a buffer of at least 5,200, and those past them stay
abbrev pub over_tally : (xs buffer : List ℕ) → List ℕ
over_tally xs t = xs ++ drop tally_length t

-- 7 for the answer area or a buffer comes first, and writes no byte
abbrev pub with_room : (answer bytes : List ℕ) → TallyLeft → TallyLeft
with_room a t x = cond (leb answer_length (length a) && leb tally_length (length t)) x (tally_leaves (refusal_number no_room) t a)

-- ---- begin: nothing is counted yet

unfoldable pub beginning : (tally answer : List ℕ) → TallyLeft
beginning t a = with_room a t (tally_leaves 0 (over_tally (rows_below 8 65 (λ n. empty_row)) t) (answered 0 none a))

-- ---- add: the records of a trace, as the day goes on from an image

-- the numbers then: every record of the trace has brought its marks, the first of them with the number of the records so far
abbrev pub tallied : (trace tally : List ℕ) → Device → Grid
tallied l t d = put (all_marked (numbers_of t) (day_marks (counted_in t) d (items l))) 64 0 (counted_in t + record_count l)

-- it is refused, with a number and a value, or it counts
pub data AddTest : Type 0 where
  refused : (number : ℕ) (value : Value) → AddTest
  adds : AddTest

-- 4, 5, 8 to 11 of the image come before 12 and 13 of the trace, and these before 17 of the tally
abbrev pub unless_tally : TallyTest → AddTest
unless_tally sound = adds
unless_tally (wrong_at a) = refused (tally_number (wrong_at a)) (tally_value (wrong_at a))

abbrev pub unless_trace : TraceTest → AddTest → AddTest
unless_trace (trace.good first n) t = t
unless_trace trace.wrong_contents t = refused (trace_number trace.wrong_contents) (trace_value trace.wrong_contents)
unless_trace (trace.bad_record k) t = refused (trace_number (trace.bad_record k)) (trace_value (trace.bad_record k))

abbrev pub unless_image : ImageTest → AddTest → AddTest
unless_image accepted t = t
unless_image wrong_length t = refused (image_number wrong_length) (image_value wrong_length)
unless_image wrong_contents t = refused (image_number wrong_contents) (image_value wrong_contents)
unless_image (broken k a) t = refused (image_number (broken k a)) (image_value (broken k a))

abbrev pub add_test : (trace image tally : List ℕ) → AddTest
add_test l i t = unless_image (image_test i) (unless_trace (trace_test l) (unless_tally (tally_test t)))

abbrev pub add_ends : AddTest → (trace image tally answer : List ℕ) → TallyLeft
add_ends (refused n v) l i t a = tally_leaves n t (answered n v a)
add_ends adds l i t a = tally_leaves 0 (over_tally (tally_bytes (tallied l t (decode i))) t) (answered 0 none a)

unfoldable pub adding : (trace image tally answer : List ℕ) → TallyLeft
adding l i t a = with_room a t (add_ends (add_test l i t) l i t a)

-- ---- sheet: the rows and their total, in numbers of eight bytes

-- a wait that is not over is open
abbrev pub long_row : List ℕ → ℕ → Row
long_row t n = record {
  raises = numbers_of t n 0;
  lowers = numbers_of t n 1;
  asserts = numbers_of t n 2;
  deasserts = numbers_of t n 3;
  returned = numbers_of t n 4;
  offered = numbers_of t n 5;
  dropped = numbers_of t n 6;
  greatest = numbers_of t n 7;
  withdrawn = numbers_of t n 8;
  still_open = is_on (numbers_of t n 9);
}

abbrev pub sum_ends : TallyTest → (tally sheet answer : List ℕ) → TallyLeft
sum_ends sound t s a = tally_leaves 0 (over_tally (sheet_bytes 8 (long_row t)) s) (answered 0 none a)
sum_ends (wrong_at x) t s a = tally_leaves (tally_number (wrong_at x)) s (answered (tally_number (wrong_at x)) (tally_value (wrong_at x)) a)

-- 7 for the tally too
unfoldable pub summing : (tally sheet answer : List ℕ) → TallyLeft
summing t s a = cond (leb tally_length (length t)) (with_room a s (sum_ends (tally_test t) t s a)) (tally_leaves (refusal_number no_room) s a)
