-- How adding and summing end: a number and a value that are told, and the bytes that were lent to be written.
use Rattle.std.specs.Prelude.{List, map, ◌≡◌, ℕ, ◌+◌, Option, Result}
use Rattle.rules.specs.Device.{Device, WellFormed, Value, none}
use Rattle.rules.specs.Numbering.{Numbers}
use Rattle.images.specs.Image.{decode}
use Rattle.traces.specs.Trace.{trace_test}
use Rattle.traces.specs.Played.{records_from}
use Rattle.sheets.specs.Day.{item_of}
use Rattle.sheets.specs.Sheet.{sheet_bytes}
use Rattle.passes.specs.tallies.Grid.{Grid, put}
use Rattle.passes.specs.tallies.Marks.{all_marked, day_marks}
use Rattle.passes.specs.tallies.Following.{Stands}
use Rattle.passes.specs.tallies.Tally.{numbers_of, counted_in, tally_bytes, TallyTest, sound, wrong_at, tally_test, tally_number, tally_value}
use Rattle.passes.specs.tallies.Tallying.{over_tally, tallied, AddTest, refused, adds, unless_tally, unless_trace, add_test, long_row}
use Rattle.fields.specs.inplace.Held.{Holds}
use Rattle.answer.specs.Given.{told_number, told_value}
use Rattle.answer.specs.declared.refusals.Refusal.{Refusal}
use Rattle.ledger.specs.watch.Kept.{lines_of}
use Rattle.ledger.specs.declared.watch.Watched.{Watched}

pub record Ended : Type 0 where
  pub number : ℕ
  pub value : Value
  pub bytes : List ℕ

abbrev pub ends_as : Result (Option ℕ) Refusal → List ℕ → Ended
ends_as t b = record { number = told_number t; value = told_value t; bytes = b }

-- ---- adding

abbrev pub add_by : AddTest → (trace image tally : List ℕ) → Ended
add_by (refused n v) l i t = record { number = n; value = v; bytes = t }
add_by adds l i t = record { number = 0; value = none; bytes = over_tally (tally_bytes (tallied l t (decode i))) t }

abbrev pub added : (trace image tally : List ℕ) → Ended
added l i t = add_by (add_test l i t) l i t

-- of an image that was accepted
abbrev pub added_to : (trace image tally : List ℕ) → Ended
added_to l i t = add_by (unless_trace (trace_test l) (unless_tally (tally_test t))) l i t

-- what is kept is of whatever device the image holds
abbrev pub Keeps : List ℕ → Watched → Type 0
Keeps i w = (d : Device) (s : Numbers) → Holds i d s → Stands (lines_of w) w.waiting d

-- the numbers after n records of a trace
abbrev pub tallied_to : (trace tally : List ℕ) → ℕ → Device → Grid
tallied_to l t n d = put (all_marked (numbers_of t) (day_marks (counted_in t) d (map item_of (records_from l n 0)))) 64 0 (counted_in t + n)

-- they are counted from whatever device what is kept stands for
abbrev pub CountsFrom : (trace : List ℕ) → ℕ → Watched → (before after : List ℕ) → Type 0
CountsFrom l n w b a = (d : Device) → WellFormed d → Stands (lines_of w) w.waiting d → a ≡ over_tally (tally_bytes (tallied_to l b n d)) b

-- ---- summing

abbrev pub sum_by : TallyTest → (tally sheet : List ℕ) → Ended
sum_by sound t s = record { number = 0; value = none; bytes = over_tally (sheet_bytes 8 (long_row t)) s }
sum_by (wrong_at x) t s = record { number = tally_number (wrong_at x); value = tally_value (wrong_at x); bytes = s }

abbrev pub summed : (tally sheet : List ℕ) → Ended
summed t s = sum_by (tally_test t) t s
