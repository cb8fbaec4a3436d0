-- The exported call that writes the sheet of a trace (02, C-21), on any bytes: the number handed back, and every byte of sheet and answer area afterwards.
use Rattle.std.specs.Prelude.{cond, ◌&&◌, List, ◌++◌, ℕ, leb, length, drop}
use Rattle.rules.specs.Device.{some}
use Rattle.calls.specs.Calls.{refusal_number, no_room, answer_length, answered}
use Rattle.traces.specs.Trace.{TraceTest, good, wrong_contents, bad_record, trace_number, trace_value, trace_test}
use Rattle.sheets.specs.Sheet.{sheet_length, sheet_of}

pub record SheetLeft : Type 0 where
  pub number : ℕ
  pub sheet : List ℕ
  pub answer : List ℕ

abbrev pub sheet_leaves : ℕ → (sheet answer : List ℕ) → SheetLeft
sheet_leaves n s a = record { number = n; sheet = s; answer = a }

-- the sheet in front of the bytes lent, and those past it stay
abbrev pub with_sheet : (trace sheet : List ℕ) → List ℕ
with_sheet l s = sheet_of l ++ drop sheet_length s

-- 12, then 13; of a good trace the value is the number of records
abbrev pub sheet_settled : (trace sheet answer : List ℕ) → TraceTest → SheetLeft
sheet_settled l s a (good first n) = sheet_leaves 0 (with_sheet l s) (answered 0 (some n) a)
sheet_settled l s a wrong_contents = sheet_leaves (trace_number wrong_contents) s (answered (trace_number wrong_contents) (trace_value wrong_contents) a)
sheet_settled l s a (bad_record k) = sheet_leaves (trace_number (bad_record k)) s (answered (trace_number (bad_record k)) (trace_value (bad_record k)) a)

-- 7 for answer area or sheet comes first, and writes no byte
unfoldable pub sheeting : (trace sheet answer : List ℕ) → SheetLeft
sheeting l s a =
    cond (leb answer_length (length a) && leb sheet_length (length s)) (sheet_settled l s a (trace_test l)) (sheet_leaves (refusal_number no_room) s a)
