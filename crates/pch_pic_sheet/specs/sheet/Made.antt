-- What is made of a trace: a number and a value that are told, and the bytes of the sheet.
use Rattle.std.specs.Prelude.{List, ℕ, Option, Result}
use Rattle.rules.specs.Device.{Value, some}
use Rattle.traces.specs.Trace.{TraceTest, good, wrong_contents, bad_record, trace_number, trace_value, trace_test}
use Rattle.sheets.specs.Sheeting.{with_sheet}
use Rattle.answer.specs.Given.{told_number, told_value}
use Rattle.answer.specs.declared.refusals.Refusal.{Refusal}

pub record Made : Type 0 where
  pub number : ℕ
  pub value : Value
  pub sheet : List ℕ

abbrev pub told : Result (Option ℕ) Refusal → List ℕ → Made
told t s = record { number = told_number t; value = told_value t; sheet = s }

-- of a good trace the sheet, and the number of records; else what is wrong with it
abbrev pub made_by : TraceTest → (trace sheet : List ℕ) → Made
made_by (good first n) l s = record { number = 0; value = some n; sheet = with_sheet l s }
made_by wrong_contents l s = record { number = trace_number wrong_contents; value = trace_value wrong_contents; sheet = s }
made_by (bad_record k) l s = record { number = trace_number (bad_record k); value = trace_value (bad_record k); sheet = s }

abbrev pub made_of : (trace sheet : List ℕ) → Made
made_of l s = made_by (trace_test l) l s
