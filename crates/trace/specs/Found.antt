-- The answers of this crate's functions.
use Rattle.std.specs.Prelude.{Bool, List, ℕ, ◌+◌, ◌*◌, Result, Ok, Err}
use Rattle.traces.specs.Trace.{record_length, record_at, is_bad, TraceTest, good, wrong_contents, bad_record}
use Rattle.answer.specs.declared.refusals.Refusal.{Refusal}
use Rattle.answer.specs.declared.refusals.Refusal.TheVariants as refusal
use Rattle.trace.specs.declared.contents.Records.{Records}
use Rattle.trace.specs.declared.TraceFault.{TraceFault}
use Rattle.trace.specs.declared.TraceFault.TheVariants.{WrongContents, BadRecord}

-- of the records from a place on, which are bad
abbrev pub bad_from : ℕ → List ℕ → ℕ → Bool
bad_from first l k = is_bad (record_at (first + record_length * k) l)

abbrev pub tested_view : Result Records TraceFault → TraceTest
tested_view (Ok r) = good r.first r.count
tested_view (Err WrongContents) = wrong_contents
tested_view (Err (BadRecord k)) = bad_record k

-- the refusal for what is wrong
abbrev pub of_trace : TraceFault → Refusal
of_trace WrongContents = refusal.TraceContents
of_trace (BadRecord k) = refusal.BadRecord k
