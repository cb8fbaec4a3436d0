-- The first records of a trace as a trace of their own (02, C-11: after each record), in one block.
use Rattle.std.specs.Prelude.{List, [], ◌∷◌, ℕ, ◌*◌}
use Rattle.basics.specs.Numbers.{part}
use Rattle.traces.specs.{Trace.record_length, Trace.first_place, salvages.Kept.trace_of}

-- the first k of them
abbrev pub first_records : List ℕ → ℕ → List ℕ
first_records l k = trace_of (part (first_place l) (record_length * k) l ∷ [])
