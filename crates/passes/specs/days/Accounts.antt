-- What the theorems about a sheet speak of: which days write to ISR, how many events a day drained, and a day as far as it has come after some records.
use Rattle.std.specs.Prelude.{◌≡◌, Bool, true, false, List, [], ◌∷◌, ◌++◌, ℕ, ◌+◌, length, take}
use Rattle.histories.specs.Premises.{writes_isr}
use Rattle.plain.specs.Events.{Note}
use Rattle.plain.specs.Plain.{Engine}
use Rattle.plain.specs.Sequence.{Item, call, load, refused, takes, plain_after}
use Rattle.sheets.specs.Day.{Moment, made, items, begun, Day}

-- a record whose write reaches ISR
abbrev pub reaches_isr : Item → Bool
reaches_isr (call c) = writes_isr c
reaches_isr (load d) = false
reaches_isr refused = false

-- no record's write does
abbrev pub NoIsrWrite : List Item → Type 0
NoIsrWrite [] = Unit {0}
NoIsrWrite (x ∷ xs) = (reaches_isr x ≡ false) × NoIsrWrite xs

-- how many events the records drained
unfoldable pub drained_in : List Moment → ℕ
drained_in [] = 0
drained_in (m ∷ ms) = length (takes m.before m.item).drained + drained_in ms

-- the plain engine at the end of a trace
abbrev pub at_last : List ℕ → Engine
at_last l = plain_after begun (items l)

-- a record that the day has as a call, and not refused
abbrev pub is_made : Item → Bool
is_made (call c) = true
is_made (load d) = true
is_made refused = false

-- the events that the records made, in order
unfoldable pub made_in : List Moment → List Note
made_in [] = []
made_in (m ∷ ms) = made m ++ made_in ms

-- a day after its first k records: these, and the events that they made
abbrev pub day_to : ℕ → Day → Day
day_to k d = record { moments = take k d.moments; history = made_in (take k d.moments) }
