-- The exported call that salvages a trace (02, C-23), on any bytes: the number handed back, and every byte of the two buffers and the answer area afterwards.
use Rattle.std.specs.Prelude.{Bool, cond, ◌&&◌, List, ℕ, eqb, leb, length}
use Rattle.rules.specs.Device.{Value, none, some}
use Rattle.calls.specs.Calls.{refusal_number, refusal_value, no_room, answer_length}
use Rattle.traces.specs.Trace.{contents_good, wrong_contents, trace_number, trace_value}
use Rattle.calls.specs.Reasons.{told_in}
use Rattle.traces.specs.plays.Playing.{in_front}
use Rattle.traces.specs.salvages.Kept.{bodies, kept, new_trace, drop_list}

-- ---- the tests, in their order

-- it is refused, with a number and a value, or the trace is salvaged
pub data SalvageTest : Type 0 where
  refused : (number : ℕ) (value : Value) → SalvageTest
  salvages : SalvageTest

-- 16: no block is left
abbrev pub nothing_left : ℕ
nothing_left = 16

abbrev pub is_empty : List ℕ → Bool
is_empty l = eqb (length (kept (bodies l))) 0

-- the second buffer has room for the new trace, and the list's for its entries
abbrev pub salvage_room : List ℕ → (second list : List ℕ) → Bool
salvage_room l ks ds = leb (length (new_trace l)) (length ks) && leb (length (drop_list l)) (length ds)

-- 12 as in C-11, 16, then 7
unfoldable pub salvage_test : (trace second list : List ℕ) → SalvageTest
salvage_test l ks ds =
    cond (contents_good l)
    (cond (is_empty l) (refused nothing_left none)
    (cond (salvage_room l ks ds) salvages (refused (refusal_number no_room) (refusal_value no_room))))
    (refused (trace_number wrong_contents) (trace_value wrong_contents))

-- ---- the bytes afterwards

-- how it ends: its number and its value, and the bytes of the second buffer and the list's
pub record SalvageEnding : Type 0 where
  pub number : ℕ
  pub value : Value
  pub second : List ℕ
  pub list : List ℕ

-- refused, no byte changes; salvaged, the value is the new trace's length, and bytes past it and past the list stay
abbrev pub salvage_ends : SalvageTest → (trace second list : List ℕ) → SalvageEnding
salvage_ends (refused n v) l ks ds = record { number = n; value = v; second = ks; list = ds }
salvage_ends salvages l ks ds = record {
  number = 0;
  value = some (length (new_trace l));
  second = in_front (new_trace l) ks;
  list = in_front (drop_list l) ds;
}

abbrev pub salvage_ending : (trace second list : List ℕ) → SalvageEnding
salvage_ending l ks ds = salvage_ends (salvage_test l ks ds) l ks ds

-- what the call leaves: the number handed back, and every byte lent to be written
pub record SalvageLeft : Type 0 where
  pub number : ℕ
  pub second : List ℕ
  pub list : List ℕ
  pub answer : List ℕ

abbrev pub salvage_leaves : ℕ → (second list answer : List ℕ) → SalvageLeft
salvage_leaves n ks ds a = record { number = n; second = ks; list = ds; answer = a }

-- number and value go into the answer area, but of 7
abbrev pub salvage_settled : List ℕ → SalvageEnding → SalvageLeft
salvage_settled a e = salvage_leaves e.number e.second e.list (told_in e.number e.value a)

-- 7 for the answer area comes first
unfoldable pub salvaging : (trace second list answer : List ℕ) → SalvageLeft
salvaging l ks ds a = cond (leb answer_length (length a)) (salvage_settled a (salvage_ending l ks ds)) (salvage_leaves (refusal_number no_room) ks ds a)
