-- What playing the records of a trace one after another is given, and what it leaves.
use Rattle.std.specs.Prelude.{◌≡◌, true, List, ℕ, ◌+◌, ◌*◌, ◌<◌, ◌≤◌, length, ◌&&◌, leb, Result, Ok, Err}
use Rattle.images.specs.Form.{Form}
use Rattle.calls.specs.Calls.{answer_length}
use Rattle.fields.specs.inplace.Passed.{Passed}
use Rattle.traces.specs.Trace.{most_records, record_length, first_place, record_count, nth, is_good, trace_test}
use Rattle.traces.specs.Trace as trace
use Rattle.traces.specs.Played.{drain_room, records_from, records, played_from}
use Rattle.traces.specs.plays.Playing.{drains_in, trace_left, refused, in_front}
use Rattle.answer.specs.Given.{refusal_number, refusal_value}
use Rattle.answer.specs.declared.refusals.Refusal.{Refusal}
use Rattle.trace.specs.declared.contents.Records.{Records}

-- n records from the first place on stand in the trace
pub record Reaches (l : List ℕ) (first n : ℕ) : Type 0 where
  pub place : first ≡ first_place l
  pub few : n ≤ most_records
  pub fits : first + record_length * n ≤ length l

-- a good trace whose records have room for their answers, and for a drain of all each of them that drains
pub record Roomy (r : Records) (l : List ℕ) (a e : ℕ) : Type 0 where
  pub good : trace_test l ≡ trace.good r.first r.count
  pub answers : answer_length * r.count ≤ a
  pub events : drain_room * drains_in (records_from l r.count 0) ≤ e

-- it is so, or this is the refusal that a play tells
abbrev pub Fits : Result Records Refusal → List ℕ → (answers events : ℕ) → Type 0
Fits (Ok r) l a e = Roomy r l a e
Fits (Err f) l a e = refused (refusal_number f) (refusal_value f) ≡ trace_left (trace_test l) (leb (answer_length * record_count l) a && leb (drain_room * drains_in (records l)) e)

-- all of them good, with an accepted image, and with room
pub record Ready (l : List ℕ) (first n : ℕ) (f : Form) (i bs es : List ℕ) : Type 0 where
  pub reaches : Reaches l first n
  pub good : (k : ℕ) → k < n → is_good (nth l k) ≡ true
  pub passed : Passed f i
  pub answers : answer_length * n ≤ length bs
  pub events : drain_room * drains_in (records_from l n 0) ≤ length es

-- the first n records played: image, answers, events
pub record PlayedTo (l : List ℕ) (n : ℕ) (i bs es j cs fs : List ℕ) : Type 0 where
  pub image : j ≡ (played_from l n 0 i).image
  pub answers : cs ≡ in_front (played_from l n 0 i).answers bs
  pub events : fs ≡ in_front (played_from l n 0 i).events es
