-- A day longer than a trace: the records' calls as exported calls, plays one behind another, and what a host has of each.
use Rattle.std.specs.Prelude.{◌≡◌, List, [], ◌∷◌, ◌++◌, map, ℕ, ◌*◌, length, take, replicate}
use Rattle.calls.specs.Calls.{answer_length}
use Rattle.histories.specs.exported.Exported.{Exported}
use Rattle.histories.specs.exported.Alike.{Asking, made_on}
use Rattle.traces.specs.Trace.{Record, record_count}
use Rattle.traces.specs.Played.{request_of, records, Played, played_through}
use Rattle.traces.specs.plays.Playing.{PlayLeft}

-- ---- the records' calls, one after another

-- what a record asks, with an answer area of its own
abbrev pub asking : Record → Asking
asking r = record { asked = request_of r; answer = replicate answer_length 0 }

-- the exported calls that records are, each given the image that the one before it left
abbrev pub calls_of : List ℕ → List Record → List Exported
calls_of i rs = made_on i (map asking rs)

-- ---- plays, one after another

-- a play, and then another: the image is the second's, and its answers and events come behind
abbrev pub followed_by : Played → Played → Played
followed_by p q = record { image = q.image; answers = p.answers ++ q.answers; events = p.events ++ q.events }

-- traces one after another, each on the image that the one before it left
unfoldable pub day_on : List ℕ → List (List ℕ) → Played
day_on i [] = record { image = i; answers = []; events = [] }
day_on i (l ∷ ls) = followed_by (played_through l i) (day_on (played_through l i).image ls)

-- the records of them all, in order
unfoldable pub records_of_all : List (List ℕ) → List Record
records_of_all [] = []
records_of_all (l ∷ ls) = records l ++ records_of_all ls

-- ---- what a host has of an exported call

-- the image, and what a done play of a trace from an image on wrote of answers and events, without the bytes behind
abbrev pub wrote_of : (trace from : List ℕ) → PlayLeft → Played
wrote_of l b x = record { image = x.image; answers = take (16 * record_count l) x.answers; events = take (length (played_through l b).events) x.events }

-- two calls leave the same but for the image, which is the same where they are done
pub record SameIfDone (x y : PlayLeft) : Type 0 where
  pub number : x.number ≡ y.number
  pub answers : x.answers ≡ y.answers
  pub events : x.events ≡ y.events
  pub answer : x.answer ≡ y.answer
  pub image : x.number ≡ 0 → x.image ≡ y.image
