-- What the player of one record is given, and what it leaves.
use Rattle.std.specs.Prelude.{◌≡◌, true, List, ℕ, ◌*◌, ◌≤◌, length}
use Rattle.images.specs.Form.{Form}
use Rattle.calls.specs.Calls.{answer_length}
use Rattle.fields.specs.inplace.Passed.{Passed}
use Rattle.traces.specs.Trace.{Record, is_good}
use Rattle.traces.specs.Played.{drain_room, played_on, drained_in}
use Rattle.traces.specs.plays.Playing.{drains, in_front}

-- a record that drains, an accepted image, and just the room of a drain of all
pub record Drainable (f : Form) (r : Record) (i a es : List ℕ) : Type 0 where
  pub passed : Passed f i
  pub drain : r.kind ≡ 6
  pub answer : length a ≡ answer_length
  pub room : length es ≡ drain_room

-- with room for its answer and, if it drains, for its events
pub record Playable (f : Form) (r : Record) (i a es : List ℕ) : Type 0 where
  pub passed : Passed f i
  pub good : is_good r ≡ true
  pub answer : length a ≡ answer_length
  pub room : drain_room * drains r ≤ length es

-- it leaves the image and the answer that the call leaves, and the n bytes that it drained in front of the events
pub record Steps (r : Record) (i j b es fs : List ℕ) (n : ℕ) : Type 0 where
  pub image : j ≡ (played_on i r).image
  pub answer : b ≡ (played_on i r).answer
  pub count : n ≡ length (drained_in (played_on i r))
  pub events : fs ≡ in_front (drained_in (played_on i r)) es
  pub room : n ≤ drain_room * drains r
