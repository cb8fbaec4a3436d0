-- After each record of a play from a reset (02, C-11): as on any image, on the one that the reset leaves.
use Rattle.basics.proofs.Prelude.{◌≡◌, refl, List, [], ℕ, suc, ◌*◌, ◌<◌, ◌≤◌, length, take, part}
use Rattle.traces.specs.{Trace.record_count, Trace.nth, Played.played_on, Played.afresh, Played.played}
use Rattle.traces.specs.plays.Playing.{played_to, behind}
use Rattle.traces.proofs.plays.demands.AfterEachOn.{none_played_on, one_more_on, first_answers_on, first_events_on, its_answer_on}

module _ (l i : List ℕ) where
  -- none played: the image is reset, and nothing is answered
  pub none_played : played_to l 0 i ≡ record { image = afresh i; answers = []; events = [] }
  none_played = none_played_on l (afresh i)

  -- one more: its outcome is that of the call which it is, on the image that those before it left
  pub one_more : (k : ℕ) → played_to l (suc k) i ≡ behind (played_to l k i) (played_on (played_to l k i).image (nth l k))
  one_more k = one_more_on l (afresh i) k

  -- all of them: the play
  pub all_played : played_to l (record_count l) i ≡ played l i
  all_played = refl

  -- the answers and the events of the first k records are the beginning of all of them
  module _ (k : ℕ) (h : k ≤ record_count l) where
    pub first_answers : take (16 * k) (played l i).answers ≡ (played_to l k i).answers
    first_answers = first_answers_on l (afresh i) k h

    pub first_events : take (length (played_to l k i).events) (played l i).events ≡ (played_to l k i).events
    first_events = first_events_on l (afresh i) k h

  -- and record k has its sixteen bytes from byte 16 k on: those of its own call
  pub its_answer : (k : ℕ) → k < record_count l → part (16 * k) 16 (played l i).answers ≡ (played_on (played_to l k i).image (nth l k)).answer
  its_answer k h = its_answer_on l (afresh i) k h
