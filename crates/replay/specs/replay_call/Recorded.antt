-- What a call's record asks, and what 01's rules give for it.
use Rattle.std.specs.Prelude.{◌≡◌, cond, List, ◌++◌, ℕ, eqb, take, drop}
use Rattle.calls.specs.Calls.{Request, reset, read, write, level, poll, drain, Outcome, leaves, outcome}
use Rattle.replay.specs.records.Records.{word_at, kind_of, lent_image, lent_answer, lent_events, answer_fill, event_fill, AsNoted}
use Rattle.replay.specs.declared.replay_call.Made.{Made}

-- what a call's record asks, by its kind, with the event buffer that a drain is lent
abbrev pub request_of : ℕ → List ℕ → List ℕ → Request
request_of kind r e =
    cond (eqb kind 1) reset
    (cond (eqb kind 2) (read (word_at 16 r) (word_at 24 r) (word_at 32 r) (word_at 40 r))
    (cond (eqb kind 3) (write (word_at 16 r) (word_at 24 r) (word_at 32 r) (word_at 40 r) (word_at 48 r))
    (cond (eqb kind 4) (level (word_at 16 r) (word_at 24 r))
    (cond (eqb kind 5) (poll (word_at 16 r))
    (drain e (word_at 16 r))))))

-- what 01's rules give for it, on what is lent
abbrev pub made : List ℕ → List ℕ → List ℕ → List ℕ → Outcome
made r i a e = outcome (request_of (kind_of r) r e) i a

-- a call that is lent k bytes of the event buffer leaves that, and all other bytes of the buffer as they were
pub record Makes (m : Made) (r : List ℕ) (k : ℕ) (i a j b : List ℕ) : Type 0 where
  pub written : List ℕ
  pub buffer : m.events ≡ written ++ drop k event_fill
  pub left : leaves m.number j b written ≡ made r i a (take k event_fill)

-- what 01's rules give on the record's own lengths, and on the areas as they are before every call
abbrev pub ruled : List ℕ → List ℕ → Outcome
ruled r i =
    made r (take (lent_image r) i) (take (lent_answer r) answer_fill) (take (lent_events (kind_of r) r) event_fill)

-- the answer that was recorded is the one that 01's rules give; an image i became j
pub record Recorded (r i j : List ℕ) : Type 0 where
  pub after : j ≡ (ruled r i).image ++ drop (lent_image r) i
  pub held : AsNoted r (ruled r i).number j ((ruled r i).answer ++ drop (lent_answer r) answer_fill) ((ruled r i).events ++ drop (lent_events (kind_of r) r) event_fill)
