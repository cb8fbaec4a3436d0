-- What a record does to the image buffer, by its kind.
use Rattle.std.specs.Prelude.{◌≡◌, true, List, ◌++◌, ℕ, ◌<◌, take, get_or, set, replicate, Result}
use Rattle.replay.specs.records.Records.{word_at, kind_of, agreed}
use Rattle.replay.specs.declared.records.Mismatch.{Mismatch}
use Rattle.replay.specs.declared.records.Held.{Held}
use Rattle.replay.specs.replay_call.Recorded.{Recorded}

-- the image buffer that a recorded image makes
abbrev pub loaded : List ℕ → List ℕ
loaded b = take 290 b ++ replicate 10 0

-- one byte of it is damaged, or mended
abbrev pub damaged_by : List ℕ → List ℕ → List ℕ
damaged_by r i = set i (word_at 16 r) (get_or r 24 0)

-- a record, by its kind: an image i became j; b are the bytes behind the record of an image
pub record Replays (r b i j : List ℕ) (v : Result Held Mismatch) : Type 0 where
  pub called : kind_of r < 7 → agreed v ≡ true → Recorded r i j
  pub replaced : kind_of r ≡ 7 → j ≡ loaded b
  pub compared : kind_of r ≡ 8 → (j ≡ i) × (agreed v ≡ true → i ≡ take 300 b)
  pub damaged : kind_of r ≡ 9 → word_at 16 r < 300 → j ≡ damaged_by r i
