-- The answers of this module's functions.
use Rattle.std.specs.Prelude.{Bool, true, false, ◌&&◌, List, ℕ, leb, Option, Some, None}
use Rattle.traces.specs.Trace.{most_records, listed_at, blocks_from, records_in, back_to_back}

-- the records of n blocks that stand back to back and are not too many
abbrev pub listed_if : Bool → ℕ → Option ℕ
listed_if true n = Some n
listed_if false n = None

abbrev pub standing : ℕ → List ℕ → Bool
standing n l = back_to_back (listed_at n) (blocks_from n 0 l) && leb (records_in (blocks_from n 0 l)) most_records

abbrev pub listed_as : ℕ → List ℕ → Option ℕ
listed_as n l = listed_if (standing n l) (records_in (blocks_from n 0 l))
