-- Records that stand in a trace, and numbers for all of them.
use Rattle.std.specs.Prelude.{◌≡◌, ℕ, ◌+◌, ◌*◌, ◌≤◌, Bool, true, List, length}
use Rattle.traces.specs.Trace.{most_records, record_length, first_place}
use Rattle.passes.specs.tallies.Grid.{record_limit, Grid, Holds, Becomes}

-- n records from the first place on stand in the trace
pub record Reaches (l : List ℕ) (first n : ℕ) : Type 0 where
  pub place : first ≡ first_place l
  pub few : n ≤ most_records
  pub fits : first + record_length * n ≤ length l

-- what wide bytes take over from others, whatever grids both hold
abbrev pub CopiesOf : (from before after : List ℕ) → (Grid → Grid → Grid) → Type 0
CopiesOf l b a h = (g : Grid) (rest : List ℕ) → Holds true l g rest → Becomes true b a (h g)

-- the numbers from base on fit
abbrev pub Numbered : Bool → ℕ → ℕ → Type 0
Numbered w base n = base + n ≤ record_limit w
