-- What the call of a record that does not drain is given.
use Rattle.std.specs.Prelude.{ℕ, ◌≤◌, List}
use Rattle.images.specs.Form.{Form}
use Rattle.fields.specs.inplace.Passed.{Passed}
use Rattle.traces.specs.Trace.{Record}

-- an accepted image, and a kind that is no drain
pub record Callable (f : Form) (r : Record) (i : List ℕ) : Type 0 where
  pub passed : Passed f i
  pub some : 1 ≤ r.kind
  pub other : r.kind ≤ 5
