-- The answers of this module's functions.
use Rattle.std.specs.Prelude.{Bool, true, false, List, ℕ, Option, Some, None}
use Rattle.traces.specs.Trace.{first_place, record_count, contents_good}
use Rattle.trace.specs.declared.contents.Records.{Records}

-- good contents, with the place of the first record and how many there are
abbrev pub contents_if : Bool → ℕ → ℕ → Option Records
contents_if true first n = Some (record { first = first; count = n })
contents_if false first n = None

abbrev pub contents_as : List ℕ → Option Records
contents_as l = contents_if (contents_good l) (first_place l) (record_count l)
