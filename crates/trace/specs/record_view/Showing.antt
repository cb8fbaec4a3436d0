-- What a view shows.
use Rattle.std.specs.Prelude.{◌≡◌, List, ℕ, ◌+◌, ◌≤◌, length}
use Rattle.basics.specs.Numbers.{part}
use Rattle.traces.specs.Trace.{record_length}
use Rattle.trace.specs.declared.record_view.View.{View}

-- a whole record stands at its place
abbrev pub Inside : View → Type 0
Inside v = v.place + record_length ≤ length v.trace.now

-- the bytes of that record
abbrev pub part_shown : View → List ℕ
part_shown v = part v.place record_length v.trace.now

-- it shows place p of the bytes l
pub record Shows (v : View) (l : List ℕ) (p : ℕ) : Type 0 where
  pub bytes : v.trace.now ≡ l
  pub place : v.place ≡ p
