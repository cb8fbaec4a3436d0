-- A day of the plain engine: the calls of a trace, made one after another from a reset, what each found and which events it made.
use Rattle.std.specs.Prelude.{List, [], ◌∷◌, map, ℕ, length, drop}
use Rattle.rules.specs.Device.{reset}
use Rattle.calls.specs.Calls.{pass, refuse, Asked, afresh, calls, asked_by}
use Rattle.plain.specs.Events.{Note}
use Rattle.plain.specs.Plain.{Engine}
use Rattle.plain.specs.Sequence.{machine_in, Item, call, load, refused, takes, plain_after}
use Rattle.traces.specs.Trace.{Record}
use Rattle.traces.specs.Played.{request_of, records}

-- ---- the calls of a trace

-- what is asked, as it happens to the engine: a refused record makes nothing, and has a number all the same (02, C-11, C-13)
abbrev pub as_item : Asked → Item
as_item afresh = load reset
as_item (calls (pass c)) = call c
as_item (calls (refuse r)) = refused

abbrev pub item_of : Record → Item
item_of r = as_item (asked_by (request_of r))

abbrev pub items : List ℕ → List Item
items l = map item_of (records l)

-- ---- the day

-- the plain engine as a reset starts it (02, C-13)
unfoldable pub begun : Engine
begun = record {
  machines = machine_in reset.core.lines;
  vectors = reset.core.vectors;
  stored = reset.core.stored;
  queue = record { offered = []; drained = 0; brought = 0 };
  call = 0;
  history = [];
}

-- one record: the engine that it found, and what happened to it
pub record Moment : Type 0 where
  pub before : Engine
  pub item : Item

abbrev pub after : Moment → Engine
after m = (takes m.before m.item).after

-- its number, counted from 0, and the events that it made
abbrev pub number : Moment → ℕ
number m = m.before.call

abbrev pub made : Moment → List Note
made m = drop (length m.before.history) (after m).history

-- one after another
unfoldable pub moments : Engine → List Item → List Moment
moments e [] = []
moments e (x ∷ xs) = record { before = e; item = x } ∷ moments (takes e x).after xs

-- all of them, and the history of all events made (02, C-13)
pub record Day : Type 0 where
  pub moments : List Moment
  pub history : List Note

abbrev pub day_from : Engine → List Item → Day
day_from e xs = record { moments = moments e xs; history = (plain_after e xs).history }

abbrev pub day_of : List ℕ → Day
day_of l = day_from begun (items l)
