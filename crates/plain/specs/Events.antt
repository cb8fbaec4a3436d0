-- The list of the events offered, which has no end, with what waits of it and what was dropped; and the history of all events made.
use Rattle.std.specs.Prelude.{Bool, true, cond, List, [], ◌∷◌, ◌++◌, ℕ, ◌+◌, min, ltb, length, drop}
use Rattle.rules.specs.Ring.{capacity, stop, Event}

-- ---- the list of the events offered

-- who offered an event: an input, or a load, which tells no input
pub data Source : Type 0 where
  loaded : Source
  input : ℕ → Source

-- an event offered, marked kept or dropped (02, C-13)
pub record Offered : Type 0 where
  pub source : Source
  pub event : Event
  pub kept : Bool

-- all that was offered since the load, oldest first; how many of the kept are drained; the drop count that the load brought
pub record Queue : Type 0 where
  pub offered : List Offered
  pub drained : ℕ
  pub brought : ℕ

-- the events marked kept, and those marked dropped
abbrev pub kept_in : List Offered → List Event
kept_in [] = []
kept_in (x ∷ xs) = cond x.kept (x.event ∷ kept_in xs) (kept_in xs)

abbrev pub dropped_in : List Offered → List Event
dropped_in [] = []
dropped_in (x ∷ xs) = cond x.kept (dropped_in xs) (x.event ∷ dropped_in xs)

-- what waits is what is kept and not yet drained (02, C-13)
abbrev pub waiting : Queue → List Event
waiting q = drop q.drained (kept_in q.offered)

-- the drop count: what the load brought, and one for each event dropped, up to the stop (01, The ring)
abbrev pub drop_count : Queue → ℕ
drop_count q = min (q.brought + length (dropped_in q.offered)) stop

-- the ring's rule: an event that finds 16 waiting is dropped (01, The ring)
abbrev pub has_room : Queue → Bool
has_room q = ltb (length (waiting q)) capacity

-- an event more in the list
abbrev pub with_offer : Queue → Source → Event → Queue
with_offer q s e =
    record { offered = q.offered ++ (record { source = s; event = e; kept = has_room q } ∷ []); drained = q.drained; brought = q.brought }

-- a drain counts on, by as many as wait or as there is room for; the list stays (01, The ring)
abbrev pub with_drained : Queue → ℕ → Queue
with_drained q k = record { offered = q.offered; drained = q.drained + min k (length (waiting q)); brought = q.brought }

-- the events that a load brings: kept, and of no input
abbrev pub as_loaded : Event → Offered
as_loaded e = record { source = loaded; event = e; kept = true }

-- ---- the history of the events made

-- an event is returned, or offered and then kept or dropped
pub data Fate : Type 0 where
  returned kept dropped : Fate

-- an event made: its input, the number of its call, its vector, assert (true) or deassert, and its fate (02, C-13, C-21)
pub record Note : Type 0 where
  pub input : ℕ
  pub call : ℕ
  pub vector : ℕ
  pub asserted : Bool
  pub fate : Fate
