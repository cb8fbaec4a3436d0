-- One input's waits while the marks come: the greatest so far, how many were withdrawn, and where the one began that is not over.
use Rattle.std.specs.Prelude.{cond, ◌&&◌, List, [], ◌∷◌, ◌≡◌, ℕ, ◌+◌, ◌-◌, max, eqb}
use Rattle.plain.specs.Events.{Note}
use Rattle.plain.specs.Sequence.{Item, call, load, refused}
use Rattle.passes.specs.tallies.Grid.{Grid}
use Rattle.passes.specs.tallies.Marks.{Mark, raised, lowered, began, taken_back, happened}

-- no record is a load
abbrev pub NoLoad : List Item → Type 0
NoLoad [] = Unit {0}
NoLoad (call c ∷ xs) = NoLoad xs
NoLoad (load d ∷ xs) = ⊥
NoLoad (refused ∷ xs) = NoLoad xs

pub record Slot : Type 0 where
  pub greatest : ℕ
  pub withdrawn : ℕ
  pub since : ℕ

-- the wait that is not over ends, or nothing does
abbrev pub settle : ℕ → Slot → Slot
settle k s = cond (eqb s.since 0) s (record { greatest = max s.greatest (k + 1 - s.since); withdrawn = s.withdrawn; since = 0 })

abbrev pub take_back : Slot → Slot
take_back s = cond (eqb s.since 0) s (record { greatest = s.greatest; withdrawn = s.withdrawn + 1; since = 0 })

abbrev pub start_at : ℕ → Slot → Slot
start_at k s = record { greatest = s.greatest; withdrawn = s.withdrawn; since = k + 1 }

-- what a mark does to the slot of n
abbrev pub slot_after : ℕ → Slot → Mark → Slot
slot_after n s (raised m) = s
slot_after n s (lowered m) = s
slot_after n s (began m k) = cond (eqb n m) (start_at k s) s
slot_after n s (taken_back m) = cond (eqb n m) (take_back s) s
slot_after n s (happened x) = cond (x.asserted && eqb n x.input) (settle x.call s) s

unfoldable pub slot_all : ℕ → Slot → List Mark → Slot
slot_all n s [] = s
slot_all n s (m ∷ ms) = slot_all n (slot_after n s m) ms

-- the events among marks
abbrev pub notes_in : List Mark → List Note
notes_in [] = []
notes_in (raised m ∷ ms) = notes_in ms
notes_in (lowered m ∷ ms) = notes_in ms
notes_in (began m k ∷ ms) = notes_in ms
notes_in (taken_back m ∷ ms) = notes_in ms
notes_in (happened x ∷ ms) = x ∷ notes_in ms

-- a grid has the slot of n in its row
pub record Rows (f : Grid) (n : ℕ) (s : Slot) : Type 0 where
  pub greatest : f n 7 ≡ s.greatest
  pub withdrawn : f n 8 ≡ s.withdrawn
  pub since : f n 9 ≡ s.since
