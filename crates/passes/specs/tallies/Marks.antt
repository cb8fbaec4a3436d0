-- What an act of the device brings to the sheet, mark by mark, and what a mark does to the numbers. Column 9 has, while the pass goes on, 1 + the
-- number of the raise at which a wait began that is not over, or 0.
use Rattle.std.specs.Prelude.{Bool, true, false, cond, not, ◌&&◌, List, [], ◌∷◌, ◌++◌, map, ℕ, ◌+◌, ◌-◌, max, eqb}
use Rattle.basics.specs.Inputs.{on, inputs}
use Rattle.rules.specs.Core.{Act, move, set_isr, store, set_vector, poll, raise, lower, clear, set_mask, turn}
use Rattle.rules.specs.Lines.{Lines}
use Rattle.rules.specs.Device.{Device, acted, step, acts_of}
use Rattle.plain.specs.Events.{Fate, returned, kept, dropped, Note}
use Rattle.plain.specs.Sequence.{Item, call, load, refused, notes_of}
use Rattle.passes.specs.tallies.Grid.{Grid, put, bump}

-- ---- marks

-- a raise or a lowering that was done, a wait that begins at the record k, one that is taken back, an event
pub data Mark : Type 0 where
  raised lowered : ℕ → Mark
  began : (n k : ℕ) → Mark
  taken_back : ℕ → Mark
  happened : Note → Mark

-- the input of a mark
abbrev pub input_of : Mark → ℕ
input_of (raised n) = n
input_of (lowered n) = n
input_of (began n k) = n
input_of (taken_back n) = n
input_of (happened x) = x.input

-- the columns that grow by one: by the event's kind, and by its fate
abbrev pub kind_column : Bool → ℕ
kind_column true = 2
kind_column false = 3

abbrev pub fate_columns : Fate → List ℕ
fate_columns returned = 4 ∷ []
fate_columns kept = 5 ∷ []
fate_columns dropped = 5 ∷ 6 ∷ []

abbrev pub grown : Mark → List ℕ
grown (raised n) = 0 ∷ []
grown (lowered n) = 1 ∷ []
grown (began n k) = []
grown (taken_back n) = []
grown (happened x) = kind_column x.asserted ∷ fate_columns x.fate

unfoldable pub bumped : Grid → ℕ → List ℕ → Grid
bumped f n [] = f
bumped f n (c ∷ cs) = bumped (bump f n c) n cs

-- the wait that is not over ends: with the assert at the record k, or taken back
abbrev pub settled : Grid → ℕ → ℕ → Grid
settled f n k = cond (eqb (f n 9) 0) f (put (put f n 7 (max (f n 7) (k + 1 - f n 9))) n 9 0)

abbrev pub withdrawn : Grid → ℕ → Grid
withdrawn f n = cond (eqb (f n 9) 0) f (put (bump f n 8) n 9 0)

abbrev pub waited : Grid → Mark → Grid
waited f (raised n) = f
waited f (lowered n) = f
waited f (began n k) = put f n 9 (k + 1)
waited f (taken_back n) = withdrawn f n
waited f (happened x) = cond x.asserted (settled f x.input x.call) f

abbrev pub marked : Grid → Mark → Grid
marked f m = waited (bumped f (input_of m) (grown m)) m

unfoldable pub all_marked : Grid → List Mark → Grid
all_marked f [] = f
all_marked f (m ∷ ms) = all_marked (marked f m) ms

-- ---- acts

-- n is neither latched nor in service
abbrev pub idle_in : Lines → ℕ → Bool
idle_in l n = not (on l.irr n) && not (on l.isr n)

-- what an act brings beside its events
abbrev pub besides : ℕ → Lines → Act → List Mark
besides k l (move (poll n)) = []
besides k l (move (raise n)) = raised n ∷ cond (idle_in l n) (began n k ∷ []) []
besides k l (move (lower n)) = lowered n ∷ taken_back n ∷ []
besides k l (move (clear b)) = map taken_back (inputs (on b))
besides k l (move (set_mask h v)) = []
besides k l (set_isr h v) = []
besides k l (store s) = []
besides k l (set_vector n v) = []

-- what an act brings, as a part of the record k, to a device
abbrev pub act_marks : ℕ → Device → Act → List Mark
act_marks k d a = besides k d.core.lines a ++ map happened (notes_of k d.ring (turn d.core a).made)

-- acts one after another
unfoldable pub marks_of : ℕ → Device → List Act → List Mark
marks_of k d [] = []
marks_of k d (a ∷ xs) = act_marks k d a ++ marks_of k (acted d (a ∷ [])) xs

-- ---- records

abbrev pub item_marks : ℕ → Device → Item → List Mark
item_marks k d (call c) = marks_of k d (acts_of d.core c)
item_marks k d (load e) = []
item_marks k d refused = []

abbrev pub item_after : Device → Item → Device
item_after d (call c) = (step d c).after
item_after d (load e) = e
item_after d refused = d

-- records one after another, the first with the number k
unfoldable pub day_marks : ℕ → Device → List Item → List Mark
day_marks k d [] = []
day_marks k d (x ∷ xs) = item_marks k d x ++ day_marks (k + 1) (item_after d x) xs
