-- What the pass keeps of the device: its lines, and how many events wait.
use Rattle.std.specs.Prelude.{Bool, true, false, List, map, ◌≡◌, ℕ, length}
use Rattle.rules.specs.Lines.{Lines, Made, Turn}
use Rattle.rules.specs.Ring.{Ring, ring_run}
use Rattle.rules.specs.Core.{Core, Act}
use Rattle.rules.specs.Device.{Device, WellFormed, offers, acted}
use Rattle.rules.specs.Map as map
use Rattle.rules.specs.Map.{Register}
use Rattle.rules.specs.Access.{value_of}
use Rattle.plain.specs.Sequence.{Item, notes_of}
use Rattle.passes.specs.tallies.Grid.{Becomes}
use Rattle.passes.specs.tallies.Marks.{Mark, happened, all_marked, marks_of, item_marks, item_after, day_marks}

-- a device has these lines, and so many wait
pub record Stands (l : Lines) (w : ℕ) (d : Device) : Type 0 where
  pub lines : d.core.lines ≡ l
  pub waiting : length d.ring.waiting ≡ w

-- the numbers, wide or not, take these marks
abbrev pub Takes : Bool → (before after : List ℕ) → List Mark → Type 0
Takes x b a ms = Becomes x b a (λ f. all_marked f ms)

-- events are made as a part of the record k, by whatever vectors and into whatever ring with w waiting: then u wait, and the sheet has taken them
abbrev pub Offers : Bool → (before after : List ℕ) → ℕ → (w u : ℕ) → (List ℕ → List Made) → Type 0
Offers x b a k w u g =
    (vs : List ℕ) (r : Ring) → length r.waiting ≡ w → (length (ring_run r (offers (g vs))).after.waiting ≡ u) × Takes x b a (map happened (notes_of k r (g vs)))

-- a turn leaves these lines, by whatever vectors, and its events are made so
pub record Turns (x : Bool) (m : Lines) (before after : List ℕ) (k w u : ℕ) (g : List ℕ → Turn) : Type 0 where
  pub lines : (vs : List ℕ) → (g vs).after ≡ m
  pub events : Offers x before after k w u (λ vs. (g vs).made)

-- whatever device it was, what is kept stands for the device after these acts of the record k, and the sheet has taken their marks
abbrev pub Follows : Bool → (l : Lines) (w : ℕ) (m : Lines) (u : ℕ) (before after : List ℕ) → ℕ → (Core → List Act) → Type 0
Follows x l w m u b a k xs = (d : Device) → Stands l w d → Stands m u (acted d (xs d.core)) × Takes x b a (marks_of k d (xs d.core))

-- the same of a record, of a device that can be saved
abbrev pub FollowsItem : Bool → (l : Lines) (w : ℕ) (m : Lines) (u : ℕ) (before after : List ℕ) → ℕ → Item → Type 0
FollowsItem x l w m u b a k i = (d : Device) → WellFormed d → Stands l w d → Stands m u (item_after d i) × Takes x b a (item_marks k d i)

-- the same of records one after another, the first with the number k
abbrev pub FollowsDay : Bool → (l : Lines) (w : ℕ) (before after : List ℕ) → ℕ → List Item → Type 0
FollowsDay x l w b a k xs = (d : Device) → WellFormed d → Stands l w d → Takes x b a (day_marks k d xs)

-- the registers that the pass heeds
abbrev pub heeded : Register → Bool
heeded map.id = false
heeded map.mask = true
heeded map.clear = true
heeded map.irr = false
heeded map.isr = true
heeded (map.plain p) = false

-- a number is such a register as it reads
abbrev pub ReadsAs : Lines → ℕ → Register → Type 0
ReadsAs l x r = heeded r ≡ true → (c : Core) → c.lines ≡ l → x ≡ value_of c r
