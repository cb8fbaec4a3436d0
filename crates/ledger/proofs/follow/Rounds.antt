-- The rounds of the pass: what holds when k records are followed, before the first of them and after one more.
use Rattle.basics.proofs.Prelude.{◌≡◌, refl, sym, ap, subst, ◌∙◌, Bool, List, [], ◌∷◌, ◌++◌, map, ℕ, ◌+◌, ◌*◌, ◌<◌, ◌≤◌, arith, length}
use Rattle.rules.specs.{Lines.Lines, Device.Device, Device.WellFormed}
use Rattle.plain.specs.Sequence.{Item}
use Rattle.traces.specs.{Trace.Record, Trace.record_length, Trace.first_place, Trace.record_at, Trace.nth, Played.records_from}
use Rattle.sheets.specs.Day.{item_of}
use Rattle.passes.specs.{tallies.Marks.item_marks, tallies.Marks.item_after, tallies.Marks.day_marks, tallies.Following.Stands, tallies.Following.Takes, tallies.Following.FollowsItem, Finish.after_items}
use Rattle.passes.proofs.tallies.laws.Taking.{takes_none, takes_then, takes_same}
use Rattle.passes.proofs.laws.Days.{after_last, marks_last, items_last, items_length, item_loadless, item_well}

abbrev items_to : List ℕ → ℕ → List Item
items_to l k = map item_of (records_from l k 0)

-- what k records do, to whatever device the pass began with
pub record Followed (wide : Bool) (l before : List ℕ) (base k : ℕ) (sheet : List ℕ) (m : Lines) (u : ℕ) (d : Device) : Type 0 where
  pub takes : Takes wide before sheet (day_marks base d (items_to l k))
  pub stands : Stands m u (after_items d (items_to l k))
  pub well : WellFormed (after_items d (items_to l k))

pub record Round (wide : Bool) (l : List ℕ) (n : ℕ) (before : List ℕ) (l₀ : Lines) (w₀ base k : ℕ) (sheet : List ℕ) (m : Lines) (u : ℕ) : Type 0 where
  pub upto : k ≤ n
  pub follows : (d : Device) → WellFormed d → Stands l₀ w₀ d → Followed wide l before base k sheet m u d
  pub sized : length sheet ≡ length before

pub first_round : (wide : Bool) (l : List ℕ) (n : ℕ) (s : List ℕ) (m : Lines) (u base : ℕ) → Round wide l n s m u base 0 s m u
unfolding day_marks after_items records_from
first_round wide l n s m u base = record { upto = omega arith; follows = λ d w h. record { takes = takes_none s; stands = h; well = w }; sized = refl }

module _ {wide : Bool} {l : List ℕ} {n : ℕ} {before : List ℕ} {l₀ : Lines} {w₀ base k : ℕ} {sheet : List ℕ} {m : Lines} {u : ℕ} (q : Round wide l n before l₀ w₀ base k sheet m u) (lt : k < n) where
  module _ (first : ℕ) (p : first ≡ first_place l) (r : Record) (e : r ≡ record_at (first + record_length * k) l) {s : List ℕ} {m₂ : Lines} {u₂ : ℕ} (f : FollowsItem wide m u m₂ u₂ sheet s (base + k) (item_of r)) where
    one_more : (d : Device) → Followed wide l before base k sheet m u d → Followed wide l before base (k + 1) s m₂ u₂ d
    one_more d i =
        let xs = items_to l k in
        let x = after_items d xs in
        let its : r ≡ nth l k = e ∙ ap (λ a. record_at (a + record_length * k) l) p in
        let more : xs ++ (item_of r ∷ []) ≡ items_to l (k + 1) = ap (λ y. xs ++ (item_of y ∷ [])) its ∙ sym (items_last l k) in
        let done = f x i.well i.stands in
        let after : item_after x (item_of r) ≡ after_items d (items_to l (k + 1)) = sym (after_last xs (item_of r) d) ∙ ap (after_items d) more in
        let number : base + length xs ≡ base + k = ap (λ (y : ℕ). base + y) (items_length l k 0) in
        let marks : day_marks base d xs ++ item_marks (base + k) x (item_of r) ≡ day_marks base d (items_to l (k + 1)) =
        ap (λ j. day_marks base d xs ++ item_marks j x (item_of r)) (sym number) ∙ sym (marks_last xs (item_of r) base d) ∙ ap (day_marks base d) more
        in
        record {
          takes = takes_same marks (takes_then (day_marks base d xs) (item_marks (base + k) x (item_of r)) i.takes done.1);
          stands = subst (Stands m₂ u₂) after done.0;
          well = subst WellFormed after (item_well (item_of r) x (item_loadless r [] tt) i.well);
        }

    pub next_round : length s ≡ length before → Round wide l n before l₀ w₀ base (k + 1) s m₂ u₂
    next_round z = record { upto = omega arith; follows = λ d w h. one_more d (q.follows d w h); sized = z }
