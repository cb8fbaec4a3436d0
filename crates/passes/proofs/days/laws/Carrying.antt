-- A tally that carries the records of a day: its numbers are those of the marks so far, as eight bytes hold them; and one trace more.
use Rattle.basics.proofs.Prelude.{◌≡◌, refl, sym, ap, subst, ◌∙◌, Bool, true, false, cond, ◌&&◌, List, [], ◌∷◌, ◌++◌, append_assoc, ℕ, zero, suc, ◌+◌, ◌-◌, ◌%◌, ◌^◌, ◌<◌, ◌≤◌, max, arith, eqb, length, length-append, test, bytes_of}
use Rattle.rules.specs.Device.{Device, reset}
use Rattle.plain.specs.Sequence.{Item}
use Rattle.sheets.specs.{Day.begun, Day.day_from, Sheet.Row, Sheet.column_of, Sheet.bytes_of_row, Sheet.rows_below, Sheet.row_of, Sheet.empty_row, Sheet.together, Sheet.total_below, Sheet.sheet_bytes}
use Rattle.passes.specs.tallies.{Grid.Grid, Marks.Mark, Marks.raised, Marks.lowered, Marks.began, Marks.taken_back, Marks.happened, Marks.all_marked, Marks.item_marks, Marks.item_after, Marks.day_marks, Tally.numbers_of, Tally.counted_in, Tally.row_in, Tally.tally_bytes}
use Rattle.passes.specs.{Slots.NoLoad, Slots.Slot, Slots.settle, Slots.take_back, Slots.slot_after, Slots.slot_all, Slots.Rows, Finish.after_items, Finish.zeros, Finish.cleared, Finish.all_inputs, Finish.is_on}
use Rattle.passes.proofs.laws.{Marking.added_in, Marking.all_marked_at, Marking.rows_marked, Marking.Early, Marking.early_all, Finishing.all_from, Finishing.shut_row, Passing.soon_day, Passing.cells, Bytes.below_ten, Reading.number_in}
use Rattle.passes.proofs.tallies.laws.{Taking.marked_append, Grids.bytes_same}

-- ---- records one after another

pub after_append : (xs ys : List Item) (d : Device) → after_items d (xs ++ ys) ≡ after_items (after_items d xs) ys
unfolding after_items
after_append [] ys d = refl
after_append (x ∷ xs) ys d = after_append xs ys (item_after d x)

pub day_append : (xs ys : List Item) (k : ℕ) (d : Device) → day_marks k d (xs ++ ys) ≡ day_marks k d xs ++ day_marks (k + length xs) (after_items d xs) ys
unfolding day_marks after_items
day_append [] ys k d = let z : k ≡ k + 0 = omega arith in ap (λ j. day_marks j d ys) z
day_append (x ∷ xs) ys k d =
    let z : k + 1 + length xs ≡ k + length (x ∷ xs) = omega arith in
    ap (λ (ms : List Mark). item_marks k d x ++ ms) (day_append xs ys (k + 1) (item_after d x) ∙ ap (λ j. day_marks (k + 1) (item_after d x) xs ++ day_marks j (after_items (item_after d x) xs) ys) z)
    ∙ sym (append_assoc (item_marks k d x) (day_marks (k + 1) (item_after d x) xs) (day_marks (k + length (x ∷ xs)) (after_items d (x ∷ xs)) ys))

-- ---- the waits that were withdrawn before

abbrev with : Slot → ℕ → Slot
with s w = record { greatest = s.greatest; withdrawn = w + s.withdrawn; since = s.since }

with_after : (n : ℕ) (s : Slot) (w : ℕ) (m : Mark) → slot_after n (with s w) m ≡ with (slot_after n s m) w
with_after n s w (raised m) = refl
with_after n s w (lowered m) = refl
with_after n s w (began m k) = test (eqb n m) (λ t. rw t refl) (λ t. rw t refl)
with_after n s w (taken_back m) =
    test (eqb n m)
    (λ t. rw t (test (eqb s.since 0) (λ z. rw z refl) (λ z. rw z (let e : w + s.withdrawn + 1 ≡ w + (s.withdrawn + 1) = omega arith in λ i. record { greatest = s.greatest; withdrawn = e i; since = 0 }))))
    (λ t. rw t refl)
with_after n s w (happened x) =
    test (x.asserted && eqb n x.input)
    (λ t. rw t (test (eqb s.since 0) (λ z. rw z refl) (λ z. rw z refl)))
    (λ t. rw t refl)

with_all : (n : ℕ) (s : Slot) (w : ℕ) (ms : List Mark) → slot_all n (with s w) ms ≡ with (slot_all n s ms) w
unfolding slot_all
with_all n s w [] = refl
with_all n s w (m ∷ ms) = ap (λ z. slot_all n z ms) (with_after n s w m) ∙ with_all n (slot_after n s m) w ms

-- ---- two grids that eight bytes do not tell apart, but for the waits, which are the same

pub record Alike (f g : Grid) (n : ℕ) : Type 0 where
  pub counts : (c : ℕ) → c < 7 → f n c % 2 ^ 64 ≡ g n c % 2 ^ 64
  pub greatest : f n 7 ≡ g n 7
  pub withdrawn : f n 8 % 2 ^ 64 ≡ g n 8 % 2 ^ 64
  pub since : f n 9 ≡ g n 9

pub sum_alike : (a b x : ℕ) → a % 2 ^ 64 ≡ b % 2 ^ 64 → (a + x) % 2 ^ 64 ≡ (b + x) % 2 ^ 64
sum_alike a b x e = go a x ∙ ap (λ (y : ℕ). (y + x % 2 ^ 64) % 2 ^ 64) e ∙ sym (go b x)
  where
    go : (a x : ℕ) → (a + x) % 2 ^ 64 ≡ (a % 2 ^ 64 + x % 2 ^ 64) % 2 ^ 64
    go a x = omega arith

alike_marked : (f g : Grid) (n : ℕ) (ms : List Mark) → Alike f g n → Alike (all_marked f ms) (all_marked g ms) n
alike_marked f g n ms a =
    let base : Slot = record { greatest = f n 7; withdrawn = 0; since = f n 9 } in
    let slot : ℕ → Slot = λ w. with base w in
    let none : (w : ℕ) → w ≡ w + 0 = λ w. omega arith in
    let rf = rows_marked f n (slot (f n 8)) ms (record { greatest = refl; withdrawn = none (f n 8); since = refl }) in
    let rg = rows_marked g n (slot (g n 8)) ms (record { greatest = sym a.greatest; withdrawn = none (g n 8); since = sym a.since }) in
    let end = slot_all n base ms in
    let ends : (w : ℕ) → slot_all n (slot w) ms ≡ with end w = λ w. with_all n base w ms in
    record {
      counts = λ c q. ap (λ (y : ℕ). y % 2 ^ 64) (all_marked_at f ms n c q) ∙ sum_alike (f n c) (g n c) (added_in n c ms) (a.counts c q) ∙ ap (λ (y : ℕ). y % 2 ^ 64) (sym (all_marked_at g ms n c q));
      greatest = rf.greatest ∙ ap (λ (s : Slot). s.greatest) (ends (f n 8) ∙ refl) ∙ sym (ap (λ (s : Slot). s.greatest) (ends (g n 8))) ∙ sym rg.greatest;
      withdrawn = ap (λ (y : ℕ). y % 2 ^ 64) (rf.withdrawn ∙ ap (λ (s : Slot). s.withdrawn) (ends (f n 8))) ∙ sum_alike (f n 8) (g n 8) end.withdrawn a.withdrawn
          ∙ ap (λ (y : ℕ). y % 2 ^ 64) (sym (rg.withdrawn ∙ ap (λ (s : Slot). s.withdrawn) (ends (g n 8))));
      since = rf.since ∙ ap (λ (s : Slot). s.since) (ends (f n 8)) ∙ sym (ap (λ (s : Slot). s.since) (ends (g n 8))) ∙ sym rg.since;
    }

-- ---- the numbers of a day

-- what its marks leave, from zeros on
abbrev pub day_grid : List Item → Grid
day_grid xs = all_marked (cleared zeros all_inputs) (day_marks 0 reset xs)

-- no wait is longer than the day, nor began behind it
module _ (xs : List Item) (n : ℕ) (p : n < 64) where
  abbrev nothing : Slot
  nothing = record { greatest = 0; withdrawn = 0; since = 0 }

  starts : Rows (cleared zeros all_inputs) n nothing
  starts = record { greatest = all_from zeros zeros n 7 p (omega arith); withdrawn = all_from zeros zeros n 8 p (omega arith); since = all_from zeros zeros n 9 p (omega arith) }

  early : Early (length xs) (slot_all n nothing (day_marks 0 reset xs))
  early = early_all (length xs) n nothing (day_marks 0 reset xs) (soon_day (length xs) xs 0 reset (omega arith)) (record { great = omega arith; late = omega arith })

  pub great_early : day_grid xs n 7 ≤ length xs
  great_early = let e = rows_marked (cleared zeros all_inputs) n nothing (day_marks 0 reset xs) starts in omega (arith, e.greatest, early.great)

  pub late_early : day_grid xs n 9 ≤ length xs
  late_early = let e = rows_marked (cleared zeros all_inputs) n nothing (day_marks 0 reset xs) starts in omega (arith, e.since, early.late)

-- one day's records, then another's
pub grid_append : (xs ys : List Item) → day_grid (xs ++ ys) ≡ all_marked (day_grid xs) (day_marks (length xs) (after_items reset xs) ys)
grid_append xs ys =
    let z : 0 + length xs ≡ length xs = omega arith in
    ap (all_marked (cleared zeros all_inputs)) (day_append xs ys 0 reset ∙ ap (λ k. day_marks 0 reset xs ++ day_marks k (after_items reset xs) ys) z)
    ∙ marked_append (cleared zeros all_inputs) (day_marks 0 reset xs) (day_marks (length xs) (after_items reset xs) ys)

-- ---- a tally carries them

pub record Carries (t : List ℕ) (xs : List Item) : Type 0 where
  pub alike : (n : ℕ) → n < 64 → Alike (numbers_of t) (day_grid xs) n
  pub records : counted_in t ≡ length xs

-- numbers that are read back from eight bytes
read_back : (f : Grid) (rest : List ℕ) (n c : ℕ) → n < 65 → c < 10 → numbers_of (tally_bytes f ++ rest) n c ≡ f n c % 2 ^ 64
read_back f rest n c p q = number_in (row_in f) rest n c p q ∙ ap (λ (y : ℕ). y % 2 ^ 64) (column n c q)
  where
    column : (n c : ℕ) → c < 10 → column_of (row_in f n) c ≡ f n c
    column n = below_ten (λ c. column_of (row_in f n) c ≡ f n c) refl refl refl refl refl refl refl refl refl refl

twice : (x : ℕ) → x % 2 ^ 64 % 2 ^ 64 ≡ x % 2 ^ 64
twice x = omega arith

small : (x b : ℕ) → x ≤ b → b < 2 ^ 64 → x % 2 ^ 64 ≡ x
small x b h q = omega (arith, h, q)

pub carried : (f : Grid) (rest : List ℕ) (xs : List Item) → length xs < 2 ^ 64 → f 64 0 ≡ length xs → ((n : ℕ) → n < 64 → Alike f (day_grid xs) n) → Carries (tally_bytes f ++ rest) xs
carried f rest xs few counted a = record {
  alike = λ n p. let at : (c : ℕ) → c < 10 → numbers_of (tally_bytes f ++ rest) n c ≡ f n c % 2 ^ 64 = λ c q. read_back f rest n c (omega (arith, p)) q in
      let x = a n p in
      record {
        counts = λ c q. ap (λ (y : ℕ). y % 2 ^ 64) (at c (omega (arith, q))) ∙ twice (f n c) ∙ x.counts c q;
        greatest = at 7 (omega arith) ∙ ap (λ (y : ℕ). y % 2 ^ 64) x.greatest ∙ small (day_grid xs n 7) (length xs) (great_early xs n p) few;
        withdrawn = ap (λ (y : ℕ). y % 2 ^ 64) (at 8 (omega arith)) ∙ twice (f n 8) ∙ x.withdrawn;
        since = at 9 (omega arith) ∙ ap (λ (y : ℕ). y % 2 ^ 64) x.since ∙ small (day_grid xs n 9) (length xs) (late_early xs n p) few;
      };
  records = read_back f rest 64 0 (omega arith) (omega arith) ∙ ap (λ (y : ℕ). y % 2 ^ 64) counted ∙ small (length xs) (length xs) (omega arith) few;
}

pub alike_self : (f : Grid) (n : ℕ) → Alike f f n
alike_self f n = record { counts = λ c q. refl; greatest = refl; withdrawn = refl; since = refl }

pub alike_then : (t : List ℕ) (xs ys : List Item) → Carries t xs → (n : ℕ) → n < 64 → Alike (all_marked (numbers_of t) (day_marks (length xs) (after_items reset xs) ys)) (day_grid (xs ++ ys)) n
alike_then t xs ys c n p =
    subst (λ (g : Grid). Alike (all_marked (numbers_of t) (day_marks (length xs) (after_items reset xs) ys)) g n) (sym (grid_append xs ys))
    (alike_marked (numbers_of t) (day_grid xs) n (day_marks (length xs) (after_items reset xs) ys) (c.alike n p))
