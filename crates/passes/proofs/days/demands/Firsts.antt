-- 02, C-21 and C-11, the sheet after each record: the first k records of a good trace, k from 1 on, have a sheet of their own, which the exported call writes. It is that of a day of k records, and this is the
-- whole day as far as it has come by then: its first k moments, with the events that these made.
use Rattle.basics.proofs.Prelude.{◌≡◌, refl, sym, ap, subst, ◌∙◌, true, false, List, [], ◌∷◌, ◌++◌, append_assoc, append-nil, map, ℕ, zero, suc, ◌≤◌, arith, length, take, drop, drop_at, le-leb, take_all}
use Rattle.rules.specs.Device.{some, level, write, reset, WellFormed, step}
use Rattle.rules.specs.Access.{dword}
use Rattle.calls.specs.Calls.{answer_length, answered, AnswerRoom}
use Rattle.laws.proofs.laws.Images.{reset_well_formed}
use Rattle.histories.proofs.laws.WellFormed.{step_well}
use Rattle.plain.specs.{Events.Note, Plain.Engine, Sequence.Item, Sequence.call, Sequence.load, Sequence.refused, Sequence.takes, Sequence.notes_of, Sequence.plain_after}
use Rattle.plain.proofs.laws.{Same.Run, Same.Same, Following.stepped, Following.counted_run, Following.like_call, Following.sized, Following.same_counted, Following.loaded_run}
use Rattle.traces.specs.{Trace.record_count, Trace.good, Trace.trace_test, Trace.nth, Played.records_from, Played.records, plays.Firsts.first_records}
use Rattle.traces.proofs.{demands.Told.AllGood, demands.Told.Means, demands.Told.test_told, plays.demands.Firsts.first_count, plays.demands.Firsts.first_is_good, plays.demands.Firsts.first_records_lem}
use Rattle.sheets.specs.Day.{item_of, items, begun, made, moments, day_from, day_of}
use Rattle.sheets.specs.{Sheet.sheet_length, Sheet.sheet_bytes, Sheet.row_of, Sheeting.sheet_leaves, Sheeting.sheet_settled, Sheeting.sheeting}
use Rattle.sheets.proofs.laws.Computed.{sheeted}
use Rattle.passes.specs.{Slots.NoLoad, days.Accounts.made_in, days.Accounts.day_to}
use Rattle.passes.proofs.laws.{Passing.same_begun, Days.items_loadless, Days.items_length}

-- ---- a small day, computed

-- raise 5, unmask it, lower it
abbrev small : List Item
small = call (level 5 true) ∷ call (write dword 0x20 0xffffffdf) ∷ call (level 5 false) ∷ []

-- after two of the three records its assert is made, and not yet its deassert
after_two : row_of (day_to 2 (day_from begun small)) 5
    ≡ record { raises = 1; lowers = 0; asserts = 1; deasserts = 0; returned = 0; offered = 1; dropped = 0; greatest = 1; withdrawn = 0; still_open = 0 }
unfolding sheeted made_in
after_two = refl

-- after one its wait is open
after_one : row_of (day_to 1 (day_from begun small)) 5
    ≡ record { raises = 1; lowers = 0; asserts = 0; deasserts = 0; returned = 0; offered = 0; dropped = 0; greatest = 0; withdrawn = 0; still_open = 1 }
unfolding sheeted made_in
after_one = refl

-- ---- the records

first_of : (l : List ℕ) (n k a : ℕ) → k ≤ n → map item_of (records_from l k a) ≡ take k (map item_of (records_from l n a))
unfolding records_from
first_of l n zero a h = refl
first_of l zero (suc k) a h = absurd (omega (arith, h))
first_of l (suc n) (suc k) a h = ap (λ xs. item_of (nth l a) ∷ xs) (first_of l n k (suc a) (omega (arith, h)))

-- ---- the moments

moments_first : (k : ℕ) (xs : List Item) (e : Engine) → moments e (take k xs) ≡ take k (moments e xs)
unfolding moments
moments_first zero xs e = refl
moments_first (suc k) [] e = refl
moments_first (suc k) (x ∷ xs) e = ap (λ ms. record { before = e; item = x } ∷ ms) (moments_first k xs (takes e x).after)

-- ---- the events

-- a record adds to the history what it made
adds : (e : Engine) (x : Item) (new : List Note) → (takes e x).after.history ≡ e.history ++ new → (takes e x).after.history ≡ e.history ++ made (record { before = e; item = x })
adds e x new g = g ∙ ap (λ (ns : List Note). e.history ++ ns) (sym (ap (drop (length e.history)) g ∙ drop_at e.history new (length e.history) refl))

made_on : (xs : List Item) (e : Engine) (r : Run) → Same e r → WellFormed r.device → NoLoad xs → (plain_after e xs).history ≡ e.history ++ made_in (moments e xs)
unfolding plain_after moments made_in
made_on [] e r x w l = sym (append-nil e.history)
made_on (call c ∷ xs) e r x w l =
    let y = (like_call e r x (sized w) c).after in
    let rest = made_in (moments (takes e (call c)).after xs) in
    let new = notes_of r.call r.device.ring (step r.device c).made in
    made_on xs (takes e (call c)).after (stepped r c) y (step_well r.device c w) l
    ∙ ap (λ (ns : List Note). ns ++ rest) (adds e (call c) new (y.tail.notes ∙ ap (λ (ns : List Note). ns ++ new) (sym x.tail.notes)))
    ∙ append_assoc e.history (made (record { before = e; item = call c })) rest
made_on (load d ∷ xs) e r x w l = absurd l
made_on (refused ∷ xs) e r x w l =
    let rest = made_in (moments (takes e refused).after xs) in
    made_on xs (takes e refused).after (counted_run r) (same_counted e r x) w l
    ∙ ap (λ (ns : List Note). ns ++ rest) (adds e refused [] (sym (append-nil e.history)))
    ∙ append_assoc e.history (made (record { before = e; item = refused })) rest

loadless_first : (k : ℕ) (xs : List Item) → NoLoad xs → NoLoad (take k xs)
loadless_first zero xs l = tt
loadless_first (suc k) [] l = tt
loadless_first (suc k) (call c ∷ xs) l = loadless_first k xs l
loadless_first (suc k) (load d ∷ xs) l = absurd l
loadless_first (suc k) (refused ∷ xs) l = loadless_first k xs l

-- ---- the day

-- Of any trace and number k: the day of the first k records is the whole day as far as it has come after k records. So each count of its sheet, and each wait, is that of the whole day's first k moments.
pub day_so_far : (l : List ℕ) (k : ℕ) → day_from begun (take k (items l)) ≡ day_to k (day_of l)
unfolding begun
day_so_far l k =
    let xs = take k (items l) in
    let cut = moments_first k (items l) begun in
    let events = made_on xs begun (loaded_run reset) same_begun reset_well_formed (loadless_first k (items l) (items_loadless (records l))) in
    λ t. record { moments = cut t; history = (events ∙ ap made_in cut) t }

-- After all its records that is the day itself.
pub whole_day : (l : List ℕ) → day_to (record_count l) (day_of l) ≡ day_of l
whole_day l = sym (day_so_far l (record_count l)) ∙ ap (day_from begun) (take_all (record_count l) (items l) (omega (arith, items_length l (record_count l) 0)))

-- ---- of the exported call

module _ (l : List ℕ) {at n : ℕ} (e : trace_test l ≡ good at n) (k : ℕ) (some-are : 1 ≤ k) (h : k ≤ record_count l) where
  abbrev first : List ℕ
  first = first_records l k

  is_good_lem : AllGood l at n
  is_good_lem = subst (Means l) e (test_told l)

  -- The records of the first k are the trace's first k,
  pub first_items : items first ≡ take k (items l)
  first_items = ap (map item_of) (first_records_lem l is_good_lem.contents is_good_lem.each k some-are h) ∙ first_of l (record_count l) k 0 h

  -- so that their day is its day after k records.
  pub first_day : day_of first ≡ day_to k (day_of l)
  first_day = ap (day_from begun) first_items ∙ day_so_far l k

  -- With room for answer and sheet their sheet is written: that of the day of the first k records.
  pub first_sheet : (s a : List ℕ) → sheet_length ≤ length s → AnswerRoom a
      → sheeting first s a ≡ sheet_leaves 0 (sheet_bytes 4 (row_of (day_from begun (take k (items l)))) ++ drop sheet_length s) (answered 0 (some k) a)
  unfolding sheeting
  first_sheet s a r q =
      let passes = first_is_good l is_good_lem.contents is_good_lem.each k some-are h in
      let count = first_count l is_good_lem.contents is_good_lem.each k some-are h in
      rw (le-leb answer_length (length a) q, le-leb sheet_length (length s) r)
      (ap (sheet_settled first s a) passes ∙ (λ t. sheet_leaves 0 (sheet_bytes 4 (row_of (day_from begun (first_items t))) ++ drop sheet_length s) (answered 0 (some (count t)) a)))
