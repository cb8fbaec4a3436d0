-- A day of several traces, counted (02, C-21, carried from trace to trace): begun, each trace added on the image that the records before it leave, and summed, a tally gives the sheet of the plain
-- engine's history of all their records, numbered over the day.
use Rattle.basics.proofs.Prelude.{◌≡◌, refl, sym, ap, subst, ◌∙◌, Bool, true, false, true≢false, cond, ◌&&◌, List, [], ◌∷◌, ◌++◌, append_assoc, append-nil, ℕ, zero, suc, ◌+◌, ◌%◌, ◌^◌, ◌<◌, ◌≤◌, max, arith, eqb, ne_eqb, leb, le-leb, Bytes, length, length-append, drop, test, bytes_of, number_of, part, map}
use Rattle.rules.specs.Device.{Device, reset}
use Rattle.images.specs.Image.{ImageTest, accepted, wrong_length, wrong_contents, broken, copy_differs, many_wait, bad_flag, unused_set, decode, image_test}
use Rattle.calls.specs.Calls.{answer_length}
use Rattle.calls.specs.Untouched.{IsDone}
use Rattle.traces.specs.Trace.{TraceTest, record_count, trace_test}
use Rattle.traces.specs.Played.{records}
use Rattle.traces.proofs.demands.{Told.Means, Told.test_told, Sizes.few_records}
use Rattle.plain.specs.Sequence.{Item, call, load}
use Rattle.sheets.specs.{Day.begun, Day.day_from, Day.day_of, Day.items, Day.item_of, Sheet.Row, Sheet.column_of, Sheet.bytes_of_row, Sheet.rows_below, Sheet.row_of, Sheet.empty_row, Sheet.together, Sheet.total_below, Sheet.sheet_bytes, Sheet.sheet_of}
use Rattle.passes.specs.{tallies.Grid.Grid, tallies.Grid.put, tallies.Grid.cell_place, tallies.Marks.all_marked, tallies.Marks.day_marks, Slots.NoLoad, Finish.after_items, Finish.zeros, Finish.is_on}
use Rattle.passes.specs.tallies.Tally.{tally_length, numbers_of, counted_in, tally_bytes, TallyTest, sound, wrong_at, tally_test}
use Rattle.passes.specs.tallies.Tallying.{TallyLeft, tally_leaves, over_tally, with_room, beginning, tallied, AddTest, refused, adds, unless_tally, unless_trace, unless_image, add_test, add_ends, adding, long_row, sum_ends, summing}
use Rattle.traces.specs.plays.Playing.{PlayTest, plays, PlayEnding, play_ends, PlayLeft, play_leaves, play_settled, play_told, play_room, play_on_test, play_on_ending, playing_on}
use Rattle.passes.specs.days.Parts.{Part, day_items, HoldsSoFar, played_part, PlayedInTurn, added_all, AllAdded}
use Rattle.passes.proofs.days.demands.{Played.hands_on, Exact.cell_fits, Exact.total_fits_too, Exact.cell_is_exact, Exact.total_is_exact}
use Rattle.traces.specs.plays.Playing as playing
use Rattle.passes.proofs.laws.{Finishing.all_from, Passing.cells, Bytes.below_ten, Bytes.no_numbers, Bytes.rows_same, Reading.number_in, Days.items_loadless, Days.items_length}
use Rattle.passes.proofs.tallies.laws.{Grids.bytes_same, Sound.counted_few}
use Rattle.passes.proofs.days.laws.Carrying.{after_append, Alike, day_grid, Carries, carried, alike_then, sum_alike}
use Rattle.traces.specs.Trace as trace
use Rattle.plain.specs.Sequence as sequence

-- ---- a call that was done had room and passed its tests

seven : ◌≡◌ {A = ℕ} 7 0 → ⊥
seven e = omega (arith, e)

had_room : (a t : List ℕ) (x : TallyLeft) → IsDone (with_room a t x).number → with_room a t x ≡ x
had_room a t x e = go (leb answer_length (length a) && leb tally_length (length t)) refl
  where
    go : (b : Bool) → (leb answer_length (length a) && leb tally_length (length t)) ≡ b → with_room a t x ≡ x
    go true r = ap (λ b. cond b x (tally_leaves 7 t a)) r
    go false r = absurd (seven (ap (λ b. (cond b x (tally_leaves 7 t a)).number) (sym r) ∙ e))

abbrev is_good : TraceTest → Bool
is_good (trace.good first n) = true
is_good trace.wrong_contents = false
is_good (trace.bad_record k) = false

-- the tests that it passed
record Passes (y : TraceTest) (z : TallyTest) (x : AddTest) : Type 0 where
  goes : x ≡ adds
  good : is_good y ≡ true
  whole : z ≡ sound

added_by : (x : ImageTest) (y : TraceTest) (z : TallyTest) (l i t a : List ℕ) → IsDone (add_ends (unless_image x (unless_trace y (unless_tally z))) l i t a).number
    → Passes y z (unless_image x (unless_trace y (unless_tally z)))
added_by accepted (trace.good first n) sound l i t a e = record { goes = refl; good = refl; whole = refl }
added_by accepted (trace.good first n) (wrong_at k) l i t a e = absurd (omega (arith, e))
added_by accepted trace.wrong_contents z l i t a e = absurd (omega (arith, e))
added_by accepted (trace.bad_record k) z l i t a e = absurd (omega (arith, e))
added_by wrong_length y z l i t a e = absurd (omega (arith, e))
added_by wrong_contents y z l i t a e = absurd (omega (arith, e))
added_by (broken copy_differs k) y z l i t a e = absurd (omega (arith, e))
added_by (broken many_wait k) y z l i t a e = absurd (omega (arith, e))
added_by (broken bad_flag k) y z l i t a e = absurd (omega (arith, e))
added_by (broken unused_set k) y z l i t a e = absurd (omega (arith, e))

-- a good trace has at most 4,000 records
good_few : (l : List ℕ) (y : TraceTest) → trace_test l ≡ y → is_good y ≡ true → record_count l ≤ 4000
good_few l (trace.good first n) e h = let g = subst (Means l) e (test_told l) in few_records l g.contents
good_few l trace.wrong_contents e h = absurd (true≢false (sym h))
good_few l (trace.bad_record k) e h = absurd (true≢false (sym h))

summed_by : (z : TallyTest) (t s a : List ℕ) → IsDone (sum_ends z t s a).number → z ≡ sound
summed_by sound t s a e = refl
summed_by (wrong_at k) t s a e = absurd (omega (arith, e))

-- ---- begun

none_counted : (rest : List ℕ) → Carries (rows_below 8 65 (λ n. empty_row) ++ rest) []
unfolding day_marks all_marked
none_counted rest =
    subst (λ (l : List ℕ). Carries (l ++ rest) []) (no_numbers zeros (λ n c p q. refl))
    (carried zeros rest [] (omega arith) refl (λ n p. let at : (c : ℕ) → c < 10 → 0 ≡ day_grid [] n c = λ c q. sym (all_from zeros zeros n c p q) in
    record { counts = λ c q. ap (λ (y : ℕ). y % 2 ^ 64) (at c (omega (arith, q))); greatest = at 7 (omega arith); withdrawn = ap (λ (y : ℕ). y % 2 ^ 64) (at 8 (omega arith)); since = at 9 (omega arith) }))

-- A tally that was begun carries no record.
pub begun_carries : (t a : List ℕ) → (beginning t a).number ≡ 0 → Carries (beginning t a).bytes []
unfolding beginning
begun_carries t a e = subst (λ (x : TallyLeft). Carries x.bytes []) (sym (had_room a t _ e)) (none_counted (drop tally_length t))

-- ---- added

module _ (l i t : List ℕ) (xs : List Item) (c : Carries t xs) (d : decode i ≡ after_items reset xs) where
  -- the numbers then
  abbrev next : Grid
  next = put (all_marked (numbers_of t) (day_marks (length xs) (after_items reset xs) (items l))) 64 0 (length xs + record_count l)

  same : tallied l t (decode i) ≡ next
  same = (λ j. put (all_marked (numbers_of t) (day_marks (c.records j) (d j) (items l))) 64 0 (c.records j + record_count l))

  longer : length (xs ++ items l) ≡ length xs + record_count l
  longer = length-append xs (items l) ∙ ap (λ (k : ℕ). length xs + k) (items_length l (record_count l) 0)

  next_alike : (n : ℕ) → n < 64 → Alike next (day_grid (xs ++ items l)) n
  next_alike n p =
      let a = alike_then t xs (items l) c n p in
      let row = ne_eqb n 64 (λ e. omega (arith, e, p)) in
      let its : (k : ℕ) → next n k ≡ all_marked (numbers_of t) (day_marks (length xs) (after_items reset xs) (items l)) n k = λ k. test (eqb k 0) (λ u. rw (u, row) refl) (λ u. rw u refl) in
      record {
        counts = λ k q. ap (λ (y : ℕ). y % 2 ^ 64) (its k) ∙ a.counts k q;
        greatest = its 7 ∙ a.greatest;
        withdrawn = ap (λ (y : ℕ). y % 2 ^ 64) (its 8) ∙ a.withdrawn;
        since = its 9 ∙ a.since;
      }

  -- One trace more, on an image that holds the device which the records so far leave.
  pub added_carries : (a : List ℕ) → (adding l i t a).number ≡ 0 → Carries (adding l i t a).bytes (xs ++ items l)
  unfolding adding
  added_carries a e =
      let room = had_room a t (add_ends (add_test l i t) l i t a) e in
      let done = added_by (image_test i) (trace_test l) (tally_test t) l i t a (ap (λ (x : TallyLeft). x.number) (sym room) ∙ e) in
      let counted = counted_few t done.whole in
      let records = good_few l (trace_test l) refl done.good in
      subst (λ (x : TallyLeft). Carries x.bytes (xs ++ items l)) (sym (room ∙ ap (λ x. add_ends x l i t a) done.goes))
      (subst (λ (f : Grid). Carries (tally_bytes f ++ drop tally_length t) (xs ++ items l)) (sym same)
      (carried next (drop tally_length t) (xs ++ items l) (omega (arith, counted, records, c.records, longer)) (sym longer) next_alike))

-- all traces of a day
pub all_carry : (ps : List Part) (t : List ℕ) (xs : List Item) → Carries t xs → HoldsSoFar (after_items reset xs) ps → AllAdded t ps → Carries (added_all t ps) (xs ++ day_items ps)
unfolding added_all AllAdded
all_carry [] t xs c h e = subst (Carries t) (sym (append-nil xs)) c
all_carry (p ∷ ps) t xs c h e =
    let one = added_carries p.trace p.image t xs c h.0 p.answer e.0 in
    subst (Carries (added_all (adding p.trace p.image t p.answer).bytes ps)) (append_assoc xs (items p.trace) (day_items ps))
    (all_carry ps (adding p.trace p.image t p.answer).bytes (xs ++ items p.trace) one (subst (λ (x : Device). HoldsSoFar x ps) (sym (after_append xs (items p.trace) reset)) h.1) e.1)

-- It is done where there is room, the image is accepted, the trace good and the tally sound.
pub is_added : (l i t a : List ℕ) {first n : ℕ} → answer_length ≤ length a → tally_length ≤ length t → image_test i ≡ accepted → trace_test l ≡ trace.good first n → tally_test t ≡ sound → (adding l i t a).number ≡ 0
unfolding adding
is_added l i t a h k e f g =
    ap (λ b. (cond b (add_ends (add_test l i t) l i t a) (tally_leaves 7 t a)).number) (λ j. le-leb answer_length (length a) h j && le-leb tally_length (length t) k j)
    ∙ (λ j. (add_ends (unless_image (e j) (unless_trace (f j) (unless_tally (g j)))) l i t a).number)

-- ---- summed

-- rows that eight bytes do not tell apart, with the same greatest wait
record Low (x y : Row) : Type 0 where
  low : (c : ℕ) → c < 10 → column_of x c % 2 ^ 64 ≡ column_of y c % 2 ^ 64
  great : x.greatest ≡ y.greatest

low_bytes : (x y : Row) → Low x y → bytes_of_row 8 x ≡ bytes_of_row 8 y
low_bytes x y h =
    let b : (c : ℕ) → c < 10 → bytes_of 8 (column_of x c) ≡ bytes_of 8 (column_of y c) = λ c q. bytes_same true (column_of y c) (column_of x c) (sym (h.low c q)) in
    λ i. b 0 (omega arith) i ++ (b 1 (omega arith) i ++ (b 2 (omega arith) i ++ (b 3 (omega arith) i ++ (b 4 (omega arith) i ++ (b 5 (omega arith) i ++ (b 6 (omega arith) i
    ++ (b 7 (omega arith) i ++ (b 8 (omega arith) i ++ b 9 (omega arith) i))))))))

sums_low : (a b x y : ℕ) → a % 2 ^ 64 ≡ x % 2 ^ 64 → b % 2 ^ 64 ≡ y % 2 ^ 64 → (a + b) % 2 ^ 64 ≡ (x + y) % 2 ^ 64
sums_low a b x y e f = sum_alike a x b e ∙ turn x b ∙ sum_alike b y x f ∙ turn y x
  where
    turn : (x b : ℕ) → (x + b) % 2 ^ 64 ≡ (b + x) % 2 ^ 64
    turn x b = let z : x + b ≡ b + x = omega arith in ap (λ (k : ℕ). k % 2 ^ 64) z

together_low : (x y v w : Row) → Low x v → Low y w → Low (together x y) (together v w)
together_low x y v w h k =
    let s : (c : ℕ) → c < 10 → (column_of x c + column_of y c) % 2 ^ 64 ≡ (column_of v c + column_of w c) % 2 ^ 64 = λ c q. sums_low _ _ _ _ (h.low c q) (k.low c q) in
    let m : max x.greatest y.greatest ≡ max v.greatest w.greatest = (λ i. max (h.great i) (k.great i)) in
    record {
      low = below_ten (λ c. column_of (together x y) c % 2 ^ 64 ≡ column_of (together v w) c % 2 ^ 64) (s 0 (omega arith)) (s 1 (omega arith)) (s 2 (omega arith)) (s 3 (omega arith)) (s 4 (omega arith))
          (s 5 (omega arith)) (s 6 (omega arith)) (ap (λ (z : ℕ). z % 2 ^ 64) m) (s 8 (omega arith)) (s 9 (omega arith));
      great = m;
    }

module _ (f g : ℕ → Row) (h : (n : ℕ) → n < 64 → Low (f n) (g n)) where
  total_low : (k : ℕ) → k ≤ 64 → Low (total_below k f) (total_below k g)
  unfolding total_below
  total_low zero q = record { low = λ c q. refl; great = refl }
  total_low (suc k) q = together_low (total_below k f) (f k) (total_below k g) (g k) (total_low k (omega arith)) (h k (omega arith))

  rows_low : (k : ℕ) → k ≤ 64 → rows_below 8 k f ≡ rows_below 8 k g
  unfolding rows_below
  rows_low zero q = refl
  rows_low (suc k) q = (λ i. rows_low k (omega arith) i ++ low_bytes (f k) (g k) (h k (omega arith)) i)

  sheet_low : sheet_bytes 8 f ≡ sheet_bytes 8 g
  sheet_low = (λ i. rows_low 64 (omega arith) i ++ low_bytes (total_below 64 f) (total_below 64 g) (total_low 64 (omega arith)) i)

-- as eight bytes hold it
held : {x y : ℕ} → x ≡ y → x % 2 ^ 64 ≡ y % 2 ^ 64
held e = ap (λ (z : ℕ). z % 2 ^ 64) e

-- the rows of a tally that carries a day are the day's
rows_of_day : (t : List ℕ) (xs : List Item) → NoLoad xs → Carries t xs → (n : ℕ) → n < 64 → Low (long_row t n) (row_of (day_from begun xs) n)
rows_of_day t xs l c n p =
    let a = c.alike n p in
    let at : (k : ℕ) → k < 10 → _ = cells xs l zeros n p in
    record {
      low = below_ten (λ k. column_of (long_row t n) k % 2 ^ 64 ≡ column_of (row_of (day_from begun xs) n) k % 2 ^ 64) (a.counts 0 (omega arith) ∙ held (at 0 (omega arith))) (a.counts 1 (omega arith) ∙ held (at 1 (omega arith)))
          (a.counts 2 (omega arith) ∙ held (at 2 (omega arith))) (a.counts 3 (omega arith) ∙ held (at 3 (omega arith))) (a.counts 4 (omega arith) ∙ held (at 4 (omega arith))) (a.counts 5 (omega arith) ∙ held (at 5 (omega arith)))
          (a.counts 6 (omega arith) ∙ held (at 6 (omega arith))) (held (a.greatest ∙ at 7 (omega arith))) (a.withdrawn ∙ held (at 8 (omega arith))) (held (ap is_on a.since ∙ at 9 (omega arith)));
      great = a.greatest ∙ at 7 (omega arith);
    }

-- The sheet of a tally that carries a day is the day's.
pub sheet_of_day : (t : List ℕ) (xs : List Item) → NoLoad xs → Carries t xs → (s a : List ℕ) → (summing t s a).number ≡ 0 → (summing t s a).bytes ≡ sheet_bytes 8 (row_of (day_from begun xs)) ++ drop tally_length s
unfolding summing
sheet_of_day t xs l c s a e = go (leb tally_length (length t)) refl
  where
    go : (b : Bool) → leb tally_length (length t) ≡ b → (cond (leb tally_length (length t)) (with_room a s (sum_ends (tally_test t) t s a)) (tally_leaves 7 s a)).bytes ≡ sheet_bytes 8 (row_of (day_from begun xs)) ++ drop tally_length s
    go false r = absurd (seven (ap (λ b. (cond b (with_room a s (sum_ends (tally_test t) t s a)) (tally_leaves 7 s a)).number) (sym r) ∙ e))
    go true r =
        let whole = ap (λ b. cond b (with_room a s (sum_ends (tally_test t) t s a)) (tally_leaves 7 s a)) r in
        let e₁ = ap (λ (x : TallyLeft). x.number) (sym whole) ∙ e in
        let room = had_room a s (sum_ends (tally_test t) t s a) e₁ in
        let sounds = summed_by (tally_test t) t s a (ap (λ (x : TallyLeft). x.number) (sym room) ∙ e₁) in
        ap (λ (x : TallyLeft). x.bytes) (whole ∙ room ∙ ap (λ z. sum_ends z t s a) sounds) ∙ ap (λ (xs : List ℕ). xs ++ drop tally_length s) (sheet_low (long_row t) (row_of (day_from begun xs)) (rows_of_day t xs l c))

-- ---- the day

all_loadless : (ps : List Part) → NoLoad (day_items ps)
all_loadless [] = tt
all_loadless (p ∷ ps) = both (items p.trace) (day_items ps) (items_loadless (records p.trace)) (all_loadless ps)
  where
    both : (xs ys : List Item) → NoLoad xs → NoLoad ys → NoLoad (xs ++ ys)
    both [] ys h k = k
    both (call c ∷ xs) ys h k = both xs ys h k
    both (load d ∷ xs) ys h k = absurd h
    both (sequence.refused ∷ xs) ys h k = both xs ys h k

-- Begun, every trace added, and summed, each call done: the sheet of all records, from reset, as the plain engine's history has them, and as eight bytes hold its numbers. The tally, the sheet and
-- the answer areas are any bytes.
pub day_of_traces : (ps : List Part) → HoldsSoFar reset ps → (t a s c : List ℕ) → (beginning t a).number ≡ 0 → AllAdded (beginning t a).bytes ps → (summing (added_all (beginning t a).bytes ps) s c).number ≡ 0
    → (summing (added_all (beginning t a).bytes ps) s c).bytes ≡ sheet_bytes 8 (row_of (day_from begun (day_items ps))) ++ drop tally_length s
unfolding after_items
day_of_traces ps h t a s c e f g =
    sheet_of_day (added_all (beginning t a).bytes ps) (day_items ps) (all_loadless ps) (all_carry ps (beginning t a).bytes [] (begun_carries t a e) h f) s c g

-- ---- the images are those of the exported plays

had_answer : (e : PlayEnding) (i bs es a : List ℕ) → IsDone (play_told e i bs es a).number → play_told e i bs es a ≡ play_settled a e
had_answer e i bs es a z = go (leb answer_length (length a)) refl
  where
    go : (b : Bool) → leb answer_length (length a) ≡ b → play_told e i bs es a ≡ play_settled a e
    go true r = ap (λ b. cond b (play_settled a e) (play_leaves 7 i bs es a)) r
    go false r = absurd (seven (ap (λ b. (cond b (play_settled a e) (play_leaves 7 i bs es a)).number) (sym r) ∙ z))

-- a play that was done found its image accepted, and played
record Played (i : List ℕ) (t : PlayTest) : Type 0 where
  accepts : image_test i ≡ accepted
  goes : t ≡ plays

played_by : (l i bs es : List ℕ) (x : ImageTest) (y : TraceTest) (room : Bool) → image_test i ≡ x → IsDone (play_ends (playing.image_left x (playing.trace_left y room)) l i i bs es).number → Played i (playing.image_left x (playing.trace_left y room))
played_by l i bs es accepted (trace.good first n) true e z = record { accepts = e; goes = refl }
played_by l i bs es accepted (trace.good first n) false e z = absurd (omega (arith, z))
played_by l i bs es accepted trace.wrong_contents room e z = absurd (omega (arith, z))
played_by l i bs es accepted (trace.bad_record k) room e z = absurd (omega (arith, z))
played_by l i bs es wrong_length y room e z = absurd (omega (arith, z))
played_by l i bs es wrong_contents y room e z = absurd (omega (arith, z))
played_by l i bs es (broken copy_differs k) y room e z = absurd (omega (arith, z))
played_by l i bs es (broken many_wait k) y room e z = absurd (omega (arith, z))
played_by l i bs es (broken bad_flag k) y room e z = absurd (omega (arith, z))
played_by l i bs es (broken unused_set k) y room e z = absurd (omega (arith, z))

-- A done play of a trace from an image on leaves one that holds the device after its records.
pub play_hands_on : (p : Part) → Bytes p.image → (played_part p).number ≡ 0 → decode (played_part p).image ≡ after_items (decode p.image) (items p.trace)
unfolding playing_on play_on_test
play_hands_on p b e =
    let l = p.trace in
    let i = p.image in
    let settled = had_answer (play_on_ending l i p.answers p.events) i p.answers p.events p.told e in
    let done = played_by l i p.answers p.events (image_test i) (trace_test l) (play_room l p.answers p.events) refl (ap (λ (x : PlayLeft). x.number) (sym settled) ∙ e) in
    ap (λ (x : PlayLeft). decode x.image) settled ∙ ap (λ t. decode (play_ends t l i i p.answers p.events).image) done.goes ∙ hands_on (records l) i b done.accepts

holds_so_far : (ps : List Part) (j : List ℕ) → PlayedInTurn j ps → HoldsSoFar (decode j) ps
holds_so_far [] j h = tt
holds_so_far (p ∷ ps) j h =
    let at = ap decode h.0 in
    (at, subst (λ (x : Device). HoldsSoFar x ps) (play_hands_on p h.1 h.2 ∙ ap (λ (x : Device). after_items x (items p.trace)) at) (holds_so_far ps (played_part p).image h.3))

-- The day by exported calls alone: from an image that holds a reset device, each trace is added on the image that the play before it left, and then played on.
pub day_by_calls : (i : List ℕ) → decode i ≡ reset → (ps : List Part) → PlayedInTurn i ps → (t a s c : List ℕ) → (beginning t a).number ≡ 0 → AllAdded (beginning t a).bytes ps
    → (summing (added_all (beginning t a).bytes ps) s c).number ≡ 0 → (summing (added_all (beginning t a).bytes ps) s c).bytes ≡ sheet_bytes 8 (row_of (day_from begun (day_items ps))) ++ drop tally_length s
day_by_calls i d ps h t a s c e f g = day_of_traces ps (subst (λ (x : Device). HoldsSoFar x ps) d (holds_so_far ps i h)) t a s c e f g

-- ---- one trace

-- Of one trace, from reset, it is the sheet of that trace (02, C-21), each number in eight bytes.
pub one_trace : (l i : List ℕ) → decode i ≡ reset → (t a b s c : List ℕ) → (beginning t a).number ≡ 0 → (adding l i (beginning t a).bytes b).number ≡ 0
    → (summing (adding l i (beginning t a).bytes b).bytes s c).number ≡ 0 → (summing (adding l i (beginning t a).bytes b).bytes s c).bytes ≡ sheet_bytes 8 (row_of (day_of l)) ++ drop tally_length s
unfolding added_all AllAdded
one_trace l i h t a b s c e f g =
    day_of_traces (record { trace = l; image = i; answers = []; events = []; told = []; answer = b } ∷ []) (h, tt) t a s c e (f, tt) g
    ∙ ap (λ (xs : List Item). sheet_bytes 8 (row_of (day_from begun xs)) ++ drop tally_length s) (append-nil (items l))

-- its rows and the total as 65 rows
abbrev with_total : (ℕ → Row) → ℕ → Row
with_total f n = cond (eqb n 64) (total_below 64 f) (f n)

long_rows : (f : ℕ → Row) → sheet_bytes 8 f ≡ rows_below 8 65 (with_total f)
unfolding rows_below
long_rows f = ap (λ (xs : List ℕ). xs ++ bytes_of_row 8 (total_below 64 f)) (rows_same 8 64 f (with_total f) (λ n p. ap (λ b. cond b (total_below 64 f) (f n)) (sym (ne_eqb n 64 (λ e. omega (arith, e, p))))))

narrow : (x y : ℕ) → x < 2 ^ 32 → y ≡ x → y % 2 ^ 64 ≡ x
narrow x y h e = omega (arith, h, e)

-- Number by number: the eight bytes of each number of that sheet spell what the four bytes of it in the sheet of `pch_pic_sheet` spell; and so of the total.
module _ (l rest : List ℕ) {first k : ℕ} (e : trace_test l ≡ trace.good first k) where
  abbrev long : List ℕ
  long = sheet_bytes 8 (row_of (day_of l)) ++ rest

  at : (n c : ℕ) → n < 65 → c < 10 → numbers_of long n c ≡ column_of (with_total (row_of (day_of l)) n) c % 2 ^ 64
  at n c p q = ap (λ (xs : List ℕ). numbers_of (xs ++ rest) n c) (long_rows (row_of (day_of l))) ∙ number_in (with_total (row_of (day_of l))) rest n c p q

  pub same_numbers : (n : ℕ) → n < 64 → (c : ℕ) → c < 10 → numbers_of long n c ≡ number_of (part (cell_place false n c) 4 (sheet_of l))
  same_numbers n p c q =
      at n c (omega (arith, p)) q
      ∙ narrow _ _ (cell_fits l e n p c q) (ap (λ b. column_of (cond b (total_below 64 (row_of (day_of l))) (row_of (day_of l) n)) c) (ne_eqb n 64 (λ z. omega (arith, z, p))))
      ∙ sym (cell_is_exact l e n p c q)

  pub same_total : (c : ℕ) → c < 10 → numbers_of long 64 c ≡ number_of (part (cell_place false 64 c) 4 (sheet_of l))
  same_total c q = at 64 c (omega arith) q ∙ narrow _ _ (total_fits_too l e c q) refl ∙ sym (total_is_exact l e c q)
