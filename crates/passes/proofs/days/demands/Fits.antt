-- 02, C-21, in exact numbers: every number of the sheet of a good trace is below 2 ^ 32, so that its four bytes tell it.
use Rattle.basics.proofs.Prelude.{◌≡◌, refl, ap, subst, Bool, true, false, List, [], ◌∷◌, ℕ, zero, suc, ◌+◌, ◌*◌, ◌^◌, ◌<◌, ◌≤◌, arith, length, length-append, byte_of, half, test}
use Rattle.passes.proofs.laws.{Passing.no_load_well, Passing.great_few, Days.items_loadless, Days.items_length}
use Rattle.rules.specs.{Lines.Made, Ring.Ring, Core.Core, Core.poll, Core.turns, Access.byte, Access.word, Access.dword, Access.qword, Access.dword_acts, Access.byte_acts, Access.write_acts}
use Rattle.rules.specs.{Account.tally, Device.Call, Device.level, Device.read, Device.write, Device.drain, Device.reset, Device.acts_of, Device.step}
use Rattle.laws.proofs.laws.{Images.reset_well_formed, Losses.acts_few, Losses.dword_short, Losses.byte_short}
use Rattle.plain.specs.{Events.Note, Plain.Engine}
use Rattle.plain.specs.Sequence.{Item, call, load, refused, load_of, takes, ring_with, notes_of, Ported, ported_follows, ported_after}
use Rattle.plain.proofs.demands.History.{same_history}
use Rattle.traces.{specs.Trace.record_count, specs.Trace.good, specs.Trace.trace_test, specs.Played.records, proofs.demands.Told.AllGood, proofs.demands.Told.Means, proofs.demands.Told.test_told}
use Rattle.traces.proofs.demands.Sizes.{few_records}
use Rattle.sheets.specs.{Day.Moment, Day.items, Day.begun, Day.moments, Day.day_of, Waits.End, Waits.begins, Waits.waits, Sheet.Row, Sheet.row_of, Sheet.together, Sheet.total_below}
use Rattle.passes.specs.Slots.{NoLoad}
use Rattle.rules.specs.Device as device

-- ---- how many events a call makes at most

calls_short : (c : Core) (x : Call) → length (acts_of c x) ≤ 8
unfolding acts_of write_acts
calls_short c (level n true) = omega arith
calls_short c (level n false) = omega arith
calls_short c (device.poll n) = omega arith
calls_short c (read w o) = omega arith
calls_short c (write byte o v) = let h = byte_short c o (byte_of v 0) in omega (arith, h)
calls_short c (write word o v) =
    let one = byte_acts c o (byte_of v 0) in
    let two = byte_acts (turns c one).after (o + 1) (byte_of v 1) in
    omega (arith, length-append one two, byte_short c o (byte_of v 0), byte_short (turns c one).after (o + 1) (byte_of v 1))
calls_short c (write dword o v) = let h = dword_short o (half false v) in omega (arith, h)
calls_short c (write qword o v) =
    omega (arith, length-append (dword_acts o (half false v)) (dword_acts (o + 4) (half true v)), dword_short o (half false v), dword_short (o + 4) (half true v))
calls_short c (drain k) = omega arith

notes_length : (k : ℕ) (r : Ring) (ms : List Made) → length (notes_of k r ms) ≡ length ms
unfolding notes_of
notes_length k r [] = refl
notes_length k r (m ∷ ms) = omega (arith, notes_length k (ring_with r m) ms)

history_few : (xs : List Item) (p : Ported) → NoLoad xs → length (ported_after p xs).history ≤ length p.history + 520 * length xs
unfolding ported_after step
history_few [] p l = omega arith
history_few (call c ∷ xs) p l =
    let d = p.device in
    let ms = (turns d.core (acts_of d.core c)).made in
    let new = notes_of p.call d.ring ms in
    omega (arith, history_few xs (ported_follows p (call c)) l, length-append p.history new, notes_length p.call d.ring ms, acts_few d.core (acts_of d.core c), calls_short d.core c)
history_few (load d ∷ xs) p l = absurd l
history_few (refused ∷ xs) p l = omega (arith, history_few xs (ported_follows p refused) l)

-- ---- counts are at most what is counted

tally_few : {A : Type 0} (q : A → Bool) (xs : List A) → tally q xs ≤ length xs
unfolding tally
tally_few q [] = omega arith
tally_few q (x ∷ xs) = test (q x) (λ t. rw t (omega (arith, tally_few q xs))) (λ t. rw t (omega (arith, tally_few q xs)))

moments_length : (xs : List Item) (e : Engine) → length (moments e xs) ≡ length xs
unfolding moments
moments_length [] e = refl
moments_length (x ∷ xs) e = omega (arith, moments_length xs (takes e x).after)

waits_few : (n : ℕ) (ms : List Moment) → length (waits n ms) ≤ length ms
unfolding waits
waits_few n [] = omega arith
waits_few n (m ∷ ms) = test (begins n m) (λ t. rw t (omega (arith, waits_few n ms))) (λ t. rw t (omega (arith, waits_few n ms)))

-- every number of a row
pub record Below (b : ℕ) (r : Row) : Type 0 where
  pub raises : r.raises ≤ b
  pub lowers : r.lowers ≤ b
  pub asserts : r.asserts ≤ b
  pub deasserts : r.deasserts ≤ b
  pub returned : r.returned ≤ b
  pub offered : r.offered ≤ b
  pub dropped : r.dropped ≤ b
  pub withdrawn : r.withdrawn ≤ b
  pub still_open : r.still_open ≤ b

-- events of 4,000 calls at most
abbrev most : ℕ
most = 520 * 4000

module _ (l : List ℕ) {first k : ℕ} (e : trace_test l ≡ good first k) where
  all_good_lem : AllGood l first k
  all_good_lem = subst (Means l) e (test_told l)

  few : length (items l) ≤ 4000
  few = omega (arith, items_length l (record_count l) 0, few_records l all_good_lem.contents)

  loadless : NoLoad (items l)
  loadless = items_loadless (records l)

  events_fit : length (day_of l).history ≤ most
  unfolding begun load_of
  events_fit =
      let h = same_history begun reset reset_well_formed (items l) (no_load_well (items l) loadless) in
      omega (arith, ap length h, history_few (items l) (record { device = reset; call = 0; history = [] }) loadless, few)

  row_below : (n : ℕ) → Below most (row_of (day_of l) n)
  unfolding row_of
  row_below n =
      let ms = (day_of l).moments in
      let hs = (day_of l).history in
      let size : length ms ≤ 4000 = omega (arith, moments_length (items l) begun, few) in
      let counts : (q : Note → Bool) → tally q hs ≤ most = λ q. let h = tally_few q hs in let g = events_fit in omega (arith, h, g) in
      let records-counted : (q : Moment → Bool) → tally q ms ≤ most = λ q. let h = tally_few q ms in omega (arith, h, size) in
      let ended : (q : End → Bool) → tally q (waits n ms) ≤ most = λ q. let h = tally_few q (waits n ms) in let g = waits_few n ms in omega (arith, h, g, size) in
      record {
        raises = records-counted _;
        lowers = records-counted _;
        asserts = counts _;
        deasserts = counts _;
        returned = counts _;
        offered = counts _;
        dropped = counts _;
        withdrawn = ended _;
        still_open = ended _;
      }

  together_below : (a b : ℕ) (x y : Row) → Below a x → Below b y → Below (a + b) (together x y)
  together_below a b x y h g = record {
    raises = omega (arith, h.raises, g.raises);
    lowers = omega (arith, h.lowers, g.lowers);
    asserts = omega (arith, h.asserts, g.asserts);
    deasserts = omega (arith, h.deasserts, g.deasserts);
    returned = omega (arith, h.returned, g.returned);
    offered = omega (arith, h.offered, g.offered);
    dropped = omega (arith, h.dropped, g.dropped);
    withdrawn = omega (arith, h.withdrawn, g.withdrawn);
    still_open = omega (arith, h.still_open, g.still_open);
  }

  total_below_lem : (j : ℕ) → Below (j * most) (total_below j (row_of (day_of l)))
  unfolding total_below
  total_below_lem zero = record { raises = omega arith; lowers = omega arith; asserts = omega arith; deasserts = omega arith; returned = omega arith; offered = omega arith; dropped = omega arith; withdrawn = omega arith; still_open = omega arith }
  total_below_lem (suc j) =
      let z : j * most + most ≡ suc j * most = omega arith in
      subst (λ b. Below b (total_below (suc j) (row_of (day_of l)))) z (together_below (j * most) most (total_below j (row_of (day_of l))) (row_of (day_of l) j) (total_below_lem j) (row_below j))

  great_row : (n : ℕ) → n < 64 → (row_of (day_of l) n).greatest < 2 ^ 32
  great_row n p = let g = great_few (items l) loadless (λ n c. 0) n p in omega (arith, few, g)

  great_total : (j : ℕ) → j ≤ 64 → (total_below j (row_of (day_of l))).greatest < 2 ^ 32
  unfolding total_below
  great_total zero h = omega arith
  great_total (suc j) h = let g = great_row j (omega arith) in let t = great_total j (omega arith) in omega (arith, g, t)

  -- Of a good trace: the counts of each input are at most 2,080,000, those of the total 64 times as many, and the greatest waits fit too.
  pub rows_fit : (n : ℕ) → n < 64 → Below (520 * 4000) (row_of (day_of l) n) × ((row_of (day_of l) n).greatest < 2 ^ 32)
  rows_fit n p = (row_below n, great_row n p)

  pub total_fits : Below (64 * (520 * 4000)) (total_below 64 (row_of (day_of l))) × ((total_below 64 (row_of (day_of l))).greatest < 2 ^ 32)
  total_fits = (total_below_lem 64, great_total 64 (omega arith))
