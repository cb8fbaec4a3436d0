-- 02, C-21: a wait is withdrawn by CLEAR or a lowering, and by nothing else. That is said of the record (`takes_back`); here it is seen at the latch. While a wait lasts its input
-- is latched, and the record that takes it back is the one that leaves the latch off.
use Rattle.basics.proofs.Prelude.{◌≡◌, refl, sym, ap, ◌∙◌, true, false, not, and-eq-true_iff, not-false, true≢false, List, [], ◌∷◌, map, ℕ, ◌+◌, ◌<◌, ◌≤◌, arith, length, on, test}
use Rattle.rules.{specs.Device.WellFormed, specs.Device.Call, specs.Device.reset, specs.Device.step, specs.Device.up_from}
use Rattle.laws.proofs.laws.Images.{reset_well_formed}
use Rattle.histories.proofs.laws.WellFormed.{step_well}
use Rattle.plain.specs.{Machine.Machine, Plain.Engine, Sequence.Item, Sequence.call, Sequence.load, Sequence.refused, Sequence.takes, Sequence.plain_after}
use Rattle.plain.proofs.laws.{Same.Run, Same.Same, Following.stepped, Following.counted_run, Following.like_call, Following.sized, Following.same_counted, Following.loaded_run}
use Rattle.traces.specs.Played.{records}
use Rattle.sheets.specs.{Day.begun, Day.Moment, Day.after, Day.number, Day.moments, Day.items, Day.day_of, Sheet.row_of}
use Rattle.sheets.specs.Waits.{moves_level, is_idle, begins, asserts, takes_it, takes_back, End, still_open, is_open, end_from}
use Rattle.passes.specs.Slots.{NoLoad}
use Rattle.passes.proofs.laws.{Recording.latch_told, Recording.raise_told, Passing.same_begun, Passing.open_few, Days.items_loadless}

-- ---- the engine beside the device

record Reached (e : Engine) : Type 0 where
  run : Run
  same : Same e run
  well : WellFormed run.device

abbrev reached_call : (e : Engine) (c : Call) → Reached e → Reached (takes e (call c)).after
reached_call e c h = record { run = stepped h.run c; same = (like_call e h.run h.same (sized h.well) c).after; well = step_well h.run.device c h.well }

abbrev reached_refused : (e : Engine) → Reached e → Reached (takes e refused).after
reached_refused e h = record { run = counted_run h.run; same = same_counted e h.run h.same; well = h.well }

reached : (xs : List Item) (e : Engine) → NoLoad xs → Reached e → Reached (plain_after e xs)
unfolding plain_after
reached [] e l h = h
reached (call c ∷ xs) e l h = reached xs (takes e (call c)).after l (reached_call e c h)
reached (load d ∷ xs) e l h = absurd l
reached (refused ∷ xs) e l h = reached xs (takes e refused).after l (reached_refused e h)

reached_begun : Reached begun
reached_begun = record { run = loaded_run reset; same = same_begun; well = reset_well_formed }

-- ---- records and their numbers

numbers_from : (xs : List Item) (e : Engine) → NoLoad xs → Reached e → map number (moments e xs) ≡ up_from e.call (length xs)
unfolding moments up_from
numbers_from [] e l h = refl
numbers_from (call c ∷ xs) e l h =
    let next = reached_call e c h in
    ap (λ (ns : List ℕ). e.call ∷ ns) (numbers_from xs (takes e (call c)).after l next ∙ ap (λ k. up_from k (length xs)) (next.same.call ∙ ap (λ k. k + 1) (sym h.same.call) ∙ omega arith))
numbers_from (load d ∷ xs) e l h = absurd l
numbers_from (refused ∷ xs) e l h = ap (λ (ns : List ℕ). e.call ∷ ns) (numbers_from xs (takes e refused).after l (reached_refused e h) ∙ ap (λ k. up_from k (length xs)) (omega arith))

-- Record k of a trace has the number k.
pub record_k_is_k : (l : List ℕ) → map number (day_of l).moments ≡ up_from 0 (length (items l))
unfolding begun
record_k_is_k l = numbers_from (items l) begun (items_loadless (records l)) reached_begun

module _ (n : ℕ) (below : n < 64) where
  abbrev moment : Engine → Item → Moment
  moment e x = record { before = e; item = x }

  -- the latch of the plain engine is that of the device
  latch_is : (e : Engine) (h : Reached e) → (e.machines n).latched ≡ on h.run.device.core.lines.irr n
  latch_is e h = ap (λ (m : Machine). m.latched) (h.same.machine n below)

  after_told : (e : Engine) (c : Call) (h : Reached e) → not (on (step h.run.device c).after.core.lines.irr n) ≡ takes_it n c → takes_it n c ≡ not ((takes e (call c)).after.machines n).latched
  after_told e c h t = sym (ap not (latch_is (takes e (call c)).after (reached_call e c h)) ∙ t)

  taken_at : (e : Engine) (x : Item) → NoLoad (x ∷ []) → Reached e → (e.machines n).latched ≡ true → takes_back n (moment e x) ≡ not ((after (moment e x)).machines n).latched
  taken_at e (call c) l h u = after_told e c h (latch_told n below 0 h.run.device c (sym (latch_is e h) ∙ u))
  taken_at e (load d) l h u = absurd l
  taken_at e refused l h u = sym (ap not u)

  -- After any calls and refused records from reset, of an input that is latched then: the next record takes its wait back exactly if it leaves the latch off.
  pub taken_back_by : (xs : List Item) → NoLoad xs → (x : Item) → NoLoad (x ∷ []) → let e = plain_after begun xs in
      (e.machines n).latched ≡ true → takes_back n (moment e x) ≡ not ((after (moment e x)).machines n).latched
  taken_back_by xs l x k = taken_at (plain_after begun xs) x k (reached xs begun l reached_begun)

  -- ---- while a wait lasts

  not_open : {w : End} → is_open w ≡ false → w ≡ still_open → ⊥
  not_open f e = true≢false (sym (ap is_open e) ∙ f)

  -- a record that neither asserts n nor takes its wait back leaves it latched
  lasts_latched : (xs : List Item) (e : Engine) → NoLoad xs → Reached e → (e.machines n).latched ≡ true → (k : ℕ) → end_from n k (moments e xs) ≡ still_open
      → ((plain_after e xs).machines n).latched ≡ true
  unfolding plain_after moments end_from
  lasts_latched [] e l h u k o = u
  lasts_latched (call c ∷ xs) e l h u k o =
      let m = moment e (call c) in
      test (asserts n m) (λ t. absurd (not_open refl (rw t at o)))
      (λ t. test (takes_it n c) (λ v. absurd (not_open refl (rw (t, v) at o)))
      (λ v. lasts_latched xs (takes e (call c)).after l (reached_call e c h) (not-false _ (sym (taken_at e (call c) tt h u) ∙ v)) k (rw (t, v) at o)))
  lasts_latched (load d ∷ xs) e l h u k o = absurd l
  lasts_latched (refused ∷ xs) e l h u k o =
      test (asserts n (moment e refused)) (λ t. absurd (not_open refl (rw t at o))) (λ t. lasts_latched xs (takes e refused).after l (reached_refused e h) u k (rw t at o))

  -- A wait begins at the call c, after any calls and refused records, and is open after the records xs. Then its input is latched.
  pub open_is_latched : (before : List Item) → NoLoad before → (c : Call) (xs : List Item) → NoLoad xs → let e = plain_after begun before in
      begins n (moment e (call c)) ≡ true → end_from n (number (moment e (call c))) (moments e (call c ∷ xs)) ≡ still_open
      → ((plain_after e (call c ∷ xs)).machines n).latched ≡ true
  unfolding plain_after moments end_from
  open_is_latched before l c xs k b o =
      let e = plain_after begun before in
      let h = reached before begun l reached_begun in
      let told = after_told e c h (raise_told n below 0 h.run.device c ((and-eq-true_iff (moves_level n true c) (is_idle n e)).0 b).0) in
      test (asserts n (moment e (call c))) (λ t. absurd (not_open refl (rw t at o)))
      (λ t. test (takes_it n c) (λ v. absurd (not_open refl (rw (t, v) at o)))
      (λ v. lasts_latched xs (takes e (call c)).after k (reached_call e c h) (not-false _ (sym told ∙ v)) e.call (rw (t, v) at o)))

  -- At the end of a trace at most one wait of an input is open.
  pub one_open : (l : List ℕ) → (row_of (day_of l) n).still_open ≤ 1
  one_open l = open_few (items l) (items_loadless (records l)) (λ i c. 0) n below
