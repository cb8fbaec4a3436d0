-- 02, C-19, of calls of the device one after another: the numbers handed back, returned and drained, are the positions in the order of making modulo 65,536, from
-- the number that the history began with.
use Rattle.basics.proofs.Prelude.{◌≡◌, refl, sym, ap, ap₂, ◌∙◌, List, [], ◌∷◌, ◌++◌, map, map-append, append-nil, append_assoc, ℕ, ◌+◌, ◌-◌, ◌%◌, ◌^◌, ◌<◌, arith, length, length-append, length-map}
use Rattle.rules.specs.Device.{Device, WellFormed, Call, step}
use Rattle.rules.specs.{Numbering.Numbers, Numbering.WellNumbered, Numbering.Numbered, Numbering.with_numbers, Numbering.numbers_after, Numbering.drained_with, History.history}
use Rattle.rules.proofs.{laws.Numbered.fits, demands.Numbered.numbers_with}
use Rattle.histories.{specs.exported.Exported.numbers_through, proofs.laws.WellFormed.step_well, proofs.exported.laws.Chains.through_numbered}
use Rattle.order.specs.Fates.{is_returned, is_kept, Placed, placed, placed_from, events_made, with_fate}
use Rattle.order.specs.Numbered.{number_at, all_from, returned_through, drained_through, waiting_with, InOrder}
use Rattle.order.proofs.laws.{Positions.first_number, Positions.all_events, Positions.all_positions, Positions.from_append, Standing.Stands, Standing.call_stands, Standing.call_waits}
use Rattle.order.proofs.laws.{Returned.call_returns, Counted.counted, Counted.missing_ones}

-- ---- from position p on

module _ (start : ℕ) where
  returns : (p : ℕ) (d : Device) (s : Numbers) (cs : List Call) → WellFormed d → Stands start p d.ring s
      → returned_through d s cs ≡ all_from start (with_fate is_returned (placed_from p d cs))
  unfolding returned_through placed_from
  returns p d s [] w h = refl
  returns p d s (c ∷ cs) w h =
      let one = step d c in
      let q = p + length one.made in
      ap₂ ◌++◌ (call_returns start p d w s h c) (returns q one.after (numbers_after d s c) cs (step_well d c w) (call_stands start p d s h c))
      ∙ sym (from_append start is_returned (placed p d.ring one.made) (placed_from q one.after cs))

  waits : (p : ℕ) (d : Device) (s : Numbers) (cs : List Call) → Stands start p d.ring s
      → drained_through d s cs ++ waiting_with (history d cs).after (numbers_through d s cs) ≡ waiting_with d s ++ all_from start (with_fate is_kept (placed_from p d cs))
  unfolding drained_through placed_from history numbers_through
  waits p d s [] h = sym (append-nil (waiting_with d s))
  waits p d s (c ∷ cs) h =
      let one = step d c in
      let q = p + length one.made in
      let t = numbers_after d s c in
      let made = all_from start (with_fate is_kept (placed p d.ring one.made)) in
      let rest = all_from start (with_fate is_kept (placed_from q one.after cs)) in
      append_assoc (drained_with d s c) (drained_through one.after t cs) (waiting_with (history one.after cs).after (numbers_through one.after t cs))
      ∙ ap (λ l. drained_with d s c ++ l) (waits q one.after t cs (call_stands start p d s h c))
      ∙ sym (append_assoc (drained_with d s c) (waiting_with one.after t) rest) ∙ ap (λ l. l ++ rest) (call_waits start p d s h c)
      ∙ append_assoc (waiting_with d s) made rest
      ∙ ap (λ l. waiting_with d s ++ l) (sym (from_append start is_kept (placed p d.ring one.made) (placed_from q one.after cs)))

  next_is : (p : ℕ) (d : Device) (s : Numbers) (cs : List Call) → Stands start p d.ring s → (numbers_through d s cs).next ≡ number_at start (p + length (history d cs).made)
  unfolding history numbers_through
  next_is p d s [] h = let same : p ≡ p + 0 = omega arith in h.next ∙ ap (number_at start) same
  next_is p d s (c ∷ cs) h =
      let one = step d c in
      let two = history one.after cs in
      let many : p + length one.made + length two.made ≡ p + length (one.made ++ two.made) = omega (arith, length-append one.made two.made) in
      next_is (p + length one.made) one.after (numbers_after d s c) cs (call_stands start p d s h c) ∙ ap (number_at start) many

-- ---- the whole history

made_length : (d : Device) (cs : List Call) → length (events_made d cs) ≡ length (history d cs).made
made_length d cs = sym (length-map (events_made d cs) (λ (x : Placed). x.event)) ∙ ap length (all_events 0 d cs)

pub none_with : (d : Device) (s : Numbers) → d.ring.waiting ≡ [] → waiting_with d s ≡ []
none_with d s e = ap (λ es. with_numbers es s.waiting) e

-- what is counted and what is missing follows from the others
in_order : (d : Device) (s : Numbers) (cs : List Call) (back drained : List Numbered) (e : Device) (t : Numbers)
    → back ≡ all_from s.next (with_fate is_returned (events_made d cs))
    → drained ++ waiting_with e t ≡ waiting_with d s ++ all_from s.next (with_fate is_kept (events_made d cs))
    → length t.waiting ≡ length e.ring.waiting → t.next ≡ number_at s.next (length (events_made d cs)) → InOrder d s cs back drained e t
in_order d s cs back drained e t r w p n =
    record {
      returned = r;
      drained_or_wait = w;
      paired = p;
      next = n;
      account = λ q. omega (arith, counted s.next (events_made d cs) back drained (waiting_with e t) (waiting_with d s) r w q);
      missing = λ none few x.
          missing_ones s.next (events_made d cs) back drained (waiting_with e t) (waiting_with d s) r w (none_with d s none) 0 (length (history d cs).made) (all_positions 0 d cs)
          (omega (arith, made_length d cs, few)) x;
    }

-- From any device with any numbers that fit it, over any calls: all that is returned, drained and waiting at last has the numbers of its positions.
pub numbers_are_positions : (d : Device) → WellFormed d → (s : Numbers) → WellNumbered d s → (cs : List Call)
    → InOrder d s cs (returned_through d s cs) (drained_through d s cs) (history d cs).after (numbers_through d s cs)
numbers_are_positions d w s v cs =
    let h : Stands s.next 0 d.ring s = record { next = first_number s.next v.next; fits = fits v } in
    let plus : 0 + length (history d cs).made ≡ length (events_made d cs) = omega (arith, made_length d cs) in
    in_order d s cs (returned_through d s cs) (drained_through d s cs) (history d cs).after (numbers_through d s cs) (returns s.next 0 d s cs w h)
    (waits s.next 0 d s cs h) (through_numbered d s cs v).waiting (next_is s.next 0 d s cs h ∙ ap (number_at s.next) plus)

-- ---- the numbers alone

numbers_of : (start : ℕ) (xs : List Placed) → map (λ x. x.number) (all_from start xs) ≡ map (λ x. number_at start x.position) xs
numbers_of start [] = refl
numbers_of start (x ∷ xs) = ap (λ l. number_at start x.position ∷ l) (numbers_of start xs)

module _ (d : Device) (s : Numbers) (cs : List Call) (back drained : List Numbered) (e : Device) (t : Numbers) (o : InOrder d s cs back drained e t) where
  -- The numbers returned are those of the positions of the events returned, in order.
  pub numbers_returned : map (λ x. x.number) back ≡ map (λ x. number_at s.next x.position) (with_fate is_returned (events_made d cs))
  numbers_returned = ap (map (λ (x : Numbered). x.number)) o.returned ∙ numbers_of s.next (with_fate is_returned (events_made d cs))

  -- The numbers drained, and then those that wait at last, are those that waited at first, and then those of the positions of the events kept.
  pub numbers_drained : WellNumbered d s
      → map (λ x. x.number) drained ++ t.waiting ≡ s.waiting ++ map (λ x. number_at s.next x.position) (with_fate is_kept (events_made d cs))
  numbers_drained v =
      let number : Numbered → ℕ = λ x. x.number in
      let kept = with_fate is_kept (events_made d cs) in
      ap (λ l. map number drained ++ l) (sym (numbers_with e.ring.waiting t.waiting (sym o.paired)))
      ∙ sym (map-append number drained (waiting_with e t)) ∙ ap (map number) o.drained_or_wait ∙ map-append number (waiting_with d s) (all_from s.next kept)
      ∙ ap₂ ◌++◌ (numbers_with d.ring.waiting s.waiting (sym v.waiting)) (numbers_of s.next kept)

-- ---- the order restored

-- Of at most 65,536 events the number tells the position: it is later minus first, modulo 65,536.
pub position_restored : (start p : ℕ) → start < 2 ^ 16 → p < 65536 → (number_at start p + 65536 - start) % 65536 ≡ p
position_restored start p h k = omega arith
