-- 02, C-19, what the header advises a recorder: sorted by pch_pic_difference from one of them, events stand in the order of making, in whatever order they were collected, where at most 32,768 were made from the
-- oldest to the newest. Of whatever events of one history; and of those that exported calls hand back.
use Rattle.basics.proofs.Prelude.{◌≡◌, refl, sym, ap, subst, ◌∙◌, List, [], ◌∷◌, ◌++◌, map, ℕ, zero, suc, ◌+◌, ◌-◌, ◌<◌, ◌≤◌, arith, length, take, take_at, length-append, length-map, Bytes, test}
use Rattle.rules.specs.{Device.up_from, Numbering.Numbered, History.history}
use Rattle.images.specs.Image.{decode, numbers_in, image_test, accepted}
use Rattle.histories.specs.exported.Exported.{Exported, HandedOn, done_calls, left_after}
use Rattle.histories.specs.exported.Forms.{HoldsNumbers}
use Rattle.order.specs.Fates.{Fate, is_returned, is_kept, is_dropped, Placed, events_made, with_fate}
use Rattle.order.specs.{Numbered.NoneWaits, Numbered.number_at, Numbered.numbered_from, Numbered.all_from, Numbered.waiting_with, MadeFirst.Near, MadeFirst.Few, MadeFirst.HandedBack, Read.returned_read, Read.drained_read}
use Rattle.order.specs.Sorted.{Rearranged, same, behind, both, not_ahead, by_difference, is_out, still_drained, handed_back_of}
use Rattle.order.proofs.laws.{Positions.all_positions, Sorting.in_front_lem, Sorting.Above, Sorting.Rising, Sorting.sort_restores, Distances.distance, Distances.distance_tells, Distances.distance_at}
use Rattle.order.proofs.demands.{OfHistories.none_with, OfCalls.numbers_of_an_image, MadeFirst.number_is, MadeFirst.handed_back_was_made}

-- ---- of events of one history

-- positions over n, and positions that rise; each near the position q, fewer than 32,768 off
abbrev pub PositionsOver : ℕ → List Placed → Type 0
PositionsOver n [] = Unit {0}
PositionsOver n (x ∷ xs) = (n < x.position) × PositionsOver n xs

abbrev pub PositionsRise : List Placed → Type 0
PositionsRise [] = Unit {0}
PositionsRise (x ∷ xs) = PositionsOver x.position xs × PositionsRise xs

abbrev pub AllNear : ℕ → List Placed → Type 0
AllNear q [] = Unit {0}
AllNear q (x ∷ xs) = Near x.position q × AllNear q xs

module _ (start q : ℕ) where
  abbrev from : ℕ
  from = number_at start q

  abbrev key_of : Numbered → ℕ
  key_of x = distance from x.number

  above : (p : ℕ) → p < q + 32768 → q < p + 32768 → (xs : List Placed) → PositionsOver p xs → AllNear q xs → Above (not_ahead from) key_of (distance_tells from) (distance from (number_at start p)) (all_from start xs)
  above p l m [] o n = tt
  above p l m (x ∷ xs) o n = (omega (arith, distance_at start p q l m, distance_at start x.position q n.0.0 n.0.1, o.0, m), above p l m xs o.1 n.1)

  rises : (xs : List Placed) → PositionsRise xs → AllNear q xs → Rising (not_ahead from) key_of (distance_tells from) (all_from start xs)
  rises [] r n = tt
  rises (x ∷ xs) r n = (above x.position n.0.0 n.0.1 xs r.0 n.1, rises xs r.1 n.1)

  -- Events in the order of making, each fewer than 32,768 positions from that at q: in whatever order they were collected, sorted by the difference of their numbers from that of q they stand in the order of making.
  pub sorted_by_difference : (xs : List Placed) → PositionsRise xs → AllNear q xs → (es : List Numbered) → Rearranged es (all_from start xs) → by_difference from es ≡ all_from start xs
  sorted_by_difference xs r n es a = sort_restores (not_ahead from) key_of (distance_tells from) a (rises xs r n)

-- ---- of what was handed back

-- the events returned, and the first m of those kept, are the events handed back in another order
out_of_two : (start m : ℕ) (xs : List Placed)
    → Rearranged (all_from start (with_fate is_returned xs) ++ take m (all_from start (with_fate is_kept xs))) (all_from start (handed_back_of m xs))
unfolding handed_back_of
out_of_two start zero [] = same
out_of_two start (suc m) [] = same
out_of_two start m (x ∷ xs) = go x.fate refl m (λ k. out_of_two start k xs)
  where
    go : (f : Fate) → x.fate ≡ f → (m : ℕ)
        → ((k : ℕ) → Rearranged (all_from start (with_fate is_returned xs) ++ take k (all_from start (with_fate is_kept xs))) (all_from start (handed_back_of k xs)))
        → Rearranged (all_from start (with_fate is_returned (x ∷ xs)) ++ take m (all_from start (with_fate is_kept (x ∷ xs)))) (all_from start (handed_back_of m (x ∷ xs)))
    go is_returned t m later = rw t (behind (later m))
    go is_kept t zero later = rw t (later 0)
    go is_kept t (suc m) later = rw t (both (in_front_lem (all_from start (with_fate is_returned xs)) (numbered_from start x) (take m (all_from start (with_fate is_kept xs)))) (behind (later m)))
    go is_dropped t m later = rw t (later m)

-- of events whose positions run on from p, those handed back rise, and are near any that is among so few
out_over : (n p k m : ℕ) (xs : List Placed) → map (λ x. x.position) xs ≡ up_from p k → n < p → PositionsOver n (handed_back_of m xs)
unfolding handed_back_of up_from
out_over n p k m [] e h = tt
out_over n p zero m (x ∷ xs) e h = absurd (let z : ◌≡◌ {A = ℕ} 0 1 = cc in omega arith)
out_over n p (suc k) m (x ∷ xs) e h =
    let at : x.position ≡ p = cc in
    let later = out_over n (suc p) k (still_drained x.fate m) xs (cc) (omega arith) in
    test (is_out x.fate m) (λ t. rw t (omega (arith, at, h), later)) (λ t. rw t later)

out_rise : (p k m : ℕ) (xs : List Placed) → map (λ x. x.position) xs ≡ up_from p k → PositionsRise (handed_back_of m xs)
unfolding handed_back_of up_from
out_rise p k m [] e = tt
out_rise p zero m (x ∷ xs) e = absurd (let z : ◌≡◌ {A = ℕ} 0 1 = cc in omega arith)
out_rise p (suc k) m (x ∷ xs) e =
    let at : x.position ≡ p = cc in
    let later = out_rise (suc p) k (still_drained x.fate m) xs cc in
    test (is_out x.fate m) (λ t. rw t (out_over x.position (suc p) k (still_drained x.fate m) xs (cc) (omega (arith, at)), later)) (λ t. rw t later)

out_near : (q p k m : ℕ) (xs : List Placed) → map (λ x. x.position) xs ≡ up_from p k → p + k ≤ 32768 → q < 32768 → AllNear q (handed_back_of m xs)
unfolding handed_back_of up_from
out_near q p k m [] e l h = tt
out_near q p zero m (x ∷ xs) e l h = absurd (let z : ◌≡◌ {A = ℕ} 0 1 = cc in omega arith)
out_near q p (suc k) m (x ∷ xs) e l h =
    let at : x.position ≡ p = cc in
    let later = out_near q (suc p) k (still_drained x.fate m) xs (cc) (omega arith) h in
    test (is_out x.fate m) (λ t. rw t ((omega (arith, at, l), omega (arith, at, h)), later)) (λ t. rw t later)

up_length : (p k : ℕ) → length (up_from p k) ≡ k
unfolding up_from
up_length p zero = refl
up_length p (suc k) = ap suc (up_length (suc p) k)

-- ---- of exported calls

-- Calls each given the image that the one before it left, none a reset, on an accepted image of 290 bytes in which none waits, while at most 32,768 events are made: the events that a host reads, returned and drained, in whatever order it collected them, sorted by pch_pic_difference
-- from any one of them, stand in the order of making.
pub difference_restores_the_order : (i : List ℕ) → Bytes i → HoldsNumbers i → image_test i ≡ accepted → NoneWaits (decode i) → (xs : List Exported) → HandedOn i xs
    → let made = events_made (decode i) (done_calls xs) in
    Few made → (u : Numbered) → HandedBack (returned_read xs) (drained_read xs) u
    → (es : List Numbered) → Rearranged es (returned_read xs ++ drained_read xs)
    → by_difference u.number es ≡ all_from (numbers_in i).next (handed_back_of (length (drained_read xs)) made)
difference_restores_the_order i b l a none xs h few u back es r =
    let d = decode i in
    let s = numbers_in i in
    let cs = done_calls xs in
    let made = events_made d cs in
    let start = s.next in
    let last = left_after i xs in
    let m = length (drained_read xs) in
    let o = numbers_of_an_image i b l a xs h in
    let was = handed_back_was_made d s cs (returned_read xs) (drained_read xs) (decode last) (numbers_in last) o none u back in
    let before = was.0 in
    let its_number : u.number ≡ number_at start (length before) = number_is start d cs before u was.1 in
    let size : length made ≡ length before + suc (length was.1.after) = ap length was.1.stands ∙ length-append before (was.1.event ∷ was.1.after) in
    let places : map (λ (y : Placed). y.position) made ≡ up_from 0 (length (history d cs).made) = all_positions 0 d cs in
    let all : length made ≡ length (history d cs).made = sym (length-map made (λ (y : Placed). y.position)) ∙ ap length places ∙ up_length 0 (length (history d cs).made) in
    let kept : drained_read xs ++ waiting_with (decode last) (numbers_in last) ≡ all_from start (with_fate is_kept made) =
    o.drained_or_wait ∙ ap (λ w. w ++ all_from start (with_fate is_kept made)) (none_with d s none) in
    let drained : drained_read xs ≡ take m (all_from start (with_fate is_kept made)) = sym (ap (take m) (sym kept) ∙ take_at (drained_read xs) (waiting_with (decode last) (numbers_in last)) m refl) in
    let joined : returned_read xs ++ drained_read xs ≡ all_from start (with_fate is_returned made) ++ take m (all_from start (with_fate is_kept made)) = (λ t. o.returned t ++ drained t) in
    let arranged = both (subst (Rearranged es) joined r) (out_of_two start m made) in
    let n = length (history d cs).made in
    ap (λ k. by_difference k es) its_number
    ∙ sorted_by_difference start (length before) (handed_back_of m made) (out_rise 0 n m made places) (out_near (length before) 0 n m made places (omega (arith, all, few)) (omega (arith, size, few))) es arranged
