-- 02, C-19, 'Give the recorder a difference of two numbers': of two events of a history that were made fewer than 32,768 places apart, dropped ones counted, the difference
-- of the numbers with which they are handed back is that of their places in the order of making, and so its sign tells which of them was made first.
use Rattle.basics.proofs.Prelude.{◌≡◌, refl, sym, ap, ap₂, subst, ◌∙◌, List, [], ◌∷◌, ◌++◌, map, append_assoc, ⊎_elim, ℕ, zero, suc, ◌+◌, ◌<◌, ◌≤◌, arith, length, length-append, Bytes, test}
use Rattle.difference.{proofs.OrderOfMaking.of_places, proofs.OrderOfMaking.as_places, specs.Difference.difference_of}
use Rattle.difference.proofs.Integers.{over, under, same, minus, of_<ℤ, to_<ℤ}
use lib.{IntN.ℤ, IntN.pos, IntN.◌-ℤ◌, Signed.◌<ℤ◌}
use Rattle.rules.specs.{Device.Device, Device.Call, Device.up_from, Numbering.Numbers, Numbering.Numbered, History.history}
use Rattle.images.specs.{Form.decided, Image.decode, Image.numbers_in, Image.image_test, Image.accepted}
use Rattle.histories.specs.exported.Exported.{Exported, HandedOn, done_calls, left_after}
use Rattle.order.specs.Fates.{Fate, Fate-discrete, is_returned, is_kept, Placed, events_made, with_fate}
use Rattle.order.specs.Numbered.{number_at, numbered_from, all_from, waiting_with, InOrder}
use Rattle.order.specs.{MadeFirst.Among, MadeFirst.HandedBack, MadeFirst.MadeAfter, MadeFirst.Near, MadeFirst.TellsFirst, MadeFirst.InTheirOrder, Read.returned_read, Read.drained_read}
use Rattle.order.proofs.{laws.Positions.all_positions, demands.OfHistories.none_with, demands.OfCalls.numbers_of_an_image}

-- ---- of two positions

module _ (p q : ℕ) where
  -- The difference of the device's numbers is that of the positions, whatever number the history began with.
  pub difference_of_positions : (start : ℕ) → p < q + 32768 → q < p + 32768 → difference_of (number_at start p) (number_at start q) ≡ pos p -ℤ pos q
  difference_of_positions start l m =
      let h = minus (pos (start + p)) (pos (start + q)) in
      as_places (start + p) (start + q) (omega arith) (omega arith) ∙ same (pos (start + p) -ℤ pos (start + q)) (pos p -ℤ pos q) (omega (arith, h, of_places p q))

  tells_first : (z : ℤ) → z ≡ pos p -ℤ pos q → TellsFirst p q z
  tells_first z e =
      record {
        positive = (
          λ h. let g = of_<ℤ (subst (λ (d : ℤ). pos 0 <ℤ d) e h) in omega (arith, of_places p q),
          λ h. subst (λ (d : ℤ). pos 0 <ℤ d) (sym e) (to_<ℤ (pos 0) (pos p -ℤ pos q) (omega (arith, of_places p q))),
        );
        negative = (
          λ h. let g = of_<ℤ (subst (λ (d : ℤ). d <ℤ pos 0) e h) in omega (arith, of_places p q),
          λ h. subst (λ (d : ℤ). d <ℤ pos 0) (sym e) (to_<ℤ (pos p -ℤ pos q) (pos 0) (omega (arith, of_places p q))),
        );
        none = (
          λ h. let g : pos p -ℤ pos q ≡ pos 0 = sym e ∙ h in omega (arith, of_places p q, ap over g, ap under g),
          λ h. e ∙ same (pos p -ℤ pos q) (pos 0) (omega (arith, of_places p q)),
        );
      }

-- ---- of two events of a history

-- as many were made before an event as its position says
place_is : (p n : ℕ) (us : List Placed) (x : Placed) (vs : List Placed) → map (λ y. y.position) (us ++ (x ∷ vs)) ≡ up_from p n → x.position ≡ p + length us
unfolding up_from
place_is p zero [] x vs e = absurd (let z : ◌≡◌ {A = ℕ} 0 1 = cc in omega arith)
place_is p zero (u ∷ us) x vs e = absurd (let z : ◌≡◌ {A = ℕ} 0 1 = cc in omega arith)
place_is p (suc n) [] x vs e = let h : x.position ≡ p = cc in omega arith
place_is p (suc n) (u ∷ us) x vs e = let h = place_is (suc p) n us x vs cc in omega (arith, h)

module _ (start : ℕ) (d : Device) (cs : List Call) where
  pub number_is : (us : List Placed) (u : Numbered) → MadeAfter start (events_made d cs) us u → u.number ≡ number_at start (length us)
  number_is us u m =
      let places = ap (map (λ (y : Placed). y.position)) (sym m.stands) ∙ all_positions 0 d cs in
      let place : m.event.position ≡ length us = omega (arith, place_is 0 (length (history d cs).made) us m.event m.after places) in
      ap (λ (y : Numbered). y.number) m.is ∙ ap (number_at start) place

  -- Of two events made, one after the events us and the other after the events vs, returned, drained, waiting or dropped: the difference of their numbers is how many
  -- places they are apart, and its sign tells which was made first.
  module _ (us vs : List Placed) (u v : Numbered) (m : MadeAfter start (events_made d cs) us u) (n : MadeAfter start (events_made d cs) vs v) where
    pub difference_of_events : Near (length us) (length vs) → difference_of u.number v.number ≡ pos (length us) -ℤ pos (length vs)
    difference_of_events near =
        ap₂ difference_of (number_is us u m) (number_is vs v n) ∙ difference_of_positions (length us) (length vs) start (omega (arith, near.0)) (omega (arith, near.1))

    pub sign_tells_first : Near (length us) (length vs) → TellsFirst (length us) (length vs) (difference_of u.number v.number)
    sign_tells_first near = tells_first (length us) (length vs) (difference_of u.number v.number) (difference_of_events near)

    -- while at most 32,768 events were made, any two are that near
    pub few_are_near : length (events_made d cs) ≤ 32768 → Near (length us) (length vs)
    few_are_near few =
        let a = ap length m.stands ∙ length-append us (m.event ∷ m.after) in
        let b = ap length n.stands ∙ length-append vs (n.event ∷ n.after) in
        (omega (arith, a, b, few), omega (arith, a, b, few))

-- ---- of two events handed back

no_part : (us : List Numbered) (u : Numbered) (vs : List Numbered) → [] ≡ us ++ (u ∷ vs) → ⊥
no_part [] u vs e = let z : ◌≡◌ {A = ℕ} 0 1 = cc in omega arith
no_part (w ∷ us) u vs e = let z : ◌≡◌ {A = ℕ} 0 1 = cc in omega arith

-- one more was made before
one_more : (start : ℕ) (y : Placed) (xs : List Placed) (u : Numbered) → (before : List Placed) × MadeAfter start xs before u
    → (before : List Placed) × MadeAfter start (y ∷ xs) before u
one_more start y xs u r = (y ∷ r.0, record { event = r.1.event; after = r.1.after; stands = ap (λ l. y ∷ l) r.1.stands; is = r.1.is })

-- one of those with a fate is one of all
made_of : (start : ℕ) (f : Fate) (xs : List Placed) (us : List Numbered) (u : Numbered) (vs : List Numbered) → all_from start (with_fate f xs) ≡ us ++ (u ∷ vs)
    → (before : List Placed) × MadeAfter start xs before u
made_of start f [] us u vs e = absurd (no_part us u vs e)
made_of start f (y ∷ xs) us u vs e =
    test (decided (Fate-discrete f y.fate)) (λ t. first us (λ ws h. made_of start f xs ws u vs h) (rw t at e))
    (λ t. one_more start y xs u (made_of start f xs us u vs (rw t at e)))
  where
    first : (ws : List Numbered) → ((ws : List Numbered) → all_from start (with_fate f xs) ≡ ws ++ (u ∷ vs) → (before : List Placed) × MadeAfter start xs before u)
        → numbered_from start y ∷ all_from start (with_fate f xs) ≡ ws ++ (u ∷ vs) → (before : List Placed) × MadeAfter start (y ∷ xs) before u
    first [] next h = ([], record { event = y; after = xs; stands = refl; is = cc })
    first (w ∷ ws) next h = one_more start y xs u (next ws cc)

-- Where none waited at first, every event that calls handed back is one that they made, with its number: so the two theorems above hold of any two of them.
pub handed_back_was_made : (d : Device) (s : Numbers) (cs : List Call) (back drained : List Numbered) (e : Device) (t : Numbers) → InOrder d s cs back drained e t
    → d.ring.waiting ≡ [] → (u : Numbered) → HandedBack back drained u → (before : List Placed) × MadeAfter s.next (events_made d cs) before u
handed_back_was_made d s cs back drained e t o none u h = ⊎_elim (λ a. returned a) (λ a. was_drained a) h
  where
    returned : Among u back → (before : List Placed) × MadeAfter s.next (events_made d cs) before u
    returned a = made_of s.next is_returned (events_made d cs) a.before u a.after (sym o.returned ∙ a.stands)

    was_drained : Among u drained → (before : List Placed) × MadeAfter s.next (events_made d cs) before u
    was_drained a =
        let kept = all_from s.next (with_fate is_kept (events_made d cs)) in
        made_of s.next is_kept (events_made d cs) a.before u (a.after ++ waiting_with e t)
        (sym (ap (λ l. l ++ kept) (none_with d s none)) ∙ sym o.drained_or_wait ∙ ap (λ l. l ++ waiting_with e t) a.stands ∙ append_assoc a.before (u ∷ a.after) (waiting_with e t))

-- From an accepted image of 290 bytes in which none waits, while at most 32,768 events are made: of any two events that a host reads, returned or drained, the sign of the
-- difference of their numbers tells which was made first.
pub order_restored : (i : List ℕ) → Bytes i → length i ≡ 290 → image_test i ≡ accepted → (decode i).ring.waiting ≡ [] → (xs : List Exported) → HandedOn i xs
    → length (events_made (decode i) (done_calls xs)) ≤ 32768
    → (u v : Numbered) → HandedBack (returned_read xs) (drained_read xs) u → HandedBack (returned_read xs) (drained_read xs) v
    → InTheirOrder (numbers_in i).next (events_made (decode i) (done_calls xs)) u v (difference_of u.number v.number)
order_restored i b l a none xs h few u v p q =
    let d = decode i in
    let s = numbers_in i in
    let cs = done_calls xs in
    let last = left_after i xs in
    let o = numbers_of_an_image i b l a xs h in
    let m = handed_back_was_made d s cs (returned_read xs) (drained_read xs) (decode last) (numbers_in last) o none u p in
    let n = handed_back_was_made d s cs (returned_read xs) (drained_read xs) (decode last) (numbers_in last) o none v q in
    record {
      before_first = m.0;
      before_second = n.0;
      first = m.1;
      second = n.1;
      tells = sign_tells_first s.next d cs m.0 n.0 u v m.1 n.1 (few_are_near s.next d cs m.0 n.0 u v m.1 n.1 few);
    }
