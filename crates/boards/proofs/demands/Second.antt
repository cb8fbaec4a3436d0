-- 02, C-20, of exported calls: 'From reset, with demand 3's premises met, everything drained and nothing dropped, a second board driven by returned and drained events alone,
-- in the order of making, ends equal to the first. C-19's numbers, kept in the fifth body, give that order while the history has at most 65,536 events; show both.'
use Rattle.basics.proofs.Prelude.{◌≡◌, refl, sym, ap, ap₂, subst, ◌∙◌, true, List, [], ◌∷◌, ◌++◌, map, append-nil, ℕ, zero, suc, ◌+◌, ◌<◌, ◌≤◌, arith, lit≤, length, take}
use Rattle.order.proofs.demands.OfCalls.{fifth_body, numbers_of_calls}
use Rattle.order.specs.{Fates.is_returned, Fates.is_kept, Fates.is_dropped, Fates.Placed, Fates.events_made, Fates.with_fate, Numbered.number_at, Numbered.all_from, Numbered.numbered_from, Numbered.InOrder}
use Rattle.order.specs.Read.{returned_read, drained_read}
use Rattle.order.proofs.demands.{Made.placed_as_made, Made.positions_in_order, Made.returned_by_fate, Made.kept_by_fate, Made.dropped_by_fate, OfHistories.none_with}
use Rattle.rules.specs.{Device.Device, Device.Call, Device.reset, Device.up_from, Numbering.Numbers, Numbering.Numbered, Numbering.from_zero, Numbering.events_in, History.history, History.from_reset}
use Rattle.images.specs.{Form.Form, Form.form_length, Image.numbers_in}
use Rattle.calls.specs.Calls.{afresh, asked_by, AnswerRoom}
use Rattle.histories.specs.{Premises.Along, Premises.Admitted, Demands.as_event}
use Rattle.histories.specs.exported.Exported.{Exported, is_done, Underway, carried_on, carried_through, NoLoads, done_calls, in_image, after_reset, returned_by, drained_by}
use Rattle.histories.specs.exported.Forms.{HoldsNumbers}
use Rattle.histories.proofs.demands.Order.{first_in_first_out, drops_counted}
use Rattle.histories.proofs.exported.laws.Chains.{left_length, left_holds, faithful_after_reset}
use Rattle.histories.proofs.exported.demands.{FromCalls.a_reset_begins, FromCalls.image_holds_history, FromCalls.image_holds_numbers, HandedBack.returned_is_read, HandedBack.drained_is_read}
use Rattle.boards.specs.{Board.recount, Board.WholeBoard, Boarding.board_through, Hearing.blank, Hearing.heard_through, Hearing.in_order_of_making, Hearing.Complete, Hearing.most_in_order, Hearing.Interleaves, Hearing.by_number, Collected.AllRead}
use Rattle.order.specs.Sorted.{Rearranged, both}
use Rattle.boards.proofs.laws.Completed.{in_order_exactly, all_read_if_as_many, complete_if_all}
use Rattle.boards.proofs.{laws.Heard.heard_from_reset, laws.Arranged.interleaves_map, laws.Arranged.by_fate, laws.Arranged.interleaved_rearranged, laws.Arranged.rearranged_back, laws.Arranged.sorted_restored, demands.Kept.board_from_a_done_call}

none_of : {A B : Type 0} (f : A → B) (xs : List A) → length (map f xs) ≡ 0 → xs ≡ []
none_of f [] e = refl
none_of f (x ∷ xs) e = absurd (omega arith)

map_twice : {A B C : Type 0} (f : A → B) (g : B → C) (xs : List A) → map (λ x. g (f x)) xs ≡ map g (map f xs)
map_twice f g [] = refl
map_twice f g (x ∷ xs) = ap (λ l. g (f x) ∷ l) (map_twice f g xs)

-- ---- from a reset of any form

module _ (f : Form) (xs : List Exported) (w : AllRead (after_reset f) xs) where
  abbrev cs : List Call
  cs = done_calls xs

  abbrev made : List Placed
  made = events_made reset cs

  comes : in_image (carried_through (after_reset f) xs) ≡ (from_reset cs).after
  unfolding history
  comes = image_holds_history (after_reset f) (faithful_after_reset f) xs w.no_loads

  none_dropped_lem : with_fate is_dropped made ≡ []
  none_dropped_lem =
      let drops : (from_reset cs).after.ring.drops ≡ 0 = ap (λ (d : Device). d.ring.drops) (sym comes) ∙ w.none_dropped in
      none_of (λ (x : Placed). as_event x.event) (with_fate is_dropped made) (omega (arith, drops_counted reset cs (lit≤ tt), drops, ap length (dropped_by_fate reset cs)))

  none_wait : (from_reset cs).after.ring.waiting ≡ []
  none_wait = ap (λ (d : Device). d.ring.waiting) (sym comes) ∙ w.all_drained

  read_returned : returned_by xs ≡ map (λ x. as_event x.event) (with_fate is_returned made)
  unfolding history
  read_returned = returned_is_read (after_reset f) (faithful_after_reset f) xs w.no_loads ∙ sym (returned_by_fate reset cs)

  read_drained : drained_by xs ≡ map (λ x. as_event x.event) (with_fate is_kept made)
  unfolding history
  read_drained =
      drained_is_read (after_reset f) (faithful_after_reset f) xs w.no_loads ∙ sym (append-nil (from_reset cs).drained)
      ∙ ap (λ l. (from_reset cs).drained ++ l) (sym none_wait) ∙ sym (first_in_first_out reset cs) ∙ sym (kept_by_fate reset cs)

  all_made : map (λ x. as_event x.event) made ≡ in_order_of_making cs
  all_made = map_twice (λ (x : Placed). x.event) as_event made ∙ ap (map as_event) (placed_as_made reset cs)

  handed_back : Interleaves (returned_by xs) (drained_by xs) (in_order_of_making cs)
  handed_back =
      subst (Interleaves (returned_by xs) (drained_by xs)) all_made
      (subst (λ l. Interleaves l (drained_by xs) (map (λ (x : Placed). as_event x.event) made)) (sym read_returned)
      (subst (λ l. Interleaves (map (λ (x : Placed). as_event x.event) (with_fate is_returned made)) l (map (λ (x : Placed). as_event x.event) made)) (sym read_drained)
      (interleaves_map (λ (x : Placed). as_event x.event) (by_fate made none_dropped_lem))))

  heard : (a : List ℕ) → AnswerRoom a → Along Admitted reset cs → heard_through a blank (in_order_of_making cs) ≡ recount (in_image (carried_through (after_reset f) xs)).core
  heard a area admitted = heard_from_reset a area cs admitted ∙ ap (λ (d : Device). recount d.core) (sym comes)

-- ---- by the numbers of the fifth body

-- of at most 65,536 events from reset the number is the position
numbers_of : (p k : ℕ) (xs : List Placed) → map (λ x. x.position) xs ≡ up_from p k → p + k ≤ most_in_order → map (λ x. x.number) (all_from 0 xs) ≡ up_from p k
unfolding up_from
numbers_of p zero [] e h = refl
numbers_of p (suc k) [] e h = absurd (let z : ◌≡◌ {A = ℕ} 0 1 = cc in omega arith)
numbers_of p zero (x ∷ xs) e h = absurd (let z : ◌≡◌ {A = ℕ} 0 1 = cc in omega arith)
numbers_of p (suc k) (x ∷ xs) e h =
    let place : x.position ≡ p = cc in
    let same : number_at 0 x.position ≡ p = ap (number_at 0) place ∙ (in_order_exactly p).0 (omega arith) in
    ap₂ ◌∷◌ same (numbers_of (suc p) k xs (cc) (omega arith))

module _ (f : Form) (long : form_length f ≡ 290) (xs : List Exported) (w : AllRead (after_reset f) xs) where
  abbrev last : Underway
  last = carried_through (after_reset f) xs

  in_order : InOrder reset (from_zero 0) (done_calls xs) (returned_read xs) (drained_read xs) (in_image last) (numbers_in last.left)
  unfolding history faithful_after_reset
  in_order =
      let h = after_reset f in
      let g = faithful_after_reset f in
      let order : Device → Numbers → Type 0 = λ d s. InOrder d s (done_calls xs) (returned_read xs) (drained_read xs) (in_image last) (numbers_in last.left) in
      subst (order reset) (image_holds_numbers h g (fifth_body f long))
      (subst (λ d. order d (numbers_in h.left)) (left_holds h g) (numbers_of_calls h g (left_length h g ∙ long) xs w.no_loads))

  -- the events handed back, with their numbers, are those made, each with the number of its position
  numbered_back : Interleaves (returned_read xs) (drained_read xs) (all_from 0 (events_made reset (done_calls xs)))
  numbered_back =
      let made = events_made reset (done_calls xs) in
      let drained = sym (append-nil (drained_read xs)) ∙ ap (λ l. drained_read xs ++ l) (sym (none_with (in_image last) (numbers_in last.left) w.all_drained)) ∙ in_order.drained_or_wait in
      subst (λ l. Interleaves l (drained_read xs) (all_from 0 made)) (sym in_order.returned)
      (subst (λ l. Interleaves (all_from 0 (with_fate is_returned made)) l (all_from 0 made)) (sym drained) (interleaves_map (numbered_from 0) (by_fate made (none_dropped_lem f xs w))))

  restored : length (from_reset (done_calls xs)).made ≤ most_in_order → (es : List Numbered) → Rearranged es (returned_read xs ++ drained_read xs)
      → events_in (by_number es) ≡ in_order_of_making (done_calls xs)
  restored few es r =
      let made = events_made reset (done_calls xs) in
      let n = length (from_reset (done_calls xs)).made in
      ap events_in (sorted_restored (both r (interleaved_rearranged numbered_back)) 0 n (numbers_of 0 n made (positions_in_order reset (done_calls xs)) (omega (arith, few))))
      ∙ sym (map_twice (numbered_from 0) (λ (x : Numbered). x.event) made) ∙ all_made f xs w

-- ---- the premises

-- 'Everything drained and nothing dropped' asks no more than its words: it holds wherever the events that a host reads are as many as were made.
pub read_if_as_many : (f : Form) (xs : List Exported) → NoLoads (after_reset f) xs → length (returned_by xs) + length (drained_by xs) ≡ length (in_order_of_making (done_calls xs)) → AllRead (after_reset f) xs
read_if_as_many = all_read_if_as_many

-- 'Everything drained and nothing dropped' is no more than it says: it holds wherever the events that a host reads are as many as were made.
pub complete_exactly : (f : Form) (xs : List Exported) → NoLoads (after_reset f) xs → Along Admitted reset (done_calls xs)
    → length (returned_by xs) + length (drained_by xs) ≡ length (in_order_of_making (done_calls xs)) → Complete (after_reset f) xs
complete_exactly = complete_if_all

-- 'At most 65,536 events' is no more than it says: from a reset the number of an event is its position exactly while so many were made.
pub number_is_position : (p : ℕ) → (p < most_in_order → number_at 0 p ≡ p) × (number_at 0 p ≡ p → p < most_in_order)
number_is_position = in_order_exactly

-- ---- the theorems

-- x is a done reset, whatever was under way, and xs are exported calls after it, refused ones among them, that are no loads and leave an image in which none waits and the drop count is 0.
module _ (h : Underway) (x : Exported) (a : asked_by x.asked ≡ afresh) (t : is_done x ≡ true) (xs : List Exported) (w : AllRead (carried_on h x) xs) where
  started : (f : Form) × (length x.given ≡ form_length f) × (carried_on h x ≡ after_reset f)
  started = let r = a_reset_begins h x a t in (r.0, r.1, r.3)

  read_all : AllRead (after_reset started.0) xs
  read_all = subst (λ u. AllRead u xs) started.2 w

  -- The events that a host reads, returned and drained, are all that were made, each once: put in the order of making, they are these events alone.
  pub all_handed_back : Interleaves (returned_by xs) (drained_by xs) (in_order_of_making (done_calls xs))
  all_handed_back = handed_back started.0 xs read_all

  -- With the fifth body, while at most 65,536 events are made: in whatever order they were collected, by rising number the events handed back stand in the order of making.
  pub numbers_restore_the_order : HoldsNumbers x.given → length (from_reset (done_calls xs)).made ≤ most_in_order → (es : List Numbered) → Rearranged es (returned_read xs ++ drained_read xs)
      → events_in (by_number es) ≡ in_order_of_making (done_calls xs)
  numbers_restore_the_order long few es r = restored started.0 (sym started.1 ∙ long) xs read_all few es r

-- so many premises as demand 3 has
read_of : {u : Underway} {xs : List Exported} → Complete u xs → AllRead u xs
read_of w = record { no_loads = w.no_loads; all_drained = w.all_drained; none_dropped = w.none_dropped }

-- x is a done reset, whatever was under way, and xs are exported calls after it, refused ones among them, that are no loads, meet demand 3's premises, and leave an
-- image in which none waits and the drop count is 0.
module _ (h : Underway) (x : Exported) (a : asked_by x.asked ≡ afresh) (t : is_done x ≡ true) (xs : List Exported) (w : Complete (carried_on h x) xs) where
  begun : (f : Form) × (length x.given ≡ form_length f) × (carried_on h x ≡ after_reset f)
  begun = let r = a_reset_begins h x a t in (r.0, r.1, r.3)

  whole : Complete (after_reset begun.0) xs
  whole = subst (λ u. Complete u xs) begun.2 w

  -- The events that a host reads, returned and drained, are all that were made, each once: put in the order of making, they are these events alone.
  pub handed_back_are_all : Interleaves (returned_by xs) (drained_by xs) (in_order_of_making (done_calls xs))
  handed_back_are_all = all_handed_back h x a t xs (read_of w)

  -- The first board, kept by the exported calls from the reset on, whatever it held before; the second, blank at first, that hears these events in the order of making,
  -- by an exported call for each: at the end both are equal.
  pub second_equals_first : (b : List ℕ) → 256 ≤ length b → (area : List ℕ) → 16 ≤ length area
      → heard_through area blank (in_order_of_making (done_calls xs)) ≡ take 256 (board_through b (x ∷ xs))
  unfolding carried_through
  second_equals_first b room area sixteen =
      heard begun.0 xs (read_of whole) area sixteen whole.admitted ∙ ap (λ u. recount (in_image (carried_through u xs)).core) (sym begun.2) ∙ sym (board_from_a_done_call h b room x t xs)

  -- With the fifth body, while at most 65,536 events are made: collected in whatever order, as long as each list keeps its own, by rising number the events handed back
  -- stand in the order of making.
  module _ (long : length x.given ≡ 290) (few : length (from_reset (done_calls xs)).made ≤ most_in_order) (es : List Numbered) (i : Interleaves (returned_read xs) (drained_read xs) es) where
    pub numbers_give_the_order : events_in (by_number es) ≡ in_order_of_making (done_calls xs)
    numbers_give_the_order = numbers_restore_the_order h x a t xs (read_of w) long few es (rearranged_back (interleaved_rearranged i))

    -- So a second board that hears them by rising number ends equal to the first.
    pub by_number_equals_first : (b : List ℕ) → 256 ≤ length b → (area : List ℕ) → 16 ≤ length area
        → heard_through area blank (events_in (by_number es)) ≡ take 256 (board_through b (x ∷ xs))
    by_number_equals_first b room area sixteen = ap (heard_through area blank) numbers_give_the_order ∙ second_equals_first b room area sixteen

  -- And so does one that hears them so in whatever order they were collected.
  pub any_order_equals_first : HoldsNumbers x.given → length (from_reset (done_calls xs)).made ≤ most_in_order → (es : List Numbered) → Rearranged es (returned_read xs ++ drained_read xs)
      → (b : List ℕ) → WholeBoard b → (area : List ℕ) → AnswerRoom area → heard_through area blank (events_in (by_number es)) ≡ take 256 (board_through b (x ∷ xs))
  any_order_equals_first long few es r b room area sixteen =
      ap (heard_through area blank) (numbers_restore_the_order h x a t xs (read_of w) long few es r) ∙ second_equals_first b room area sixteen
