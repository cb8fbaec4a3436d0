-- 02, C-20, of exported calls: 'After any sequence each count equals a fresh recount, and a call other than a load changes only counts of vectors that some input with a
-- changed ISR bit or vector byte carried before or carries after.'
use Rattle.basics.proofs.Prelude.{◌≡◌, refl, sym, ap, subst, ◌∙◌, ⊎_elim, Bool, true, false, cond, not, ◌&&◌, ◌||◌, neither, List, [], ◌∷◌, ℕ, ◌<◌, ◌≤◌, arith, leb, length, take, drop, get_or, get_or-take, leb-true, not-false, same, same_equal, test}
use Rattle.rules.specs.{Core.Core, Device.Device, Account.carrying, History.history}
use Rattle.images.specs.Image.{decode}
use Rattle.calls.specs.Calls.{refusal_number, no_room, afresh, asked_by, buffer_of}
use Rattle.histories.specs.exported.Exported.{Exported, left_by, is_done, is_reset, is_load, Underway, carried_on, carried_through, GivenBytes, in_image, Faithful, after_reset}
use Rattle.histories.proofs.exported.{laws.Chains.handed, laws.Chains.faithful_on, laws.Chains.faithful_after_reset, laws.Chains.left_holds, demands.FromCalls.a_reset_begins}
use Rattle.boards.specs.{Board.recount, Board.WholeBoard, Board.RightFor, Board.kept_on, Board.kept_through, Board.Touching, Boarding.Boarded, Boarding.board_leaves, Boarding.board_after, Boarding.boarding, Boarding.board_by, Boarding.board_through, Hearing.blank}
use Rattle.boards.proofs.laws.Counts.{counts_get, touching_or_same}
use Rattle.boards.proofs.laws.Boards.{call_is, board_done, board_refused, board_past, board_length, front_recounted, done_left, board_right, kept_right}
use Rattle.boards.proofs.laws.Heard.{blank_right}

-- ---- one call

-- A call with a board of at least 256 bytes is in every other byte the call without.
pub with_a_board_as_without : (x : Exported) (b : List ℕ) → 256 ≤ length b → (boarding x.asked x.given b x.answer).call ≡ left_by x
with_a_board_as_without = call_is

-- Done, it leaves the fresh counts of the image that it leaves, whatever the board held.
pub done_counts_afresh : (x : Exported) (b : List ℕ) → 256 ≤ length b → is_done x ≡ true → take 256 (board_by x b) ≡ recount (decode (left_by x).image).core
done_counts_afresh x b room t = ap (take 256) (board_done x b room t) ∙ front_recounted (decode (left_by x).image).core b

-- ---- after any sequence

-- Exported calls, loads, resets and refused ones among them, each lent the board that the one before it left: where the board was right for the image left at first, it is
-- right for the image left last.
pub board_is_recount : (h : Underway) (b : List ℕ) → 256 ≤ length b → take 256 b ≡ recount (in_image h).core → (xs : List Exported)
    → take 256 (board_through b xs) ≡ recount (in_image (carried_through h xs)).core
unfolding board_through carried_through
board_is_recount h b room e [] = e
board_is_recount h b room e (x ∷ xs) =
    board_is_recount (carried_on h x) (board_by x b) (subst (λ n. 256 ≤ n) (sym (board_length x b room)) room) (board_right h x b room e) xs

-- And from the first done call on it is right, whatever it held before, since a done call counts afresh.
pub board_from_a_done_call : (h : Underway) (b : List ℕ) → 256 ≤ length b → (x : Exported) → is_done x ≡ true → (xs : List Exported)
    → take 256 (board_through b (x ∷ xs)) ≡ recount (in_image (carried_through h (x ∷ xs))).core
unfolding board_through carried_through
board_from_a_done_call h b room x t xs =
    board_is_recount (carried_on h x) (board_by x b) (subst (λ n. 256 ≤ n) (sym (board_length x b room)) room)
    (done_counts_afresh x b room t ∙ ap (λ i. recount (decode i).core) (sym (done_left h x t))) xs

-- Bytes past the first 256 stay.
pub bytes_past_stay : (b : List ℕ) → 256 ≤ length b → (xs : List Exported) → drop 256 (board_through b xs) ≡ drop 256 b
unfolding board_through
bytes_past_stay b room [] = refl
bytes_past_stay b room (x ∷ xs) = bytes_past_stay (board_by x b) (subst (λ n. 256 ≤ n) (sym (board_length x b room)) room) xs ∙ board_past x b room

-- The board kept beside the state, by what each call takes away and adds and by counting anew at a load, equals a fresh recount too: so both are one.
pub kept_is_recount : (h : Underway) → Faithful h → (b : List ℕ) → b ≡ recount (in_image h).core → (xs : List Exported) → GivenBytes xs
    → kept_through h b xs ≡ recount (in_image (carried_through h xs)).core
unfolding kept_through carried_through
kept_is_recount h f b e [] g = e
kept_is_recount h f b e (x ∷ xs) g = kept_is_recount (carried_on h x) (faithful_on h x f (λ l. g.0)) (kept_on h x b) (kept_right h x f b e) xs g.1

pub both_are_one : (h : Underway) → Faithful h → (b : List ℕ) → 256 ≤ length b → take 256 b ≡ recount (in_image h).core → (xs : List Exported) → GivenBytes xs
    → take 256 (board_through b xs) ≡ kept_through h (take 256 b) xs
both_are_one h f b room e xs g = board_is_recount h b room e xs ∙ sym (kept_is_recount h f (take 256 b) e xs g)

-- From a done reset on the kept board begins as 256 zeros.
pub kept_from_reset : (h : Underway) (x : Exported) → asked_by x.asked ≡ afresh → is_done x ≡ true → (xs : List Exported) → GivenBytes xs
    → kept_through (carried_on h x) blank xs ≡ recount (in_image (carried_through h (x ∷ xs))).core
unfolding carried_through history
kept_from_reset h x a t xs g =
    let r = a_reset_begins h x a t in
    let f = r.0 in
    let right = blank_right ∙ ap (λ (d : Device). recount d.core) (sym (left_holds (after_reset f) (faithful_after_reset f))) in
    subst (λ u. kept_through u blank xs ≡ recount (in_image (carried_through u xs)).core) (sym r.3) (kept_is_recount (after_reset f) (faithful_after_reset f) blank right xs g)

-- Its length stays.
through_length : (b : List ℕ) → WholeBoard b → (xs : List Exported) → length (board_through b xs) ≡ length b
unfolding board_through
through_length b room [] = refl
through_length b room (x ∷ xs) = through_length (board_by x b) (subst (λ n. 256 ≤ n) (sym (board_length x b room)) room) xs ∙ board_length x b room

-- ---- what a call changes

changed_count : (b c : Core) (k l v : ℕ) → k ≡ carrying v b → l ≡ carrying v c → (l ≡ k → ⊥) → Touching v b c
changed_count b c k l v p q n = ⊎_elim (λ t. t) (λ same. absurd (n (q ∙ same ∙ sym p))) (touching_or_same v b c)

-- the count of v in a board that is right for a core
count_of : (b : List ℕ) (c : Core) → RightFor c b → (v : ℕ) → v < 256 → get_or b v 0 ≡ carrying v c
count_of b c e v h = sym (get_or-take 256 b v 0 h) ∙ ap (λ l. get_or l v 0) e ∙ counts_get (λ u. carrying u c) v h

-- Of a board that is right for the image given: where a call changes the count of v, some input with a changed ISR bit or vector byte carried v in the image given, or
-- carries it in the image left.
pub only_touched_change : (x : Exported) (b : List ℕ) → 256 ≤ length b → take 256 b ≡ recount (decode x.given).core → (v : ℕ) → v < 256
    → (get_or (board_by x b) v 0 ≡ get_or b v 0 → ⊥) → Touching v (decode x.given).core (decode (left_by x).image).core
only_touched_change x b room e v h n =
    let before = (decode x.given).core in
    let after = (decode (left_by x).image).core in
    test (is_done x)
    (λ t. changed_count before after (get_or b v 0) (get_or (board_by x b) v 0) v (count_of b before e v h) (count_of (board_by x b) after (done_counts_afresh x b room t) v h) n)
    (λ t. absurd (n (ap (λ l. get_or l v 0) (board_refused x b room t))))

-- So in any history: a call that is no load changes, of a board that is right for the image left last, only such counts; and so does the board kept beside the state.
module _ (h : Underway) (f : Faithful h) (x : Exported) (no : is_load h.left x ≡ false) (v : ℕ) (below : v < 256) where
  pub call_changes_only_touched : (b : List ℕ) → 256 ≤ length b → take 256 b ≡ recount (in_image h).core → (get_or (board_by x b) v 0 ≡ get_or b v 0 → ⊥)
      → Touching v (in_image h).core (decode (left_by x).image).core
  call_changes_only_touched b room e n =
      test (is_done x)
      (λ t. let g = (handed h x f t no).given in
      subst (λ i. Touching v (decode i).core (decode (left_by x).image).core) g
      (only_touched_change x b room (subst (λ i. take 256 b ≡ recount (decode i).core) (sym g) e) v below n))
      (λ t. absurd (n (ap (λ l. get_or l v 0) (board_refused x b room t))))

  pub kept_changes_only_touched : (b : List ℕ) → b ≡ recount (in_image h).core → (get_or (kept_on h x b) v 0 ≡ get_or b v 0 → ⊥)
      → Touching v (in_image h).core (in_image (carried_on h x)).core
  kept_changes_only_touched b e n =
      let count : (l : List ℕ) (c : Core) → l ≡ recount c → get_or l v 0 ≡ carrying v c = λ l c q. ap (λ k. get_or k v 0) q ∙ counts_get (λ u. carrying u c) v below in
      let before = (in_image h).core in
      let after = (in_image (carried_on h x)).core in
      changed_count before after (get_or b v 0) (get_or (kept_on h x b) v 0) v (count b before e) (count (kept_on h x b) after (kept_right h x f b e)) n

-- ---- and no premise on the board

-- under 256 bytes every call with a board is refused, and leaves it
short_stays : (x : Exported) (b : List ℕ) → leb 256 (length b) ≡ false → board_by x b ≡ b
unfolding boarding
short_stays x b e =
    let room : Bool → Boarded = λ r.
    cond r (record { call = left_by x; board = board_after (left_by x).number (left_by x).image b }) (board_leaves (refusal_number no_room) x.given b x.answer (buffer_of x.asked)) in
    ap (λ r. (room r).board) e

short_through : (b : List ℕ) → leb 256 (length b) ≡ false → (xs : List Exported) → board_through b xs ≡ b
unfolding board_through
short_through b e [] = refl
short_through b e (x ∷ xs) = ap (λ c. board_through c xs) (short_stays x b e) ∙ short_through b e xs

-- a done call that is no load is given the image left last
given_last : (h : Underway) (x : Exported) → is_done x ≡ true → is_load h.left x ≡ false → x.given ≡ h.left
given_last h x t unloaded =
    let neither-way : (is_reset (asked_by x.asked) || not (same h.left x.given)) ≡ false = sym (ap (λ d. d && (is_reset (asked_by x.asked) || not (same h.left x.given))) t) ∙ unloaded in
    sym (same_equal h.left x.given (not-false (same h.left x.given) (neither (is_reset (asked_by x.asked)) (not (same h.left x.given)) neither-way).1))

module _ (h : Underway) (b : List ℕ) (x : Exported) (t : is_done x ≡ true) (xs : List Exported) (y : Exported) (v : ℕ) (below : v < 256) where
  -- the history and the board after them
  abbrev under : Underway
  under = carried_through h (x ∷ xs)

  abbrev board : List ℕ
  board = board_through b (x ∷ xs)

  -- A first done call x, a reset say, on whatever board and whatever was under way; any calls xs, loads, resets and refused ones among them; and then a call y that is no load. Where it changes the count of v,
  -- some input with a changed ISR bit or vector byte carried v in the image left before it, or carries it in the image that it leaves.
  pub next_changes_only_touched : is_load under.left y ≡ false → (get_or (board_by y board) v 0 ≡ get_or board v 0 → ⊥) → Touching v (in_image under).core (decode (left_by y).image).core
  next_changes_only_touched unloaded n = test (leb 256 (length b)) (λ l. roomy (leb-true 256 (length b) l)) (λ l. absurd (n (ap (λ c. get_or c v 0) (stays l))))
    where
      stays : leb 256 (length b) ≡ false → board_by y board ≡ board
      stays l =
          let e = short_through b l (x ∷ xs) in
          ap (board_by y) e ∙ short_stays y b l ∙ sym e

      roomy : WholeBoard b → Touching v (in_image under).core (decode (left_by y).image).core
      roomy room =
          let long : WholeBoard board = rw (through_length b room (x ∷ xs)) room in
          test (is_done y)
          (λ d. let g = given_last under y d unloaded in
          subst (λ i. Touching v (decode i).core (decode (left_by y).image).core) g
          (only_touched_change y board long (board_from_a_done_call h b room x t xs ∙ ap (λ i. recount (decode i).core) (sym g)) v below n))
          (λ d. absurd (n (ap (λ l. get_or l v 0) (board_refused y board long d))))
