-- From the call without board to the call with one: what the proofs of the exported calls cite.
use Rattle.basics.proofs.Prelude.{◌≡◌, refl, sym, ap, ◌∙◌, true, false, cond, and-false, List, ℕ, ◌<◌, ◌≤◌, arith, leb, length, set, get_or, replicate, length-replicate, le-leb, lt-leb, eq-eqb, Bytes, test}
use Rattle.rules.specs.{Device.reset, Device.some, Numbering.from_zero}
use Rattle.images.specs.{Form.Form, Image.image_test, Image.accepted, Image.decode, Image.encode_as}
use Rattle.calls.specs.Calls.{Request, Asked, afresh, calls, asked_by, answered, buffer_of, place_of, Outcome, leaves, Ending, ending, outcome}
use Rattle.calls.proofs.laws.Outcomes.{room}
use Rattle.histories.specs.exported.Exported.{Exported, left_by, is_done, is_reset, at_load}
use Rattle.histories.proofs.exported.{laws.Chains.reset_leaves, laws.Chains.done_accepted, demands.LeavesAccepted.leaves_accepted}
use Rattle.boards.specs.Boarding.{board_leaves, board_after, boarding, heard_count, hears, hearing}
use Rattle.laws.proofs.laws.Images.{accepted_encode, decode_encode, reset_well_formed, reset_numbered}

-- ---- the image that a done call leaves is accepted

abbrev area : List ℕ
area = replicate 16 0

-- the call as a host makes it, with any answer area
abbrev call_on : Request → List ℕ → Exported
call_on q i = record { given = i; asked = q; answer = area }

module _ (q : Request) (i : List ℕ) (within : place_of q ≤ length (buffer_of q)) (e : Ending) (is : e ≡ ending q i) (z : e.number ≡ 0) where
  left : leaves e.number e.image (answered e.number e.value area) e.events ≡ left_by (call_on q i)
  left = room q i area (omega (arith, length-replicate {A = ℕ} 16 0)) within e is refl

  image_is : (left_by (call_on q i)).image ≡ e.image
  image_is = sym (ap (λ (o : Outcome). o.image) left)

  done : is_done (call_on q i) ≡ true
  done = eq-eqb (left_by (call_on q i)).number 0 (sym (ap (λ (o : Outcome). o.number) left) ∙ z)

  -- a reset leaves the image of the reset device, in some form
  reset_image : asked_by q ≡ afresh → (f : Form) × (e.image ≡ encode_as f reset (from_zero 0))
  reset_image a = let r = reset_leaves (call_on q i) done a in (r.0, sym image_is ∙ r.2)

  pub reset_device : asked_by q ≡ afresh → decode e.image ≡ reset
  reset_device a = let r = reset_image a in ap decode r.1 ∙ decode_encode reset reset_well_formed (from_zero 0) reset_numbered r.0

  pub done_leaves_accepted : Bytes i → image_test e.image ≡ accepted
  done_leaves_accepted b = go (asked_by q) refl
    where
      go : (k : Asked) → asked_by q ≡ k → image_test e.image ≡ accepted
      go afresh a = let r = reset_image a in ap image_test r.1 ∙ accepted_encode reset reset_well_formed (from_zero 0) reset_numbered r.0
      go (calls u) a =
          let no : is_reset (asked_by q) ≡ false = ap is_reset a in
          ap image_test (sym image_is) ∙ (leaves_accepted i b (done_accepted (at_load i) (call_on q i) done no) q no area).1

-- ---- a call with a board

module _ (q : Request) (i b a : List ℕ) where
  -- with room, the board is as the number and the image left say
  pub board_with_room : 256 ≤ length b → {n m : ℕ} {j c e d : List ℕ} → leaves n j c e ≡ outcome q i a → n ≡ m → d ≡ board_after m j b → board_leaves n j d c e ≡ boarding q i b a
  unfolding boarding
  board_with_room roomy {n} {j} {c} {e} o same s =
      (λ t. board_leaves n j (s t) c e) ∙ (λ t. board_leaves n j (board_after (sym same t) j b) c e) ∙ (λ t. record { call = o t; board = board_after (o t).number (o t).image b })
      ∙ rw (le-leb 256 (length b) roomy)

  -- 7: a board that is too short, and what the call without board answers by 7
  pub board_short : length b < 256 → boarding q i b a ≡ board_leaves 7 i b a (buffer_of q)
  unfolding boarding
  board_short h = rw (lt-leb 256 (length b) h)

  pub seven_first : outcome q i a ≡ leaves 7 i a (buffer_of q) → boarding q i b a ≡ board_leaves 7 i b a (buffer_of q)
  unfolding boarding
  seven_first o =
      (λ t. cond (leb 256 (length b)) (record { call = o t; board = board_after (o t).number (o t).image b }) (board_leaves 7 i b a (buffer_of q)))
      ∙ test (leb 256 (length b)) (λ r. rw r) (λ r. rw r)

-- ---- an event

module _ (b : List ℕ) (v f : ℕ) (a : List ℕ) where
  pub heard_with_room : 16 ≤ length a → 256 ≤ length b → {n k : ℕ} {d c : List ℕ} → n ≡ 0 → k ≡ heard_count f (get_or b v 0) → d ≡ set b v k → c ≡ answered 0 (some k) a
      → hears n d c ≡ hearing b v f a
  unfolding hearing
  heard_with_room roomy wide {n} {k} e h s t =
      (λ u. hears (e u) (s u) (t u)) ∙ (λ u. hears 0 (set b v (h u)) (answered 0 (some (h u)) a)) ∙ rw (le-leb 16 (length a) roomy, le-leb 256 (length b) wide)

  pub heard_answer_short : length a < 16 → hearing b v f a ≡ hears 7 b a
  unfolding hearing
  heard_answer_short h = rw (lt-leb 16 (length a) h)

  pub heard_board_short : length b < 256 → hearing b v f a ≡ hears 7 b a
  unfolding hearing
  heard_board_short h = rw (lt-leb 256 (length b) h, and-false)
