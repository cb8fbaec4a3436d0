-- What one exported call leaves of a board: done, the fresh counts of the image left; refused, the board; and every byte past the first 256.
use Rattle.basics.proofs.Prelude.{◌≡◌, sym, ap, ◌∙◌, Bool, true, false, cond, List, ℕ, ◌≤◌, arith, length, take, drop, length-append, length-drop, take_at, drop_at, le-leb, test}
use Rattle.rules.specs.{Core.Core, Account.carrying}
use Rattle.images.specs.Image.{decode}
use Rattle.histories.specs.exported.Exported.{Exported, left_by, is_done, is_load, Underway, carried_on, in_image, Faithful}
use Rattle.histories.proofs.exported.laws.Chains.{handed, carried_refused}
use Rattle.boards.specs.{Board.recount, Board.brought_by, Board.kept_on, Boarding.board_leaves, Boarding.recounted, Boarding.boarding, Boarding.board_by}
use Rattle.calls.specs.Calls.{refusal_number, no_room, buffer_of}
use Rattle.boards.proofs.laws.Counts.{counts_length, brought_right}

-- ---- fresh counts in front of a board

module _ (c : Core) (b : List ℕ) where
  pub front_recounted : take 256 (recounted c b) ≡ recount c
  front_recounted = take_at (recount c) (drop 256 b) 256 (counts_length (λ v. carrying v c))

  past_recounted : drop 256 (recounted c b) ≡ drop 256 b
  past_recounted = drop_at (recount c) (drop 256 b) 256 (counts_length (λ v. carrying v c))

  length_recounted : 256 ≤ length b → length (recounted c b) ≡ length b
  length_recounted h = omega (arith, length-append (recount c) (drop 256 b), counts_length (λ v. carrying v c), length-drop 256 b)

-- ---- one call

module _ (x : Exported) (b : List ℕ) (room : 256 ≤ length b) where
  -- it is the call without board
  pub call_is : (boarding x.asked x.given b x.answer).call ≡ left_by x
  unfolding boarding
  call_is = rw (le-leb 256 (length b) room)

  -- the board, by whether there is room and whether the call is done
  abbrev ruled : (room done : Bool) → List ℕ
  ruled r t =
      let i = (left_by x).image in
      (cond r (record { call = left_by x; board = cond t (recounted (decode i).core b) b }) (board_leaves (refusal_number no_room) x.given b x.answer (buffer_of x.asked))).board

  pub board_done : is_done x ≡ true → board_by x b ≡ recounted (decode (left_by x).image).core b
  unfolding boarding
  board_done t i = ruled (le-leb 256 (length b) room i) (t i)

  pub board_refused : is_done x ≡ false → board_by x b ≡ b
  unfolding boarding
  board_refused t i = ruled (le-leb 256 (length b) room i) (t i)

  pub board_past : drop 256 (board_by x b) ≡ drop 256 b
  board_past =
      test (is_done x) (λ t. ap (drop 256) (board_done t) ∙ past_recounted (decode (left_by x).image).core b) (λ t. ap (drop 256) (board_refused t))

  pub board_length : length (board_by x b) ≡ length b
  board_length =
      test (is_done x) (λ t. ap length (board_done t) ∙ length_recounted (decode (left_by x).image).core b room) (λ t. ap length (board_refused t))

-- ---- beside a history under way

module _ (h : Underway) (x : Exported) where
  pub done_left : is_done x ≡ true → (carried_on h x).left ≡ (left_by x).image
  unfolding carried_on
  done_left t = rw t

  -- the board that an exported call leaves is right for the image left last, where the board was right before or the call is done
  pub board_right : (b : List ℕ) → 256 ≤ length b → take 256 b ≡ recount (in_image h).core → take 256 (board_by x b) ≡ recount (in_image (carried_on h x)).core
  board_right b room e =
      test (is_done x)
      (λ t. ap (take 256) (board_done x b room t) ∙ front_recounted (decode (left_by x).image).core b ∙ ap (λ i. recount (decode i).core) (sym (done_left t)))
      (λ t. ap (take 256) (board_refused x b room t) ∙ e ∙ ap (λ (u : Underway). recount (in_image u).core) (sym (carried_refused h x t)))

  -- the board kept, by whether the call is done and whether it is a load
  abbrev kept_as : (done load : Bool) → List ℕ → List ℕ
  kept_as t n b =
      let after = (decode (left_by x).image).core in
      cond t (cond n (recount after) (brought_by (decode x.given).core after b)) b

  -- a load counts anew; a call that is none takes away and adds
  pub load_counts_anew : (b : List ℕ) → is_done x ≡ true → is_load h.left x ≡ true → kept_on h x b ≡ recount (decode (left_by x).image).core
  unfolding kept_on
  load_counts_anew b t n i = kept_as (t i) (n i) b

  call_brings : (b : List ℕ) → is_done x ≡ true → is_load h.left x ≡ false → kept_on h x b ≡ brought_by (decode x.given).core (decode (left_by x).image).core b
  unfolding kept_on
  call_brings b t n i = kept_as (t i) (n i) b

  refused_keeps : (b : List ℕ) → is_done x ≡ false → kept_on h x b ≡ b
  unfolding kept_on
  refused_keeps b t i = kept_as (t i) (is_load h.left x) b

  -- so the board kept beside the state stays right
  pub kept_right : Faithful h → (b : List ℕ) → b ≡ recount (in_image h).core → kept_on h x b ≡ recount (in_image (carried_on h x)).core
  kept_right f b e =
      test (is_done x)
      (λ t.
      let after = (decode (left_by x).image).core in
      test (is_load h.left x) (λ n. load_counts_anew b t n)
      (λ n.
      call_brings b t n ∙ ap (λ i. brought_by (decode i).core after b) (handed h x f t n).given ∙ ap (brought_by (in_image h).core after) e
      ∙ brought_right (in_image h).core after)
      ∙ ap (λ i. recount (decode i).core) (sym (done_left t)))
      (λ t. refused_keeps b t ∙ e ∙ ap (λ (u : Underway). recount (in_image u).core) (sym (carried_refused h x t)))
