-- The numbers that a play hands back, from a reset and on from an image, each exactly when (02, C-11), by their table in specs/Refusals.antt; and what a refused play leaves (00, demand 1).
use Rattle.basics.proofs.Prelude.{◌≡◌, refl, ap, ◌∙◌, Bool, false, and-false, List, [], ◌∷◌, ◌⊎◌, inl, inr, ⊎_elim, ℕ, ◌*◌, ◌<◌, leb, length, le-leb, leb-true, leb-false, lt-leb, test}
use Rattle.images.specs.Form.{Form, form_length}
use Rattle.calls.specs.{Calls.image_number, Calls.image_value, Calls.answer_length, Untouched.Left, Untouched.left, Untouched.Untouched, Calls.AnswerRoom, Untouched.IsDone}
use Rattle.calls.specs.Reasons.{OfImage, bad_length, bad_head, bad_body, OfTrace, bad_contents, bad_at, Reason, short_room, of_image, of_request, of_trace, of_profile, none_left, of_tally, test_of, reason_number, reason_value, told_for, NoneOf, refused_for, Refuses, ByNumber}
use Rattle.laws.specs.{Wrong.Found, Refusals.OfReset}
use Rattle.laws.proofs.demands.Found.{found_exactly, accepted_exactly, no_form, has_form, by_image, by_length, not_both, a_form}
use Rattle.traces.specs.{Trace.record_count, Trace.first_place, Trace.good, Trace.trace_test, Played.drain_room, Played.records, Played.afresh}
use Rattle.traces.specs.plays.Playing.{drains_in, play_room, PlayTest, refused, plays, trace_left, length_left, play_test, image_left, play_on_test, PlayLeft, playing, playing_on}
use Rattle.traces.specs.Refusals.{IsTrace, play_left, NoPlayRoom, PlayRows, PlayGiven, PlayOnGiven}
use Rattle.traces.proofs.{demands.Told.test_of_trace, demands.Told.trace_exactly, demands.Told.is_good_lem, demands.Told.by_trace, plays.laws.Ways.left_if, plays.laws.Ways.by_room}
use Rattle.calls.proofs.laws.Tables as tables
use Rattle.traces.proofs.plays.laws.Computed as computed

-- ---- one proof for both

module _ (l b i bs es a : List ℕ) where
  abbrev lent : List (List ℕ)
  lent = i ∷ bs ∷ es ∷ []

  room_is : play_room l bs es ≡ false → NoPlayRoom l bs es
  room_is e =
      test (leb (answer_length * record_count l) (length bs)) (λ t. inr (leb-false (drain_room * drains_in (records l)) (length es) (rw t at e))) (λ t. inl (leb-false (answer_length * record_count l) (length bs) t))

  is_room : NoPlayRoom l bs es → play_room l bs es ≡ false
  is_room (inl h) = rw (lt-leb (answer_length * record_count l) (length bs) h)
  is_room (inr h) = rw (lt-leb (drain_room * drains_in (records l)) (length es) h, and-false (leb (answer_length * record_count l) (length bs)))

  abbrev leaves : PlayTest → Left
  leaves t = play_left (left_if l b i bs es a t)

  short : (t : PlayTest) → length a < 16 → leaves t ≡ refused_for short_room lent a
  short t h = ap play_left (by_room l b i bs es a t (lt-leb 16 (length a) h))

  -- with room for the answer, a refusal is told, but of 7
  told : AnswerRoom a → (r : Reason) → leaves (refused (reason_number r) (reason_value r)) ≡ refused_for r lent a
  told h r = ap play_left (by_room l b i bs es a (refused (reason_number r) (reason_value r)) (le-leb 16 (length a) h))

  module _ (Wrong : OfImage → Type 0) (t : PlayTest) (wrong : (x : OfImage) → Wrong x → t ≡ refused (image_number (test_of x)) (image_value (test_of x)))
      (right : NoneOf Wrong → t ≡ trace_left (trace_test l) (play_room l bs es)) where
    found : AnswerRoom a → NoneOf Wrong → (x : OfTrace) → trace_test l ≡ test_of_trace x → leaves t ≡ refused_for (of_trace x) lent a
    found h g bad_contents e = ap leaves (right g ∙ ap (λ y. trace_left y (play_room l bs es)) e) ∙ told h (of_trace bad_contents)
    found h g (bad_at k) e = ap leaves (right g ∙ ap (λ y. trace_left y (play_room l bs es)) e) ∙ told h (of_trace (bad_at k))

    roomless : NoneOf Wrong → IsTrace l → {r : Bool} → play_room l bs es ≡ r → t ≡ trace_left (good (first_place l) (record_count l)) r
    roomless g f e = right g ∙ (λ s. trace_left (is_good_lem l f s) (e s))

    rows_refuse : (r : Reason) → PlayRows Wrong l bs es a r → leaves t ≡ refused_for r lent a
    rows_refuse short_room (inl h) = short t h
    rows_refuse short_room (inr g) = ap leaves (roomless g.1 g.2 (is_room g.3)) ∙ told g.0 short_room
    rows_refuse (of_image x) g = ap leaves (wrong x g.1) ∙ told g.0 (of_image x)
    rows_refuse (of_request w) g = absurd g
    rows_refuse (of_trace x) g = found g.0 g.1 x ((trace_exactly l x).1 g.2)
    rows_refuse (of_profile v) g = absurd g
    rows_refuse none_left g = absurd g
    rows_refuse (of_tally p) g = absurd g

    module _ (either : ((x : OfImage) × Wrong x) ⊎ NoneOf Wrong) where
      rows_given : (IsDone (leaves t).number → ⊥) → (r : Reason) × PlayRows Wrong l bs es a r
      rows_given n = test (leb 16 (length a)) (λ u. tested (leb-true 16 (length a) u)) (λ u. (short_room, inl (leb-false 16 (length a) u)))
        where
          done : AnswerRoom a → IsDone (leaves plays).number
          done h = ap (λ (p : PlayLeft). p.number) (by_room l b i bs es a plays (le-leb 16 (length a) h))

          fine : AnswerRoom a → NoneOf Wrong → IsTrace l → (r : Reason) × PlayRows Wrong l bs es a r
          fine h g f =
              test (play_room l bs es) (λ u. absurd (n (ap (λ y. (leaves y).number) (roomless g f u) ∙ done h))) (λ u. (short_room, inr (h, g, f, room_is u)))

          tested : AnswerRoom a → (r : Reason) × PlayRows Wrong l bs es a r
          tested h = ⊎_elim (λ g. (of_image g.0, (h, g.1))) (λ g. by_trace l (λ e f. fine h g f) (λ x e. (of_trace x, (h, g, (trace_exactly l x).0 e)))) either

      rows_kept : Refuses (PlayRows Wrong l bs es a) lent a (leaves t)
      rows_kept = record { refused = rows_refuse; given = rows_given }

-- ---- from a reset

module _ (l i bs es a : List ℕ) where
  abbrev played : PlayLeft
  played = playing l i bs es a

  abbrev buffers : List (List ℕ)
  buffers = i ∷ bs ∷ es ∷ []

  length_wrong : (x : OfImage) → OfReset i x → play_test l i bs es ≡ refused (image_number (test_of x)) (image_value (test_of x))
  unfolding play_test
  length_wrong bad_length g = ap (λ k. length_left k (trace_left (trace_test l) (play_room l bs es))) (no_form i g)
  length_wrong bad_head g = absurd g
  length_wrong (bad_body k p) g = absurd g

  length_right : NoneOf (OfReset i) → play_test l i bs es ≡ trace_left (trace_test l) (play_room l bs es)
  unfolding play_test
  length_right g = ap (λ k. length_left k (trace_left (trace_test l) (play_room l bs es))) (has_form i (a_form i (g bad_length)))

  length_either : ((x : OfImage) × OfReset i x) ⊎ NoneOf (OfReset i)
  length_either = by_length i (λ n. inl (bad_length, n)) (λ f. inr (fits f.0 f.1))
    where
      fits : (f : Form) → length i ≡ form_length f → (x : OfImage) → OfReset i x → ⊥
      fits f s bad_length n = not_both i n f s
      fits f s bad_head n = n
      fits f s (bad_body k p) n = n

  -- A play from a reset keeps to its table.
  pub refusals_of_a_play : Refuses (PlayGiven l i bs es a) buffers a (play_left played)
  unfolding playing
  refusals_of_a_play = rows_kept l (afresh i) i bs es a (OfReset i) (play_test l i bs es) length_wrong length_right length_either

  -- So 12, 13 and both 7s, and 4, are handed back exactly where their rows are met.
  pub play_by_number : ByNumber (PlayGiven l i bs es a) played.number
  play_by_number = tables.each_number (PlayGiven l i bs es a) buffers a _ refusals_of_a_play

-- ---- on from an image

module _ (l i bs es a : List ℕ) where
  abbrev played_on : PlayLeft
  played_on = playing_on l i bs es a

  abbrev lent_on : List (List ℕ)
  lent_on = i ∷ bs ∷ es ∷ []

  image_wrong : (x : OfImage) → Found i x → play_on_test l i bs es ≡ refused (image_number (test_of x)) (image_value (test_of x))
  unfolding play_on_test
  image_wrong bad_length g = ap (λ k. image_left k (trace_left (trace_test l) (play_room l bs es))) ((found_exactly i bad_length).1 g)
  image_wrong bad_head g = ap (λ k. image_left k (trace_left (trace_test l) (play_room l bs es))) ((found_exactly i bad_head).1 g)
  image_wrong (bad_body f p) g = ap (λ k. image_left k (trace_left (trace_test l) (play_room l bs es))) ((found_exactly i (bad_body f p)).1 g)

  image_right : NoneOf (Found i) → play_on_test l i bs es ≡ trace_left (trace_test l) (play_room l bs es)
  unfolding play_on_test
  image_right g = ap (λ k. image_left k (trace_left (trace_test l) (play_room l bs es))) ((accepted_exactly i).1 g)

  image_either : ((x : OfImage) × Found i x) ⊎ NoneOf (Found i)
  image_either = by_image i (λ e. inr ((accepted_exactly i).0 e)) (λ x e. inl (x, (found_exactly i x).0 e))

  -- A play on from an image keeps to its table: 4, 5 and 8 to 11 as every call on that image has them.
  pub refusals_of_a_play_on : Refuses (PlayOnGiven l i bs es a) lent_on a (play_left played_on)
  unfolding playing_on
  refusals_of_a_play_on = rows_kept l i i bs es a (Found i) (play_on_test l i bs es) image_wrong image_right image_either

  pub play_on_by_number : ByNumber (PlayOnGiven l i bs es a) played_on.number
  play_on_by_number = tables.each_number (PlayOnGiven l i bs es a) lent_on a _ refusals_of_a_play_on

-- 13 has the number of the first bad record as its value, and 8 to 11 have the place: what the answer area then holds is the row's
pub play_tells : (l i bs es a : List ℕ) (r : Reason) → PlayGiven l i bs es a r → (playing l i bs es a).answer ≡ told_for r a
play_tells l i bs es a r g = tables.answer_of (PlayGiven l i bs es a) (i ∷ bs ∷ es ∷ []) a _ (refusals_of_a_play l i bs es a) r g

pub play_on_tells : (l i bs es a : List ℕ) (r : Reason) → PlayOnGiven l i bs es a r → (playing_on l i bs es a).answer ≡ told_for r a
play_on_tells l i bs es a r g = tables.answer_of (PlayOnGiven l i bs es a) (i ∷ bs ∷ es ∷ []) a _ (refusals_of_a_play_on l i bs es a) r g

-- Not done: image, answers and events are as they were, and of the answer area the bytes past its 16; with 7 every byte.
pub refused_play_untouched : (l i bs es a : List ℕ) → (IsDone (playing l i bs es a).number → ⊥) → Untouched (i ∷ bs ∷ es ∷ []) a (play_left (playing l i bs es a))
refused_play_untouched l i bs es a = tables.refused_untouched (PlayGiven l i bs es a) (i ∷ bs ∷ es ∷ []) a _ (refusals_of_a_play l i bs es a)

pub refused_play_on_untouched : (l i bs es a : List ℕ) → (IsDone (playing_on l i bs es a).number → ⊥) → Untouched (i ∷ bs ∷ es ∷ []) a (play_left (playing_on l i bs es a))
refused_play_on_untouched l i bs es a = tables.refused_untouched (PlayOnGiven l i bs es a) (i ∷ bs ∷ es ∷ []) a _ (refusals_of_a_play_on l i bs es a)
