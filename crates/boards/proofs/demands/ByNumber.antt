-- What the exported calls with a board hand back (02, C-20): each refusal exactly when, by the tables in specs/Refusals.antt; and what a refused call leaves, in the tables' words.
use Rattle.basics.proofs.Prelude.{◌≡◌, sym, ap, ◌∙◌, Bool, true, cond, and-false, List, [], ◌∷◌, ◌⊎◌, inl, inr, ℕ, ◌<◌, ◌≤◌, leb, length, get_or, ne_eqb, le-leb, leb-true, leb-false, lt-leb, test}
use Rattle.calls.specs.{Calls.Request, Calls.buffer_of, Calls.outcome, Untouched.Left, Untouched.left, Untouched.Untouched, Untouched.IsDone}
use Rattle.calls.specs.Reasons.{Reason, short_room, of_image, of_request, of_trace, of_profile, none_left, of_tally, refused_for, Refuses, ByNumber}
use Rattle.calls.proofs.laws.Tables.{never_zero, refused_untouched, each_number}
use Rattle.laws.specs.Refusals.{Given}
use Rattle.laws.proofs.demands.ByNumber.{refusals_of_calls}
use Rattle.boards.specs.Refusals.{board_left, BoardGiven, heard_left, EventGiven}
use Rattle.boards.proofs.laws.Computed as computed
use Rattle.boards.specs.Boarding.{Boarded, board_leaves, board_after, boarding, Heard, hearing}

-- ---- the six calls with a board

module _ (q : Request) (i b a : List ℕ) where
  abbrev boarded : Boarded
  boarded = boarding q i b a

  abbrev lent : List (List ℕ)
  lent = i ∷ b ∷ buffer_of q ∷ []

  by_room : {r : Bool} → leb 256 (length b) ≡ r
      → boarded ≡ cond r (record { call = outcome q i a; board = board_after (outcome q i a).number (outcome q i a).image b }) (board_leaves 7 i b a (buffer_of q))
  unfolding boarding
  by_room e t = cond (e t) (record { call = outcome q i a; board = board_after (outcome q i a).number (outcome q i a).image b }) (board_leaves 7 i b a (buffer_of q))

  short : length b < 256 → board_left boarded ≡ refused_for short_room lent a
  short h = ap board_left (by_room (lt-leb 256 (length b) h))

  -- with a board of 256 bytes, what is refused without a board is refused so
  with_a_board : leb 256 (length b) ≡ true → (r : Reason) → Given q i a r → board_left boarded ≡ refused_for r lent a
  with_a_board h r g =
      let e = (refusals_of_calls q i a).refused r g in
      let stays : board_after (outcome q i a).number (outcome q i a).image b ≡ b = rw (ne_eqb (outcome q i a).number 0 (λ z. never_zero r (sym (ap (λ (y : Left). y.number) e) ∙ z))) in
      ap board_left (by_room h)
      ∙ (λ s. left (outcome q i a).number ((outcome q i a).image ∷ stays s ∷ (outcome q i a).events ∷ []) (outcome q i a).answer)
      ∙ (λ s. left (e s).number (get_or (e s).lent 0 [] ∷ b ∷ get_or (e s).lent 1 [] ∷ []) (e s).answer)

  board_refuses : (r : Reason) → BoardGiven q i b a r → board_left boarded ≡ refused_for r lent a
  board_refuses short_room (inl h) = short h
  board_refuses short_room (inr g) = test (leb 256 (length b)) (λ t. with_a_board t short_room g) (λ t. short (leb-false 256 (length b) t))
  board_refuses (of_image x) g = with_a_board (le-leb 256 (length b) g.0) (of_image x) g.1
  board_refuses (of_request w) g = with_a_board (le-leb 256 (length b) g.0) (of_request w) g.1
  board_refuses (of_trace t) g = absurd g
  board_refuses (of_profile v) g = absurd g
  board_refuses none_left g = absurd g
  board_refuses (of_tally p) g = absurd g

  board_given : (IsDone boarded.call.number → ⊥) → (r : Reason) × BoardGiven q i b a r
  board_given n =
      test (leb 256 (length b))
      (λ t. let g = (refusals_of_calls q i a).given (λ z. n (ap (λ (x : Boarded). x.call.number) (by_room t) ∙ z)) in
      go (leb-true 256 (length b) t) g.0 g.1)
      (λ t. (short_room, inl (leb-false 256 (length b) t)))
    where
      go : 256 ≤ length b → (r : Reason) → Given q i a r → (r : Reason) × BoardGiven q i b a r
      go h short_room g = (short_room, inr g)
      go h (of_image x) g = (of_image x, (h, g))
      go h (of_request w) g = (of_request w, (h, g))
      go h (of_trace t) g = absurd g
      go h (of_profile v) g = absurd g
      go h none_left g = absurd g
      go h (of_tally p) g = absurd g

  -- Each call with a board keeps to that table, and hands back each number exactly where its row is met.
  pub refusals_with_a_board : Refuses (BoardGiven q i b a) lent a (board_left boarded)
  refusals_with_a_board = record { refused = board_refuses; given = board_given }

  pub board_by_number : ByNumber (BoardGiven q i b a) boarded.call.number
  board_by_number = each_number (BoardGiven q i b a) lent a _ refusals_with_a_board

  -- Whatever is asked, of any image, board and answer area: where the number handed back is not 0, nothing else has changed.
  pub refused_board_untouched : (IsDone boarded.call.number → ⊥) → Untouched lent a (board_left boarded)
  refused_board_untouched = refused_untouched (BoardGiven q i b a) lent a _ refusals_with_a_board

-- ---- an event heard by a second board

module _ (b : List ℕ) (v f : ℕ) (a : List ℕ) where
  abbrev heard : Heard
  heard = hearing b v f a

  event_refuses : (r : Reason) → EventGiven b a r → heard_left heard ≡ refused_for r (b ∷ []) a
  unfolding hearing
  event_refuses short_room (inl h) = rw (lt-leb 16 (length a) h)
  event_refuses short_room (inr h) = rw (lt-leb 256 (length b) h, and-false (leb 16 (length a)))
  event_refuses (of_image x) g = absurd g
  event_refuses (of_request w) g = absurd g
  event_refuses (of_trace t) g = absurd g
  event_refuses (of_profile p) g = absurd g
  event_refuses none_left g = absurd g
  event_refuses (of_tally p) g = absurd g

  event_given : (IsDone heard.number → ⊥) → (r : Reason) × EventGiven b a r
  unfolding hearing
  event_given n =
      test (leb 16 (length a))
      (λ t. test (leb 256 (length b)) (λ u. absurd (n (rw (t, u)))) (λ u. (short_room, inr (leb-false 256 (length b) u))))
      (λ t. (short_room, inl (leb-false 16 (length a) t)))

  -- The call for an event keeps to that table: 7, and that alone. Refused, no byte of the board changes, nor of the answer area.
  pub refusals_of_an_event : Refuses (EventGiven b a) (b ∷ []) a (heard_left heard)
  refusals_of_an_event = record { refused = event_refuses; given = event_given }

  pub event_by_number : ByNumber (EventGiven b a) heard.number
  event_by_number = each_number (EventGiven b a) (b ∷ []) a _ refusals_of_an_event

  pub refused_event_untouched : (IsDone heard.number → ⊥) → Untouched (b ∷ []) a (heard_left heard)
  refused_event_untouched = refused_untouched (EventGiven b a) (b ∷ []) a _ refusals_of_an_event
