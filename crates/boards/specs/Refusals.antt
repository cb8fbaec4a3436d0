-- The tables of refusals of the six calls with a board, and of an event that a second board hears (02, C-20): of each reason, when it is given.
use Rattle.std.specs.Prelude.{List, [], ◌∷◌, ◌⊎◌, ℕ, ◌<◌, ◌≤◌, length}
use Rattle.calls.specs.{Calls.Request, Untouched.Left, Untouched.left}
use Rattle.calls.specs.Reasons.{Reason, short_room, of_image, of_request, of_trace, of_profile, none_left, of_tally}
use Rattle.laws.specs.Refusals.{Given}
use Rattle.boards.specs.Boarding.{Boarded, Heard}

-- ---- the six calls with a board

-- image, board and event buffer are lent
abbrev pub board_left : Boarded → Left
board_left x = left x.call.number (x.call.image ∷ x.board ∷ x.call.events ∷ []) x.call.answer

-- 7 for a board under 256 bytes comes first too; all else is as without a board
abbrev pub BoardGiven : Request → (image board answer : List ℕ) → Reason → Type 0
BoardGiven q i b a short_room = (length b < 256) ⊎ Given q i a short_room
BoardGiven q i b a (of_image x) = (256 ≤ length b) × Given q i a (of_image x)
BoardGiven q i b a (of_request w) = (256 ≤ length b) × Given q i a (of_request w)
BoardGiven q i b a (of_trace t) = ⊥
BoardGiven q i b a (of_profile v) = ⊥
BoardGiven q i b a none_left = ⊥
BoardGiven q i b a (of_tally p) = ⊥

-- ---- an event heard by a second board

-- the board is lent
abbrev pub heard_left : Heard → Left
heard_left x = left x.number (x.board ∷ []) x.answer

-- 7 is its only refusal
abbrev pub EventGiven : (board answer : List ℕ) → Reason → Type 0
EventGiven b a short_room = (length a < 16) ⊎ (length b < 256)
EventGiven b a (of_image x) = ⊥
EventGiven b a (of_request w) = ⊥
EventGiven b a (of_trace t) = ⊥
EventGiven b a (of_profile v) = ⊥
EventGiven b a none_left = ⊥
EventGiven b a (of_tally p) = ⊥
