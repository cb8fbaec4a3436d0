-- The exported calls with a board (02, C-20), on any bytes: the number handed back, and every byte of image, board, answer area and event buffer afterwards.
use Rattle.std.specs.Prelude.{cond, ◌&&◌, List, [], ◌∷◌, ◌++◌, ℕ, ◌+◌, ◌-◌, min, eqb, leb, length, drop, set, get_or}
use Rattle.rules.specs.Core.{Core}
use Rattle.rules.specs.Device.{some}
use Rattle.images.specs.Image.{decode}
use Rattle.calls.specs.Calls.{Request, refusal_number, no_room, answer_length, answered, buffer_of, Outcome, leaves, outcome}
use Rattle.histories.specs.exported.Exported.{Exported}
use Rattle.boards.specs.Board.{board_length, recount}

-- ---- the first board: each call is the call without board, and then the board is right

-- what a call leaves that is lent a board
pub record Boarded : Type 0 where
  pub call : Outcome
  pub board : List ℕ

abbrev pub board_leaves : ℕ → (image board answer events : List ℕ) → Boarded
board_leaves n i b a e = record { call = leaves n i a e; board = b }

-- fresh counts stand in the first 256 bytes, whatever stood there; those past them stay
abbrev pub recounted : Core → List ℕ → List ℕ
recounted c b = recount c ++ drop board_length b

-- done, the board has the fresh counts of the image left; refused, it stays
abbrev pub board_after : (number : ℕ) (image board : List ℕ) → List ℕ
board_after n i b = cond (eqb n 0) (recounted (decode i).core b) b

-- what a request leaves; 7 for a board under 256 bytes comes first too, and leaves every byte
unfoldable pub boarding : Request → (image board answer : List ℕ) → Boarded
boarding q i b a =
    cond (leb board_length (length b)) (record { call = outcome q i a; board = board_after (outcome q i a).number (outcome q i a).image b })
    (board_leaves (refusal_number no_room) i b a (buffer_of q))

-- the board that an exported call leaves; and that calls leave one after another, each lent the board that the one before it left
abbrev pub board_by : Exported → List ℕ → List ℕ
board_by x b = (boarding x.asked x.given b x.answer).board

unfoldable pub board_through : List ℕ → List Exported → List ℕ
board_through b [] = b
board_through b (x ∷ xs) = board_through (board_by x b) xs

-- ---- the second board: a call for each event

-- flag 0 takes one away, not below 0; any other adds one, not past 255
abbrev pub heard_count : (flag count : ℕ) → ℕ
heard_count f k = cond (eqb f 0) (k - 1) (min (k + 1) 255)

-- what is left of board and answer area; the value is the count after. 7, for either, leaves every byte
pub record Heard : Type 0 where
  pub number : ℕ
  pub board : List ℕ
  pub answer : List ℕ

abbrev pub hears : ℕ → (board answer : List ℕ) → Heard
hears n b a = record { number = n; board = b; answer = a }

unfoldable pub hearing : (board : List ℕ) (vector flag : ℕ) (answer : List ℕ) → Heard
hearing b v f a =
    let k = heard_count f (get_or b v 0) in
    cond (leb answer_length (length a) && leb board_length (length b)) (hears 0 (set b v k) (answered 0 (some k) a)) (hears (refusal_number no_room) b a)
