-- The end of a call with a board: what was told goes into the answer area, and a done call's image is counted.
use Rattle.std.specs.Prelude.{◌≡◌, cond, List, ℕ, ◌≤◌, eqb, length, Option, Result}
use Rattle.rules.specs.Device.{reset}
use Rattle.images.specs.Image.{image_test, accepted}
use Rattle.calls.specs.Calls.{answer_length, answered}
use Rattle.boards.specs.Board.{board_length}
use Rattle.boards.specs.Boarding.{recounted, board_after}
use Rattle.answer.specs.Given.{told_number, told_value}
use Rattle.answer.specs.declared.refusals.Refusal.{Refusal}

-- a done call has left an accepted image, and board and answer area have room
pub record Finishing (t : Result (Option ℕ) Refusal) (image board answer : List ℕ) : Type 0 where
  pub left : told_number t ≡ 0 → image_test image ≡ accepted
  pub wide : board_length ≤ length board
  pub roomy : answer_length ≤ length answer

-- the number is handed back, the board is as number and image say, and number and value stand in the answer area
pub record Finished (t : Result (Option ℕ) Refusal) (image board answer : List ℕ) (r : ℕ) (board_left answer_left : List ℕ) : Type 0 where
  pub number : r ≡ told_number t
  pub counted : board_left ≡ board_after (told_number t) image board
  pub written : answer_left ≡ answered (told_number t) (told_value t) answer

-- the board after a reset: done, it has the counts of the reset device; refused, it stays
abbrev pub cleared_after : (number : ℕ) → List ℕ → List ℕ
cleared_after n b = cond (eqb n 0) (recounted reset.core b) b
