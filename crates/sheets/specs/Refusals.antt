-- The table of refusals of the call that writes a sheet (02, C-21): of each reason, when it is given.
use Rattle.std.specs.Prelude.{List, [], ◌∷◌, ◌⊎◌, ℕ, ◌<◌, ◌≤◌, length}
use Rattle.calls.specs.{Untouched.Left, Untouched.left, Calls.AnswerRoom}
use Rattle.calls.specs.Reasons.{Reason, short_room, of_image, of_request, of_trace, of_profile, none_left, of_tally}
use Rattle.traces.specs.Refusals.{TraceFound}
use Rattle.sheets.specs.{Sheet.sheet_length, Sheeting.SheetLeft}

-- the sheet is lent
abbrev pub sheet_left : SheetLeft → Left
sheet_left x = left x.number (x.sheet ∷ []) x.answer

-- 7 for answer area or sheet, then 12, then 13
abbrev pub SheetGiven : (trace sheet answer : List ℕ) → Reason → Type 0
SheetGiven l s a short_room = (length a < 16) ⊎ (length s < sheet_length)
SheetGiven l s a (of_image x) = ⊥
SheetGiven l s a (of_request w) = ⊥
SheetGiven l s a (of_trace t) = AnswerRoom a × (sheet_length ≤ length s) × TraceFound l t
SheetGiven l s a (of_profile v) = ⊥
SheetGiven l s a none_left = ⊥
SheetGiven l s a (of_tally p) = ⊥
