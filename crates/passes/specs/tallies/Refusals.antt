-- The tables of refusals of the three calls of a tally: of each reason, when it is given, with what comes before it shut out. 17 is the library's own.
use Rattle.std.specs.Prelude.{true, false, List, [], ◌∷◌, ◌⊎◌, ◌≡◌, ℕ, ◌*◌, ◌<◌, ◌≤◌, length}
use Rattle.calls.specs.{Untouched.Left, Untouched.left, Calls.AnswerRoom}
use Rattle.calls.specs.Reasons.{Reason, short_room, of_image, of_request, of_trace, of_profile, none_left, of_tally}
use Rattle.laws.specs.Wrong.{Found, IsImage}
use Rattle.traces.specs.Refusals.{TraceFound, IsTrace}
use Rattle.passes.specs.tallies.{Tally.tally_length, Tally.unsound, Tallying.TallyLeft}

-- 17: of the tally's 650 numbers this is the first that is too great, or that of a wait that began behind all records; p is the place of its first byte
pub record FirstUnsound (t : List ℕ) (p : ℕ) : Type 0 where
  pub number : ℕ
  pub place : p ≡ 8 * number
  pub listed : number < 650
  pub wrong : unsound t number ≡ true
  pub before : (j : ℕ) → j < number → unsound t j ≡ false

-- the tally, or of a sheet the sheet, is lent to be written
abbrev pub tally_left : TallyLeft → Left
tally_left x = left x.number (x.bytes ∷ []) x.answer

abbrev pub TallyRoom : (answer bytes : List ℕ) → Type 0
TallyRoom a t = AnswerRoom a × (tally_length ≤ length t)

-- begun: 7 is its only refusal
abbrev pub BeginGiven : (tally answer : List ℕ) → Reason → Type 0
BeginGiven t a short_room = (length a < 16) ⊎ (length t < tally_length)
BeginGiven t a (of_image x) = ⊥
BeginGiven t a (of_request w) = ⊥
BeginGiven t a (of_trace y) = ⊥
BeginGiven t a (of_profile v) = ⊥
BeginGiven t a none_left = ⊥
BeginGiven t a (of_tally p) = ⊥

-- a trace added: the image, then the trace, then the tally
abbrev pub AddGiven : (trace image tally answer : List ℕ) → Reason → Type 0
AddGiven l i t a short_room = (length a < 16) ⊎ (length t < tally_length)
AddGiven l i t a (of_image x) = TallyRoom a t × Found i x
AddGiven l i t a (of_request w) = ⊥
AddGiven l i t a (of_trace y) = TallyRoom a t × IsImage i × TraceFound l y
AddGiven l i t a (of_profile v) = ⊥
AddGiven l i t a none_left = ⊥
AddGiven l i t a (of_tally p) = TallyRoom a t × IsImage i × IsTrace l × FirstUnsound t p

-- summed: 7 for tally, answer area or sheet, and then the tally
abbrev pub SumGiven : (tally sheet answer : List ℕ) → Reason → Type 0
SumGiven t s a short_room = (length t < tally_length) ⊎ ((length a < 16) ⊎ (length s < tally_length))
SumGiven t s a (of_image x) = ⊥
SumGiven t s a (of_request w) = ⊥
SumGiven t s a (of_trace y) = ⊥
SumGiven t s a (of_profile v) = ⊥
SumGiven t s a none_left = ⊥
SumGiven t s a (of_tally p) = (tally_length ≤ length t) × TallyRoom a s × FirstUnsound t p
