-- The tables of refusals of the calls that are lent a trace to play or to salvage (02, C-11, C-23): of each reason, when it is given, with what comes before it shut out.
use Rattle.std.specs.Prelude.{true, false, List, [], ◌∷◌, ◌⊎◌, ◌≡◌, ℕ, ◌*◌, ◌<◌, ◌≤◌, length}
use Rattle.calls.specs.{Calls.answer_length, Untouched.Left, Untouched.left, Calls.AnswerRoom}
use Rattle.calls.specs.Reasons.{OfImage, OfTrace, bad_contents, bad_at, Reason, short_room, of_image, of_request, of_trace, of_profile, none_left, of_tally, NoneOf}
use Rattle.laws.specs.{Wrong.Found, Refusals.OfReset}
use Rattle.traces.specs.{Trace.record_count, Trace.contents_good, Trace.nth, Trace.is_good, Played.drain_room, Played.records}
use Rattle.traces.specs.plays.Playing.{drains_in, PlayLeft}
use Rattle.traces.specs.salvages.{Kept.bodies, Kept.kept, Kept.new_trace, Kept.drop_list, Salvaging.SalvageLeft}

-- ---- a trace

-- 13: the contents are good, record k is bad, and none before it is
pub record FirstBad (l : List ℕ) (k : ℕ) : Type 0 where
  pub contents : contents_good l ≡ true
  pub listed : k < record_count l
  pub bad : is_good (nth l k) ≡ false
  pub before : (m : ℕ) → m < k → is_good (nth l m) ≡ true

-- 12: wrong contents, a wrong length or more than 4,000 records
abbrev pub TraceFound : List ℕ → OfTrace → Type 0
TraceFound l bad_contents = contents_good l ≡ false
TraceFound l (bad_at k) = FirstBad l k

-- a trace that is good: neither
abbrev pub IsTrace : List ℕ → Type 0
IsTrace l = NoneOf (TraceFound l)

-- ---- a play

-- image, answers and events are lent
abbrev pub play_left : PlayLeft → Left
play_left x = left x.number (x.image ∷ x.answers ∷ x.events ∷ []) x.answer

-- sixteen bytes for each record's answer, and a drain of all for each record that drains
abbrev pub NoPlayRoom : (trace answers events : List ℕ) → Type 0
NoPlayRoom l bs es = (length bs < answer_length * record_count l) ⊎ (length es < drain_room * drains_in (records l))

-- 7 for the answer area, then what is wrong with the image, then 12, 13, then 7 for answers or events
abbrev pub PlayRows : (OfImage → Type 0) → (trace answers events answer : List ℕ) → Reason → Type 0
PlayRows Wrong l bs es a short_room = (length a < 16) ⊎ (AnswerRoom a × NoneOf Wrong × IsTrace l × NoPlayRoom l bs es)
PlayRows Wrong l bs es a (of_image x) = AnswerRoom a × Wrong x
PlayRows Wrong l bs es a (of_request w) = ⊥
PlayRows Wrong l bs es a (of_trace t) = AnswerRoom a × NoneOf Wrong × TraceFound l t
PlayRows Wrong l bs es a (of_profile v) = ⊥
PlayRows Wrong l bs es a none_left = ⊥
PlayRows Wrong l bs es a (of_tally p) = ⊥

-- from a reset: of the image the length alone, as a reset itself has it
abbrev pub PlayGiven : (trace image answers events answer : List ℕ) → Reason → Type 0
PlayGiven l i bs es a = PlayRows (OfReset i) l bs es a

-- on from an image: all of it
abbrev pub PlayOnGiven : (trace image answers events answer : List ℕ) → Reason → Type 0
PlayOnGiven l i bs es a = PlayRows (Found i) l bs es a

-- ---- a salvage

-- the second buffer and the list's are lent
abbrev pub salvage_left : SalvageLeft → Left
salvage_left x = left x.number (x.second ∷ x.list ∷ []) x.answer

-- the second buffer is too short for the new trace, or the list's for its entries
abbrev pub NoSalvageRoom : (trace second list : List ℕ) → Type 0
NoSalvageRoom l ks ds = (length ks < length (new_trace l)) ⊎ (length ds < length (drop_list l))

-- 7 for the answer area, '12 as in C-11; 16 if no block is left; 7 if the second buffer is too short for the new trace or the list's buffer for its entries' (02, C-23)
abbrev pub SalvageGiven : (trace second list answer : List ℕ) → Reason → Type 0
SalvageGiven l ks ds a short_room = (length a < 16) ⊎ (AnswerRoom a × (contents_good l ≡ true) × (1 ≤ length (kept (bodies l))) × NoSalvageRoom l ks ds)
SalvageGiven l ks ds a (of_image x) = ⊥
SalvageGiven l ks ds a (of_request w) = ⊥
SalvageGiven l ks ds a (of_trace bad_contents) = AnswerRoom a × (contents_good l ≡ false)
SalvageGiven l ks ds a (of_trace (bad_at k)) = ⊥
SalvageGiven l ks ds a (of_profile v) = ⊥
SalvageGiven l ks ds a none_left = AnswerRoom a × (contents_good l ≡ true) × (length (kept (bodies l)) ≡ 0)
SalvageGiven l ks ds a (of_tally p) = ⊥
