-- The tests of the exported calls on closed bytes, in their order: so it is seen what comes first; and a record played on.
use Rattle.basics.proofs.Prelude.{◌≡◌, refl, List, [], ◌∷◌, ◌++◌, ℕ, set, replicate}
use Rattle.rules.specs.Device.{none, some}
use Rattle.images.specs.{Form.Form, Form.one, Form.two, Form.numbered, Image.encode_as}
use Rattle.rules.specs.{Device.reset, Device.with_lines, Numbering.from_zero}
use Rattle.calls.{specs.Calls.answered, proofs.laws.Computing.computing}
use Rattle.traces.specs.{Trace.blocks_from, Trace.records_in, Trace.back_to_back, Trace.contents_good, Trace.is_good, Trace.first_bad, Trace.trace_test, Played.records_from, Played.request_of, Played.outcomes, Played.gathered}
use Rattle.traces.specs.{plays.Firsts.first_records, salvages.Kept.listing, salvages.Kept.joined}
use Rattle.traces.specs.plays.Playing.{drains_in, PlayTest, refused, plays, play_test, play_on_test, playing, playing_on}

-- one name that opens what has to compute
unfoldable testing : ℕ
unfolding blocks_from records_in back_to_back contents_good is_good first_bad trace_test records_from drains_in play_test play_on_test
testing = 0

-- one block of three records: input 3 raised, a drain, and a drain
abbrev day : List ℕ
day = (1 ∷ 0 ∷ 6 ∷ 0 ∷ 3 ∷ 0 ∷ []) ++ ((1 ∷ 3 ∷ replicate 14 0) ++ ((6 ∷ replicate 15 0) ++ (6 ∷ replicate 15 0)))

-- its first two records as a trace
first_two : first_records day 2 ≡ (1 ∷ 0 ∷ 6 ∷ 0 ∷ 2 ∷ 0 ∷ []) ++ ((1 ∷ 3 ∷ replicate 14 0) ++ (6 ∷ replicate 15 0))
unfolding testing listing joined
first_two = refl

-- with so many bytes for image, answers and events
abbrev tested : List ℕ → (image answers events : ℕ) → PlayTest
tested l i a e = play_test l (replicate i 0) (replicate a 0) (replicate e 0)

-- 16 bytes for each record, and 64 for each of the two that drain; in any form
plays_day : tested day 259 48 128 ∷ tested day 251 48 128 ∷ tested day 290 49 129 ∷ [] ≡ plays ∷ plays ∷ plays ∷ []
unfolding testing
plays_day = refl

-- a byte less of either is 7
no_room_lem : tested day 290 47 128 ∷ tested day 290 48 127 ∷ [] ≡ refused 7 none ∷ refused 7 none ∷ []
unfolding testing
no_room_lem = refl

-- a bad record is told where there is no room either, and wrong contents before that
bad_record_first : tested (set day 23 1) 290 0 0 ≡ refused 13 (some 1)
unfolding testing
bad_record_first = refl

contents_first : tested (set (set day 4 4) 23 1) 290 0 0 ≡ refused 12 none
unfolding testing
contents_first = refl

-- a length that no form has comes before all of these
length_first : tested (set (set day 4 4) 23 1) 289 0 0 ∷ tested day 0 48 128 ∷ [] ≡ refused 4 none ∷ refused 4 none ∷ []
unfolding testing
length_first = refl

-- and an answer area of fifteen bytes before it, which stays as it was
answer_first : playing day (replicate 289 0) [] [] (replicate 15 9) ≡ record { number = 7; image = replicate 289 0; answers = []; events = []; answer = replicate 15 9 }
unfolding testing playing
answer_first = refl

-- late or early, 7 writes nothing; any other refusal writes sixteen bytes
seven_silent : (playing day (replicate 290 0) (replicate 47 0) (replicate 128 0) (replicate 17 9)).answer ≡ replicate 17 9
unfolding testing playing
seven_silent = refl

thirteen_told : (playing (set day 23 1) (replicate 290 0) [] [] (replicate 17 9)).answer ≡ (13 ∷ 1 ∷ replicate 6 0) ++ ((1 ∷ replicate 7 0) ++ (9 ∷ []))
unfolding testing playing answered
thirteen_told = refl

-- ---- played on

-- an accepted image of each form: the device after reset, with input 3 unmasked
abbrev three : Form → List ℕ
three f = encode_as f (with_lines reset (record { mask = 0xfffffffffffffff7; irr = 0; isr = 0 })) (from_zero 0)

-- one record: input 3 raised
abbrev raise : List ℕ
raise = (1 ∷ 0 ∷ 6 ∷ 0 ∷ 1 ∷ 0 ∷ []) ++ (1 ∷ 3 ∷ replicate 14 0)

-- with an image, and so many bytes for answers and events
abbrev tested_on : List ℕ → (image : List ℕ) (answers events : ℕ) → PlayTest
tested_on l i a e = play_on_test l i (replicate a 0) (replicate e 0)

plays_on_day : tested_on day (three one) 48 128 ∷ tested_on day (three two) 48 128 ∷ tested_on day (three numbered) 49 129 ∷ [] ≡ plays ∷ plays ∷ plays ∷ []
unfolding testing computing
plays_on_day = refl

-- the image is refused first, by its length, its contents or a body with its place: whatever trace and room are
length_first_on : tested_on (set day 4 4) (replicate 289 0) 0 0 ≡ refused 4 none
unfolding testing computing
length_first_on = refl

image_contents_first : tested_on (set day 4 4) (replicate 259 0) 0 0 ∷ tested_on (set day 4 4) (set (three one) 0 2) 0 0 ∷ [] ≡ refused 5 none ∷ refused 5 none ∷ []
unfolding testing computing
image_contents_first = refl

-- a copy of IRR that differs, seventeen waiting events, a flag of 2 in a waiting pair, an unused pair that is not zero
bodies_first : tested_on (set day 4 4) (set (three one) 54 1) 0 0
    ∷ tested_on (set day 4 4) (set (three one) 222 17) 0 0
    ∷ tested_on (set day 4 4) (set (set (three one) 222 1) 228 2) 0 0
    ∷ tested_on (set day 4 4) (set (three one) 227 1) 0 0
    ∷ []
    ≡ refused 8 (some 46) ∷ refused 9 (some 222) ∷ refused 10 (some 228) ∷ refused 11 (some 227) ∷ []
unfolding testing computing
bodies_first = refl

-- then the trace, and last the room
trace_then_room : tested_on (set (set day 4 4) 23 1) (three one) 0 0 ∷ tested_on (set day 23 1) (three two) 0 0 ∷ tested_on day (three one) 47 128 ∷ tested_on day (three one) 48 127 ∷ []
    ≡ refused 12 none ∷ refused 13 (some 1) ∷ refused 7 none ∷ refused 7 none ∷ []
unfolding testing computing
trace_then_room = refl

answer_first_on : playing_on (set day 4 4) (replicate 289 0) [] [] (replicate 15 9) ≡ record { number = 7; image = replicate 289 0; answers = []; events = []; answer = replicate 15 9 }
unfolding testing playing_on computing
answer_first_on = refl

-- input 3 is unmasked there, so its raise returns vector 3; from a reset, where it is masked, it returns nothing
raised_on : (playing_on raise (three two) (replicate 16 0) [] (replicate 16 9)).answers ≡ answered 0 (some 3) (replicate 16 0)
unfolding testing playing_on computing request_of outcomes gathered
raised_on = refl

raised_from_reset : (playing raise (three two) (replicate 16 0) [] (replicate 16 9)).answers ≡ answered 0 none (replicate 16 0)
unfolding testing playing computing request_of outcomes gathered
raised_from_reset = refl
