-- The rows of the tables of refusals can be met: every row of the six calls, and of the other tables those that are their own. Of each number a call that hands it back, computed, and by the theorem what its row
-- says of it.
use Rattle.basics.proofs.Prelude.{refl, List, [], ◌∷◌, ◌++◌, ℕ, arith, inr, lit<, lit≤, set, replicate, length-replicate, ◌≡◌}
use Rattle.rules.specs.{Device.reset, Numbering.from_zero}
use Rattle.images.specs.{Form.Form, Form.one, Form.two, Form.numbered, Image.copy_differs, Image.many_wait, Image.bad_flag, Image.unused_set, Image.encode_as}
use Rattle.calls.specs.{Convert.converted, Convert.conversion, Waiting.waiting_told, Waiting.waiting}
use Rattle.calls.specs.Reasons.{bad_length, bad_head, bad_body, bad_input, bad_width, bad_address, bad_contents, bad_at, not_aligned, not_fit, Reason, short_room, of_image, of_request, of_trace, of_profile, none_left}
use Rattle.calls.proofs.laws.{Computing.computing, Tables.reason_of_lem}
use Rattle.boards.{specs.Boarding.boarding, specs.Boarding.hearing, specs.Refusals.BoardGiven, specs.Refusals.EventGiven, proofs.demands.ByNumber.board_by_number, proofs.demands.ByNumber.event_by_number}
use Rattle.hoists.specs.Refusals.{WriteGiven, ReadGiven, ResetGiven, EndGiven}
use Rattle.hoists.proofs.{laws.Computed.hoisting, under_profile.demands.ByNumber.write_by_number, under_profile.demands.ByNumber.read_by_number, under_profile.demands.ByNumber.reset_by_number, under_profile.demands.ByNumber.end_by_number}
use Rattle.traces.specs.{Trace.blocks_from, Trace.records_in, Trace.back_to_back, Trace.contents_good, Trace.is_good, Trace.first_bad, Trace.trace_test, Played.records_from, plays.Playing.drains_in, plays.Playing.play_test, plays.Playing.play_on_test, plays.Playing.playing, plays.Playing.playing_on, salvages.Salvaging.salvaging}
use Rattle.traces.specs.Refusals.{IsTrace, PlayGiven, PlayOnGiven, SalvageGiven}
use Rattle.traces.proofs.{demands.Told.good_is, plays.demands.ByNumber.play_by_number, plays.demands.ByNumber.play_on_by_number, salvages.demands.ByNumber.salvage_by_number}
use Rattle.sheets.{specs.Sheeting.sheeting, specs.Refusals.SheetGiven, proofs.demands.ByNumber.sheet_by_number}
use Rattle.passes.{specs.tallies.Tallying.beginning, specs.tallies.Tallying.adding, specs.tallies.Tallying.summing, specs.tallies.Refusals.FirstUnsound, specs.tallies.Refusals.TallyRoom, proofs.tallies.demands.ByNumber.begin_by_number, proofs.tallies.demands.ByNumber.add_by_number, proofs.tallies.demands.ByNumber.sum_by_number}
use Rattle.laws.specs.{Wrong.IsImage, Refusals.Given, Refusals.NoRoom, Refusals.WaitingGiven, Refusals.ConvertGiven}
use Rattle.laws.proofs.demands.Found.{found_exactly, accepted_exactly}
use Rattle.laws.proofs.demands.ByNumber.{seven_exactly, four_exactly, five_exactly, body_exactly, three_exactly, two_exactly, one_exactly, zero_exactly}
use Rattle.laws.proofs.demands.OthersByNumber.{refusals_of_waiting, refusals_of_conversion}
use Rattle.calls.specs.Calls as request
use Rattle.traces.proofs.salvages.laws.Computed as computed

-- ---- the six calls

-- the device after reset, saved; an answer area
abbrev saved : Form → List ℕ
saved f = encode_as f reset (from_zero 0)

abbrev area : List ℕ
area = replicate 17 9

-- 7: fifteen bytes; and a drain's place past three bytes, though one at their end is inside
short_area : NoRoom (request.poll 3) (replicate 15 9)
unfolding computing
short_area = (seven_exactly (request.poll 3) (saved one) (replicate 15 9)).0 refl

place_past : NoRoom (request.drain (replicate 3 0) 4) area
unfolding computing
place_past = (seven_exactly (request.drain (replicate 3 0) 4) (saved one) area).0 refl

place_at_the_end : (r : Reason) → Given (request.drain (replicate 3 0) 3) (saved one) area r → ⊥
unfolding computing
place_at_the_end = (zero_exactly (request.drain (replicate 3 0) 3) (saved one) area).0 refl

-- 4, of a read and of a reset; 5
no_length : Given (request.read 0 0x400 0 3) (replicate 260 1) area (of_image bad_length)
unfolding computing
no_length = (four_exactly (request.read 0 0x400 0 3) (replicate 260 1) area).0 refl

no_length_to_reset : Given request.reset (replicate 258 1) area (of_image bad_length)
unfolding computing
no_length_to_reset = (four_exactly request.reset (replicate 258 1) area).0 refl

other_contents : Given (request.level 64 1) (set (saved numbered) 0 1) area (of_image bad_head)
unfolding computing
other_contents = (five_exactly (request.level 64 1) (set (saved numbered) 0 1) area).0 refl

-- 8 to 11, each with its place; all before 2, 1 and 3
copy_differs_lem : (p : ℕ) × Given (request.read 0 0x400 0x400 3) (set (saved one) 54 1) area (of_image (bad_body copy_differs p))
unfolding computing
copy_differs_lem = (body_exactly (request.read 0 0x400 0x400 3) (set (saved one) 54 1) area copy_differs).0 refl

many_wait_lem : (p : ℕ) × Given (request.poll 64) (set (saved two) 214 17) area (of_image (bad_body many_wait p))
unfolding computing
many_wait_lem = (body_exactly (request.poll 64) (set (saved two) 214 17) area many_wait).0 refl

bad_flag_lem : (p : ℕ) × Given (request.poll 64) (set (set (saved one) 222 1) 228 2) area (of_image (bad_body bad_flag p))
unfolding computing
bad_flag_lem = (body_exactly (request.poll 64) (set (set (saved one) 222 1) 228 2) area bad_flag).0 refl

-- an unused pair; and an unused number, which comes after the pairs
unused_pair : (p : ℕ) × Given (request.poll 64) (set (saved one) 227 1) area (of_image (bad_body unused_set p))
unfolding computing
unused_pair = (body_exactly (request.poll 64) (set (saved one) 227 1) area unused_set).0 refl

unused_number : (p : ℕ) × Given (request.poll 64) (set (saved numbered) 289 1) area (of_image (bad_body unused_set p))
unfolding computing
unused_number = (body_exactly (request.poll 64) (set (saved numbered) 289 1) area unused_set).0 refl

-- 3; 2, though the address is outside too; 1
input_64 : Given (request.level 64 1) (saved two) area (of_request bad_input)
unfolding computing
input_64 = (three_exactly (request.level 64 1) (saved two) area).0 refl

width_3 : Given (request.read 0 0x400 0x400 3) (saved two) area (of_request bad_width)
unfolding computing
width_3 = (two_exactly (request.read 0 0x400 0x400 3) (saved two) area).0 refl

over_the_end : (x : ℕ) × Given (request.write 0 0x400 0x3fc 8 1) (saved two) area (of_request (bad_address x))
unfolding computing
over_the_end = (one_exactly (request.write 0 0x400 0x3fc 8 1) (saved two) area).0 refl

-- ---- who waits, and a conversion

waiting_refused : (v : ℕ) × WaitingGiven (saved two ++ (0 ∷ [])) area (of_image bad_length)
unfolding computing waiting waiting_told
waiting_refused = reason_of_lem (WaitingGiven (saved two ++ (0 ∷ [])) area) _ area _ (refusals_of_waiting (saved two ++ (0 ∷ [])) area) 4 refl (λ z. omega (arith, z))

-- 4 of the target, though the image's contents are wrong; with a good target 5
target_length : (v : ℕ) × ConvertGiven (set (saved one) 0 2) (replicate 252 0) area (of_image bad_length)
unfolding computing conversion converted
target_length = reason_of_lem (ConvertGiven (set (saved one) 0 2) (replicate 252 0) area) _ area _ (refusals_of_conversion (set (saved one) 0 2) (replicate 252 0) area) 4 refl (λ z. omega (arith, z))

contents_then : (v : ℕ) × ConvertGiven (set (saved one) 0 2) (replicate 251 0) area (of_image bad_head)
unfolding computing conversion converted
contents_then = reason_of_lem (ConvertGiven (set (saved one) 0 2) (replicate 251 0) area) _ area _ (refusals_of_conversion (set (saved one) 0 2) (replicate 251 0) area) 5 refl (λ z. omega (arith, z))

copy_then : (v : ℕ) × ConvertGiven (set (saved one) 54 1) (replicate 251 0) area (of_image (bad_body copy_differs v))
unfolding computing conversion converted
copy_then = reason_of_lem (ConvertGiven (set (saved one) 54 1) (replicate 251 0) area) _ area _ (refusals_of_conversion (set (saved one) 54 1) (replicate 251 0) area) 8 refl (λ z. omega (arith, z))

-- ---- with a board

-- 7 for a board of 255 bytes, before 4
short_board : BoardGiven (request.poll 3) (replicate 260 1) (replicate 255 0) area short_room
unfolding computing boarding
short_board = (board_by_number (request.poll 3) (replicate 260 1) (replicate 255 0) area).seven.0 refl

board_of_an_image : BoardGiven (request.poll 3) (replicate 260 1) (replicate 256 0) area (of_image bad_length)
unfolding computing boarding
board_of_an_image = (board_by_number (request.poll 3) (replicate 260 1) (replicate 256 0) area).four.0 refl

event_unheard : EventGiven (replicate 255 0) area short_room
unfolding hearing
event_unheard = (event_by_number (replicate 255 0) 3 1 area).seven.0 refl

-- ---- under the hoist profile

-- 14 of a Byte to ISR, which 15 is not asked about; 15 of a Dword there, but 2 and 1 before both; 14 of a read
byte_to_isr : WriteGiven 0 0x400 0x3a0 1 0 (saved two) (0 ∷ []) area (of_profile not_aligned)
unfolding hoisting
byte_to_isr = (write_by_number 0 0x400 0x3a0 1 0 (saved two) (0 ∷ []) area).fourteen.0 refl

dword_to_isr : WriteGiven 0 0x400 0x3a0 4 0 (saved two) (0 ∷ []) area (of_profile not_fit)
unfolding hoisting
dword_to_isr = (write_by_number 0 0x400 0x3a0 4 0 (saved two) (0 ∷ []) area).fifteen.0 refl

width_first : WriteGiven 0 0x400 0x3a0 3 0 (saved two) (0 ∷ []) area (of_request bad_width)
unfolding hoisting
width_first = (write_by_number 0 0x400 0x3a0 3 0 (saved two) (0 ∷ []) area).two.0 refl

address_first : (x : ℕ) × WriteGiven 0 0x3a0 0x3a0 4 0 (saved two) (0 ∷ []) area (of_request (bad_address x))
unfolding hoisting
address_first = (write_by_number 0 0x3a0 0x3a0 4 0 (saved two) (0 ∷ []) area).one.0 refl

byte_read_lem : ReadGiven 0 0x400 0x100 1 (saved two) area (of_profile not_aligned)
unfolding hoisting
byte_read_lem = (read_by_number 0 0x400 0x100 1 (saved two) area).fourteen.0 refl

-- 15 of an end that was made already; of one with 7 or 4 before it; and a reset with no phase
ended_twice : EndGiven (saved two) (1 ∷ []) area (of_profile not_fit)
unfolding hoisting
ended_twice = (end_by_number (saved two) (1 ∷ []) area).fifteen.0 refl

end_of_no_image : EndGiven (replicate 260 1) (1 ∷ []) area (of_image bad_length)
unfolding hoisting
end_of_no_image = (end_by_number (replicate 260 1) (1 ∷ []) area).four.0 refl

no_phase : ResetGiven (replicate 260 1) [] area short_room
unfolding hoisting
no_phase = (reset_by_number (replicate 260 1) [] area).seven.0 refl

-- ---- a trace

-- one block of three records: input 3 raised, a drain, and a drain
abbrev day : List ℕ
day = (1 ∷ 0 ∷ 6 ∷ 0 ∷ 3 ∷ 0 ∷ []) ++ ((1 ∷ 3 ∷ replicate 14 0) ++ ((6 ∷ replicate 15 0) ++ (6 ∷ replicate 15 0)))

unfoldable tracing : ℕ
unfolding computing blocks_from records_in back_to_back contents_good is_good first_bad trace_test records_from drains_in play_test play_on_test playing playing_on
tracing = 0

-- 12 before 13, and both where there is no room for the answers either
play_of_wrong_contents : PlayGiven (set (set day 4 4) 23 1) (replicate 251 7) [] [] area (of_trace bad_contents)
unfolding tracing
play_of_wrong_contents = (play_by_number (set (set day 4 4) 23 1) (replicate 251 7) [] [] area).twelve.0 refl

play_of_a_bad_record : (k : ℕ) × PlayGiven (set day 23 1) (replicate 251 7) [] [] area (of_trace (bad_at k))
unfolding tracing
play_of_a_bad_record = (play_by_number (set day 23 1) (replicate 251 7) [] [] area).thirteen.0 refl

-- 7 late: a byte less than two drains ask for
play_without_room : PlayGiven day (replicate 251 7) (replicate 48 0) (replicate 127 0) area short_room
unfolding tracing
play_without_room = (play_by_number day (replicate 251 7) (replicate 48 0) (replicate 127 0) area).seven.0 refl

-- played on, the image comes before the trace
play_on_of_contents : PlayOnGiven (set day 4 4) (replicate 251 7) [] [] area (of_image bad_head)
unfolding tracing
play_on_of_contents = (play_on_by_number (set day 4 4) (replicate 251 7) [] [] area).five.0 refl

play_on_of_a_flag : (p : ℕ) × PlayOnGiven (set day 4 4) (set (set (saved one) 222 1) 228 2) [] [] area (of_image (bad_body bad_flag p))
unfolding tracing
play_on_of_a_flag = ((play_on_by_number (set day 4 4) (set (set (saved one) 222 1) 228 2) [] [] area).body bad_flag).0 refl

play_on_of_a_bad_record : (k : ℕ) × PlayOnGiven (set day 23 1) (saved two) [] [] area (of_trace (bad_at k))
unfolding tracing
play_on_of_a_bad_record = (play_on_by_number (set day 23 1) (saved two) [] [] area).thirteen.0 refl

-- salvaged: 12; 16, though there is no room either; 7
salvage_of_wrong_contents : SalvageGiven (set day 4 4) [] [] area (of_trace bad_contents)
unfolding computed.computed salvaging
salvage_of_wrong_contents = (salvage_by_number (set day 4 4) [] [] area).twelve.0 refl

salvage_of_nothing : SalvageGiven (set day 23 1) [] [] area none_left
unfolding computed.computed salvaging
salvage_of_nothing = (salvage_by_number (set day 23 1) [] [] area).sixteen.0 refl

salvage_without_room : SalvageGiven day (replicate 53 0) [] area short_room
unfolding computed.computed salvaging
salvage_without_room = (salvage_by_number day (replicate 53 0) [] area).seven.0 refl

-- ---- a sheet and a tally

sheet_of_a_bad_record : (k : ℕ) × SheetGiven (set day 23 1) (replicate 2600 0) area (of_trace (bad_at k))
unfolding tracing sheeting
sheet_of_a_bad_record = (sheet_by_number (set day 23 1) (replicate 2600 0) area).thirteen.0 refl

sheet_of_wrong_contents : SheetGiven (set (set day 4 4) 23 1) (replicate 2600 0) area (of_trace bad_contents)
unfolding tracing sheeting
sheet_of_wrong_contents = (sheet_by_number (set (set day 4 4) 23 1) (replicate 2600 0) area).twelve.0 refl

-- a tally of 0xff: its first number is 2 ^ 64 - 1
abbrev great : List ℕ
great = replicate 5200 255

is_great : FirstUnsound great 0
is_great = record { number = 0; place = refl; listed = lit< tt; wrong = refl; before = λ j h. absurd (omega arith) }

room : TallyRoom area great
room = (lit≤ tt, let n = length-replicate {A = ℕ} 5200 255 in omega (arith, n))

good_day : IsTrace day
unfolding tracing
good_day = good_is day {first = _} {n = _} refl

good_image : IsImage (saved two)
unfolding computing
good_image = (accepted_exactly (saved two)).0 refl

-- 7 of a tally that is a byte short
begin_without_room : (beginning (replicate 5199 0) area).number ≡ 7
begin_without_room = (begin_by_number (replicate 5199 0) area).seven.1 (inr (let n = length-replicate {A = ℕ} 5199 0 in omega (arith, n)))

-- 17 of an added trace, after image and trace, and of a sheet, with the place of that number
add_of_a_great_number : (adding day (saved two) great area).number ≡ 17
add_of_a_great_number = (add_by_number day (saved two) great area).seventeen.1 (0, (room, good_image, good_day, is_great))

sum_of_a_great_number : (summing great (replicate 5200 0) area).number ≡ 17
sum_of_a_great_number = (sum_by_number great (replicate 5200 0) area).seventeen.1 (0, (room.1, (lit≤ tt, let n = length-replicate {A = ℕ} 5200 0 in omega (arith, n)), is_great))

-- 12 and 13 come before it, and 5 before these
add_of_wrong_contents : (adding (set day 4 4) (saved two) great area).number ≡ 12
unfolding tracing
add_of_wrong_contents = (add_by_number (set day 4 4) (saved two) great area).twelve.1 (room, good_image, refl)

add_of_no_image : (adding (set day 4 4) (replicate 251 7) great area).number ≡ 5
unfolding computing
add_of_no_image = (add_by_number (set day 4 4) (replicate 251 7) great area).five.1 (room, (found_exactly (replicate 251 7) bad_head).0 refl)
