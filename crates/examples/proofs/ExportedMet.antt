-- The premises of the theorems over exported calls can be met, and what they count is not nothing: requests, each given the image that the one before it
-- left, with what they hand back computed.
use Rattle.basics.proofs.Prelude.{◌≡◌, refl, sym, ap, ◌∙◌, Bool, true, false, not, ◌&&◌, and-eq-true_iff, List, [], ◌∷◌, ◌++◌, map, ℕ, ◌+◌, ◌-◌, ◌*◌, arith, lit<, lit≤, length, take, drop, get_or, replicate, not-true, Bytes}
use Rattle.rules.specs.{Access.dword, Ring.dropped}
use Rattle.rules.specs.Device.{Device, WellFormed, Call, level, poll, write, drain, none, step, reset, with_ring}
use Rattle.rules.specs.{Numbering.Numbers, Numbering.from_zero, Numbering.WellNumbered, History.history, History.from_reset, Copy.copy_acted, Copy.copy_through}
use Rattle.rules.specs.Account.{tally, asserts, deasserts, carrying, asserts_among, deasserts_among}
use Rattle.images.specs.{Form.Form, Form.one, Form.two, Form.numbered, Form.copy, Image.word_in, Image.encode_as, Image.decode, Image.numbers_in, Image.image_test, Image.accepted}
use Rattle.calls.{specs.Calls.pass, specs.Calls.Request, specs.Calls.asked_by, specs.Calls.answered, specs.Calls.value_in, specs.Calls.outcome, specs.Convert.converted, proofs.laws.Computing.computing}
use Rattle.calls.proofs.demands.Refused.{Unchanged, refused_changes_nothing}
use Rattle.histories.specs.{Premises.Along, Premises.Admitted, Demands.in_service, Demands.some_act, Demands.ring_acts}
use Rattle.histories.specs.exported.Exported.{Exported, left_by, is_reset, is_load, Underway, carried_on, carried_through, NoLoads, HandedOn, done_calls, left_after, in_image, Faithful, numbers_through, after_reset, at_load, returned_by, drained_by, losses_read, Balances}
use Rattle.histories.specs.exported.Alike.{Asking, made_on, NoFifth, AllAlike, AllAlikeBut}
use Rattle.histories.proofs.{laws.WellFormed.history_well, exported.laws.Chains.faithful_after_reset, exported.laws.Chains.faithful_at_load, exported.laws.Chains.through_numbered}
use Rattle.histories.proofs.exported.demands.FromCalls.{handed_on_is_no_load}
use Rattle.histories.proofs.exported.demands.HandedBack.{account_from_load, drops_of_calls, service_of_calls, service_once_raised, account_since_load, account_under_way}
use Rattle.histories.proofs.exported.demands.Losses.{losses_of_calls, losses_below_the_stop, losses_up_to_the_stop, losses_from_load}
use Rattle.histories.proofs.exported.demands.{ClearedCalls.cleared_polled_in_vain, ClearedCalls.cleared_asserts_had_waited, Copy.copy_of_calls}
use Rattle.histories.proofs.exported.demands.{Convert.numbers_within_each_call, Convert.converted_answers_alike, Convert.converted_answers_alike_but_for_numbers, ReadAlike.converted_read_alike}
use Rattle.laws.proofs.demands.{RoundTrip.saved_is_bytes, RoundTrip.saved_is_accepted, RoundTrip.saved_and_loaded, RoundTrip.numbers_not_saved, RoundTrip.reset_can_be_saved, Convert.can_be_converted}
use Rattle.examples.proofs.PremisesMet.{all_admitted, all_spared, all_undisturbed, all_unraised, all_carried_alone, begun, seventeen}
use Rattle.calls.specs.Calls as request

-- ---- exported calls

-- requests with an answer area of zeros, each given the image that the one before it left
abbrev pub handed_on : List ℕ → List Request → List Exported
handed_on i [] = []
handed_on i (q ∷ qs) =
    let x : Exported = record { given = i; asked = q; answer = replicate 16 0 } in
    x ∷ handed_on (left_by x).image qs

abbrev pub no_reset : List Request → Bool
no_reset [] = true
no_reset (q ∷ qs) = not (is_reset (asked_by q)) && no_reset qs

pub handed_on_lem : (i : List ℕ) (qs : List Request) → no_reset qs ≡ true → HandedOn i (handed_on i qs)
unfolding HandedOn
handed_on_lem i [] e = tt
handed_on_lem i (q ∷ qs) e =
    let both = (and-eq-true_iff (not (is_reset (asked_by q))) (no_reset qs)).0 e in
    let x : Exported = record { given = i; asked = q; answer = replicate 16 0 } in
    (refl, not-true (is_reset (asked_by q)) both.0, handed_on_lem (left_by x).image qs both.1)

-- raise 5, unmask it, a level call on input 64, lower 5, and drain into thirteen bytes from place 1 on
abbrev asked : List Request
asked = request.level 5 1 ∷ request.write 0 0x400 0x020 4 0xffffffdf ∷ request.level 64 1 ∷ request.level 5 0 ∷ request.drain (replicate 13 0xee) 1 ∷ []

abbrev exported : Form → List Exported
exported f = handed_on (encode_as f reset (from_zero 0)) asked

exported_carried_on : (f : Form) → NoLoads (after_reset f) (exported f)
exported_carried_on f = handed_on_is_no_load (after_reset f) (exported f) (handed_on_lem (encode_as f reset (from_zero 0)) asked refl)

-- the refused call is no call of the history
exported_calls : (f : Form) → done_calls (exported f) ≡ level 5 true ∷ write dword 0x020 0xffffffdf ∷ level 5 false ∷ drain 3 ∷ []
unfolding computing done_calls
exported_calls one = refl
exported_calls two = refl
exported_calls numbered = refl

-- a deassert of 5 comes back in an answer area, its assert in the event buffer
exported_returned : (f : Form) → returned_by (exported f) ≡ record { vector = 5; asserted = false } ∷ []
unfolding computing returned_by
exported_returned one = refl
exported_returned two = refl
exported_returned numbered = refl

exported_drained : (f : Form) → drained_by (exported f) ≡ record { vector = 5; asserted = true } ∷ []
unfolding computing drained_by
exported_drained one = refl
exported_drained two = refl
exported_drained numbered = refl

-- the assert of 5 waits with number 0, so that the returned deassert has 1, at bits 16 to 31: where the image keeps numbers it is the second event made, and where
-- it keeps none the number after those that wait
lowered_value : (f : Form) → value_in (left_by (get_or (exported f) 3 (record { given = []; asked = request.reset; answer = [] }))).answer ≡ 0x10005
unfolding computing
lowered_value one = refl
lowered_value two = refl
lowered_value numbered = refl

-- the image that calls from reset leave, with the numbers that they give, and the history that it begins
abbrev pub numbers_of : List Call → Numbers
numbers_of cs = numbers_through reset (from_zero 0) cs

abbrev pub image_of : Form → List Call → List ℕ
image_of f cs = encode_as f (from_reset cs).after (numbers_of cs)

pub left_well : (cs : List Call) → WellFormed (from_reset cs).after
left_well cs = history_well reset cs reset_can_be_saved.0

pub left_numbered : (cs : List Call) → WellNumbered (from_reset cs).after (numbers_of cs)
left_numbered cs = through_numbered reset (from_zero 0) cs reset_can_be_saved.1

pub left_bytes : (f : Form) (cs : List Call) → Bytes (image_of f cs)
left_bytes f cs = saved_is_bytes (from_reset cs).after (left_well cs) (numbers_of cs) (left_numbered cs) f

pub left_accepted : (f : Form) (cs : List Call) → image_test (image_of f cs) ≡ accepted
left_accepted f cs = saved_is_accepted (from_reset cs).after (left_well cs) (numbers_of cs) (left_numbered cs) f

begins : (f : Form) (cs : List Call) → Faithful (at_load (image_of f cs))
begins f cs = faithful_at_load (image_of f cs) (left_bytes f cs) (left_accepted f cs)

-- ---- numbers within one call

-- unmask all, raise 1, 2 and 3, which are returned, and mask them: three deasserts wait, and six events were made. Then 5 is raised, and then 6: both are returned
abbrev three_wait : List Call
three_wait = write dword 0x020 0 ∷ level 1 true ∷ level 2 true ∷ level 3 true ∷ write dword 0x020 0xe ∷ []

abbrev raised : List Asking
raised = record { asked = request.level 5 1; answer = replicate 16 0 } ∷ record { asked = request.level 6 1; answer = replicate 16 0 } ∷ []

abbrev value_of : Form → ℕ → ℕ
value_of f k = value_in (left_by (get_or (made_on (image_of f three_wait) raised) k (record { given = []; asked = request.reset; answer = [] }))).answer

-- of 259 bytes, which keep no numbers, each has 3, the number after those that wait; of 290 bytes they have 6 and 7
three_wait_without : (value_of one 0 ≡ 5 + 3 * 65536) × (value_of one 1 ≡ 6 + 3 * 65536)
unfolding computing made_on
three_wait_without = (refl, refl)

three_wait_with : (value_of numbered 0 ≡ 5 + 6 * 65536) × (value_of numbered 1 ≡ 6 + 7 * 65536)
unfolding computing made_on numbers_through
three_wait_with = (refl, refl)

-- the theorem that says so: its premises are met, and three wait still
three_wait_none : NoFifth (image_of one three_wait)
unfolding computing
three_wait_none e = let z : ◌≡◌ {A = ℕ} 259 290 = e in omega arith

three_wait_left : let last = left_after (image_of one three_wait) (made_on (image_of one three_wait) raised) in numbers_in last ≡ from_zero (length (decode last).ring.waiting)
three_wait_left = numbers_within_each_call (image_of one three_wait) (left_bytes one three_wait) (left_accepted one three_wait) three_wait_none raised

-- ---- the account from a load

-- a saved image of form 2 in which 5 is in service and its assert waits
abbrev saved_calls : List Call
saved_calls = level 5 true ∷ write dword 0x020 0xffffffdf ∷ []

-- it is loaded after a reset in form 1 by a call that lowers 5; then a drain
abbrev loading : Exported
loading = record { given = image_of two saved_calls; asked = request.level 5 0; answer = replicate 16 0 }

abbrev then_drained : List Exported
then_drained = handed_on (left_by loading).image (request.drain (replicate 13 0xee) 1 ∷ [])

loading_loads : is_load (after_reset one).left loading ≡ true
unfolding computing
loading_loads = refl

drained_handed_on : NoLoads (carried_on (after_reset one) loading) then_drained
unfolding computing carried_on
drained_handed_on = handed_on_is_no_load (carried_on (after_reset one) loading) then_drained (handed_on_lem (left_by loading).image (request.drain (replicate 13 0xee) 1 ∷ []) refl)

-- an assert is read that no call made, and a deassert of an input that no call put into service: both were loaded
loaded_balances : Balances 5 (decode (image_of two saved_calls)) (loading ∷ then_drained) [] (in_image (carried_through (after_reset one) (loading ∷ then_drained)))
unfolding computing done_calls dropped ring_acts
loaded_balances =
    account_from_load 5 (after_reset one) loading loading_loads refl (left_bytes two saved_calls) then_drained drained_handed_on
    (all_admitted (decode (image_of two saved_calls)) (done_calls (loading ∷ then_drained)) refl) [] refl

-- the same of the history that is under way once it is loaded, and of the events made since
under_way_balances : Balances 5 (decode (image_of two saved_calls)) (loading ∷ then_drained) [] (in_image (carried_through (at_load (image_of two saved_calls)) (loading ∷ then_drained)))
unfolding computing done_calls dropped ring_acts NoLoads carried_on
under_way_balances =
    account_under_way 5 (at_load (image_of two saved_calls)) (begins two saved_calls) (loading ∷ then_drained) (refl, drained_handed_on)
    (all_admitted (decode (image_of two saved_calls)) (done_calls (loading ∷ then_drained)) refl) [] refl

abbrev once : Underway
once = carried_through (after_reset one) (loading ∷ [])

once_admitted : Along Admitted once.began once.calls
unfolding computing carried_through carried_on
once_admitted = all_admitted once.began once.calls refl

since_load : asserts 5 (history once.began once.calls).made + carrying 5 once.began.core
    ≡ deasserts 5 (history once.began once.calls).made + carrying 5 (in_image once).core
since_load =
    account_since_load 5 (after_reset one) (loading ∷ []) (faithful_after_reset one) (left_bytes two saved_calls, tt)
    once_admitted

loaded_returned : deasserts_among 5 (returned_by (loading ∷ then_drained)) ≡ 1
unfolding computing returned_by tally
loaded_returned = refl

loaded_drained : asserts_among 5 (drained_by (loading ∷ then_drained)) ≡ 1
unfolding computing drained_by tally
loaded_drained = refl

loaded_waiting : asserts_among 5 (decode (image_of two saved_calls)).ring.waiting ≡ 1
unfolding computing tally
loaded_waiting = refl

loaded_carrying : carrying 5 (decode (image_of two saved_calls)).core ≡ 1
unfolding computing
loaded_carrying = refl

-- ---- the drop count

-- seventeen are in service: a MASK write offers seventeen deasserts, and a refused call nothing
abbrev masking : List Exported
masking = handed_on (image_of one seventeen) (request.write 0 0x400 0x020 4 0xffffffff ∷ request.poll 64 ∷ [])

one_dropped : (in_image (carried_through (at_load (image_of one seventeen)) masking)).ring.drops ≡ 1
unfolding computing done_calls dropped ring_acts
one_dropped =
    drops_of_calls (at_load (image_of one seventeen)) (begins one seventeen) masking
    (handed_on_is_no_load (at_load (image_of one seventeen)) masking (handed_on_lem (image_of one seventeen) (request.write 0 0x400 0x020 4 0xffffffff ∷ request.poll 64 ∷ []) refl))

-- ---- what writes say that they dropped

-- masked, the seventeenth deassert is dropped; a refused call; unmasked, the assert of 0; 1 and 2 are polled into service, and with 0 cleared
abbrev losing : List Request
losing =
    request.write 0 0x400 0x020 4 0xffffffff ∷ request.poll 64 ∷ request.write 0 0x400 0x020 4 0 ∷ request.poll 1 ∷ request.poll 2 ∷
    request.write 0 0x400 0x080 4 7 ∷ []

abbrev losing_calls : List Exported
losing_calls = handed_on (image_of one seventeen) losing

-- the three writes say 1, 1 and 3, and that is the rise
five_told : losses_read losing_calls ≡ 5
unfolding computing dropped losses_read
five_told = refl

losing_handed_on : NoLoads (at_load (image_of one seventeen)) losing_calls
losing_handed_on = handed_on_is_no_load (at_load (image_of one seventeen)) losing_calls (handed_on_lem (image_of one seventeen) losing refl)

five_dropped : (in_image (carried_through (at_load (image_of one seventeen)) losing_calls)).ring.drops ≡ 5
unfolding computing dropped losses_read
five_dropped = losses_of_calls (at_load (image_of one seventeen)) (begins one seventeen) losing_calls losing_handed_on

told_is_the_rise : (in_image (at_load (image_of one seventeen))).ring.drops + losses_read losing_calls
    ≡ (in_image (carried_through (at_load (image_of one seventeen)) losing_calls)).ring.drops
told_is_the_rise = losses_below_the_stop (at_load (image_of one seventeen)) (begins one seventeen) losing_calls losing_handed_on (rw five_dropped (lit< tt))

-- the same device with its count one below the stop, loaded after a reset by the first of these calls: they say 5 again, and the count rises by 1
abbrev near_stop : Device
near_stop = with_ring (from_reset seventeen).after (record { waiting = (from_reset seventeen).after.ring.waiting; drops = 4294967294 })

near_stop_well : WellFormed near_stop
near_stop_well =
    let w = left_well seventeen in
    record {
      mask = w.mask;
      irr = w.irr;
      isr = w.isr;
      plains = w.plains;
      route_bytes = w.route_bytes;
      routes = w.routes;
      vector_bytes = w.vector_bytes;
      vectors = w.vectors;
      event_bytes = w.event_bytes;
      waiting = w.waiting;
      drops = lit≤ tt;
    }

near_stop_numbered : WellNumbered near_stop (numbers_of seventeen)
near_stop_numbered =
    let v = left_numbered seventeen in
    record { next = v.next; each = v.each; waiting = v.waiting }

abbrev stop_image : List ℕ
stop_image = encode_as one near_stop (numbers_of seventeen)

stop_bytes : Bytes stop_image
stop_bytes = saved_is_bytes near_stop near_stop_well (numbers_of seventeen) near_stop_numbered one

stop_accepted : image_test stop_image ≡ accepted
stop_accepted = saved_is_accepted near_stop near_stop_well (numbers_of seventeen) near_stop_numbered one

abbrev stopping : Exported
stopping = record { given = stop_image; asked = request.write 0 0x400 0x020 4 0xffffffff; answer = replicate 16 0 }

abbrev after_stopping : List Exported
after_stopping = handed_on (left_by stopping).image (drop 1 losing)

stopping_loads : is_load (after_reset one).left stopping ≡ true
unfolding computing
stopping_loads = refl

stopping_handed_on : NoLoads (carried_on (after_reset one) stopping) after_stopping
unfolding computing carried_on
stopping_handed_on = handed_on_is_no_load (carried_on (after_reset one) stopping) after_stopping (handed_on_lem (left_by stopping).image (drop 1 losing) refl)

five_told_at_the_stop : losses_read (stopping ∷ after_stopping) ≡ 5
unfolding computing dropped losses_read
five_told_at_the_stop = refl

one_counted : (in_image (carried_through (after_reset one) (stopping ∷ after_stopping))).ring.drops ≡ 4294967295
unfolding computing dropped losses_read
one_counted =
    losses_from_load (after_reset one) stopping stopping_loads refl stop_bytes after_stopping stopping_handed_on

rise_fits : (in_image (at_load stop_image)).ring.drops + (4294967295 - (in_image (at_load stop_image)).ring.drops)
    ≡ (in_image (carried_through (at_load stop_image) (handed_on stop_image losing))).ring.drops
unfolding computing dropped losses_read
rise_fits =
    losses_up_to_the_stop (at_load stop_image) (faithful_at_load stop_image stop_bytes stop_accepted)
    (handed_on stop_image losing) (handed_on_is_no_load (at_load stop_image) (handed_on stop_image losing) (handed_on_lem stop_image losing refl)) (lit≤ tt)

-- ---- service

-- in the image of begun 3 is in service and 5 is latched and unmasked: write 5 into ISR, lower 3, and write ISR empty; poll 5; clear 3
abbrev polling : List Request
polling =
    request.write 0 0x400 0x3a0 4 0x28 ∷ request.level 3 0 ∷ request.write 0 0x400 0x3a0 4 0 ∷ request.poll 5 ∷ request.write 0 0x400 0x080 4 0x8 ∷ []

abbrev polling_calls : List Exported
polling_calls = handed_on (image_of one begun) polling

abbrev the_poll : Exported
the_poll = get_or polling_calls 3 loading

abbrev from_begun : Underway
from_begun = at_load (image_of one begun)

five_polled : in_service 5 (in_image (carried_through from_begun polling_calls)).core.lines ≡ true
unfolding computing done_calls
five_polled =
    service_of_calls from_begun (begins one begun) 5 (lit< tt) (record { latched = refl; unmasked = refl }) (take 3 polling_calls) the_poll (drop 4 polling_calls) (poll 5)
    (handed_on_is_no_load from_begun polling_calls (handed_on_lem (image_of one begun) polling refl)) (all_spared 5 (in_image from_begun) (done_calls (take 3 polling_calls)) refl) refl refl
    (all_undisturbed 5 (history (in_image from_begun) (done_calls (take 3 polling_calls) ++ (poll 5 ∷ []))).after (done_calls (drop 4 polling_calls)) refl)

-- 7 is unmasked there: raise it; clear 3
abbrev raising : List Request
raising = request.level 7 1 ∷ request.write 0 0x400 0x080 4 0x8 ∷ []

abbrev raising_calls : List Exported
raising_calls = handed_on (image_of one begun) raising

seven_raised : in_service 7 (in_image (carried_through from_begun raising_calls)).core.lines ≡ true
unfolding computing done_calls
seven_raised =
    service_once_raised from_begun (begins one begun) 7 (lit< tt) refl (get_or raising_calls 0 loading) (drop 1 raising_calls)
    (handed_on_is_no_load from_begun raising_calls (handed_on_lem (image_of one begun) raising refl)) refl
    (all_undisturbed 7 (step (in_image from_begun) (level 7 true)).after (done_calls (drop 1 raising_calls)) refl)

-- ---- the copy of IRR

-- 3 and 5 are latched there: with 7 raised and 3 cleared the copy has 5 and 7
five_and_seven_copied : word_in one (carried_through from_begun raising_calls).left copy ≡ 0xa0
unfolding computing done_calls copy_acted copy_through
five_and_seven_copied =
    copy_of_calls from_begun (begins one begun) refl raising_calls (handed_on_is_no_load from_begun raising_calls (handed_on_lem (image_of one begun) raising refl))

-- ---- two forms, and numbers

abbrev asks : Request → Asking
asks q = record { asked = q; answer = replicate 16 0 }

-- raise 7, clear 3, a poll with 15 bytes for its answer, one of an input that is none, drain into eight bytes; then a reset, and 5 raised and polled
abbrev asking : List Asking
asking =
    asks (request.level 7 1) ∷ asks (request.write 0 0x400 0x080 4 0x8) ∷ record { asked = request.poll 5; answer = replicate 15 0 } ∷ asks (request.poll 64) ∷
    asks (request.drain (replicate 8 0xee) 0) ∷ asks request.reset ∷ asks (request.level 5 1) ∷ asks (request.poll 5) ∷ []

-- the image of begun in form 1, moved to form 2
moved : converted (image_of one begun) (replicate 251 0) ≡ pass (image_of two begun)
unfolding computing converted
moved = refl

begun_bytes : Bytes (image_of one begun)
begun_bytes = left_bytes one begun

-- neither has numbers
begun_has_none : NoFifth (image_of one begun)
unfolding computing
begun_has_none e = let z : ◌≡◌ {A = ℕ} 259 290 = e in omega arith

target_has_none : NoFifth (replicate 251 0)
target_has_none e = let z : ◌≡◌ {A = ℕ} 251 290 = e in omega arith

begun_alike : AllAlike (made_on (image_of one begun) asking) (made_on (image_of two begun) asking)
begun_alike = converted_answers_alike (image_of one begun) (replicate 251 0) (image_of two begun) begun_bytes moved begun_has_none target_has_none asking

-- the assert of 3 waits there, its deassert comes behind it, and both are drained; so they are of form 2
drained_from_one : drained_by (made_on (image_of one begun) asking) ≡ record { vector = 3; asserted = true } ∷ record { vector = 3; asserted = false } ∷ []
unfolding computing made_on drained_by
drained_from_one = refl

drained_from_two : drained_by (made_on (image_of two begun) asking) ≡ record { vector = 3; asserted = true } ∷ record { vector = 3; asserted = false } ∷ []
drained_from_two =
    sym (converted_read_alike (image_of one begun) (replicate 251 0) (image_of two begun) begun_bytes moved asking).drained ∙ drained_from_one

-- moved to form 2 with numbers it has those that it loads with: the assert of 3 has 0, and 1 is next
abbrev with_numbers : List ℕ
with_numbers = encode_as numbered (from_reset begun).after (from_zero 1)

one_waits : length (from_reset begun).after.ring.waiting ≡ 1
unfolding computing
one_waits = refl

moved_with_numbers : converted (image_of one begun) (replicate 290 0) ≡ pass with_numbers
moved_with_numbers =
    let d = (from_reset begun).after in
    let holds = saved_and_loaded d (left_well begun) (numbers_of begun) (left_numbered begun) one in
    let loads = (numbers_not_saved d (left_well begun) (numbers_of begun) (left_numbered begun)).0 ∙ ap from_zero one_waits in
    can_be_converted (image_of one begun) (replicate 290 0) (left_accepted one begun) numbered refl ∙ (λ i. pass (encode_as numbered (holds i) (loads i)))

begun_alike_but : AllAlikeBut (made_on (image_of one begun) asking) (made_on with_numbers asking)
begun_alike_but = converted_answers_alike_but_for_numbers (image_of one begun) (replicate 290 0) with_numbers begun_bytes moved_with_numbers asking

-- raise 7, and then poll 5: there the second event has the next number, and here the same again, since the image that the first call left says nothing of it
abbrev two_asserts : List Asking
two_asserts = asks (request.level 7 1) ∷ asks (request.poll 5) ∷ []

abbrev values_of : List Exported → List ℕ
values_of xs = map (λ x. value_in (left_by x).answer) xs

values_with_numbers : values_of (made_on with_numbers two_asserts) ≡ 0x10007 ∷ 0x20005 ∷ []
unfolding computing made_on
values_with_numbers = refl

values_without : values_of (made_on (image_of one begun) two_asserts) ≡ 0x10007 ∷ 0x10005 ∷ []
unfolding computing made_on
values_without = refl

-- so the images are not alike in every byte, and to move it first or last is not the same: the numbers differ
not_wholly_alike : AllAlike (made_on (image_of one begun) two_asserts) (made_on with_numbers two_asserts) → ⊥
unfolding computing made_on AllAlike
not_wholly_alike a = let z : ◌≡◌ {A = ℕ} 0x10005 0x20005 = ap value_in a.1.0.answer in omega arith

next_if_first : (numbers_in (left_after with_numbers (made_on with_numbers two_asserts))).next ≡ 3
unfolding computing made_on left_after
next_if_first = refl

next_if_last : (numbers_in (left_after (image_of one begun) (made_on (image_of one begun) two_asserts))).next ≡ 1
unfolding computing made_on left_after
next_if_last = refl

-- ---- a cleared input

-- clear 3, whose line is high; poll it, mask it and unmask it; then poll it once more
abbrev clearing : List Request
clearing = request.write 0 0x400 0x080 4 0x8 ∷ request.poll 3 ∷ request.write 0 0x400 0x020 4 0x8 ∷ request.write 0 0x400 0x020 4 0 ∷ request.poll 3 ∷ []

abbrev clearing_calls : List Exported
clearing_calls = handed_on (image_of one begun) clearing

abbrev clearing3 : Exported
clearing3 = get_or clearing_calls 0 loading

abbrev after3 : List Exported
after3 = take 3 (drop 1 clearing_calls)

none_loads : NoLoads from_begun (clearing3 ∷ after3)
unfolding computing
none_loads = handed_on_is_no_load from_begun (take 4 clearing_calls) (handed_on_lem (image_of one begun) (take 4 clearing) refl)

three_polled_in_vain : (left_by (get_or clearing_calls 4 loading)).answer ≡ answered 0 none (replicate 16 0)
unfolding computing done_calls some_act carried_through carried_on
three_polled_in_vain =
    cleared_polled_in_vain from_begun (begins one begun) 3 (lit< tt) clearing3 after3 (write dword 0x080 0x8) none_loads refl refl
    (all_unraised 3 (in_image (carried_on from_begun clearing3)) (done_calls after3) refl) (get_or clearing_calls 4 loading) refl refl refl

-- its assert waited before the CLEAR, and is the only one that waits at last
three_had_waited : asserts_among 3 (in_image (carried_through from_begun (clearing3 ∷ after3))).ring.waiting ≡ 1
unfolding computing done_calls some_act dropped ring_acts returned_by drained_by tally carried_through carried_on
three_had_waited =
    cleared_asserts_had_waited from_begun (begins one begun) 3 (lit< tt) clearing3 after3 (write dword 0x080 0x8) none_loads refl refl
    (all_unraised 3 (in_image (carried_on from_begun clearing3)) (done_calls after3) refl) 3
    (all_carried_alone 3 3 (in_image from_begun) (done_calls (clearing3 ∷ after3)) refl) [] refl

-- ---- refusals

-- an answer area of 20 bytes, and one of 15
input_refused : Unchanged (request.level 64 1) (image_of one begun) (replicate 20 0xaa)
unfolding computing
input_refused = refused_changes_nothing (request.level 64 1) (image_of one begun) (replicate 20 0xaa) (λ e. let z : ◌≡◌ {A = ℕ} 3 0 = e in omega arith)

room_refused : (outcome (request.poll 5) (image_of one begun) (replicate 15 0xaa)).answer ≡ replicate 15 0xaa
unfolding computing
room_refused =
    (refused_changes_nothing (request.poll 5) (image_of one begun) (replicate 15 0xaa) (λ e. let z : ◌≡◌ {A = ℕ} 7 0 = e in omega arith)).seven refl
