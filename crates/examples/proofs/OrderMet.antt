-- The premises of the theorem on the order of events can be met (02, C-19), and its numbers pass 65,535: exported calls on an image of 290 bytes with the next
-- number 65,534, in which events are returned, kept, drained and dropped, and some still wait at last. And the same from a reset.
use Rattle.basics.proofs.Prelude.{◌≡◌, refl, sym, ap, subst, ◌∙◌, true, false, not, ◌&&◌, ◌||◌, List, [], ◌∷◌, ◌++◌, inl, inr, ℕ, ◌<◌, ◌≤◌, lit<, lit≤, length, replicate}
use lib.IntN.{pos, neg_ℤ}
use Rattle.rules.specs.{Access.dword, Device.Device, Device.WellFormed, Device.Call, Device.level, Device.write, Device.drain, Device.with_lines, Device.up_from, Device.reset}
use Rattle.rules.specs.Numbering.{Numbers, WellNumbered, Numbered, from_zero}
use Rattle.images.specs.{Form.numbered, Image.encode_as, Image.decode, Image.numbers_in}
use Rattle.calls.{specs.Calls.Request, proofs.laws.Computing.computing}
use Rattle.histories.specs.exported.Exported.{Exported, left_by, is_done, done_calls, left_after}
use Rattle.difference.specs.Difference.{difference_of}
use Rattle.order.specs.{Fates.Placed, Fates.is_dropped, Fates.placed, Fates.placed_from, Fates.events_made, Fates.with_fate, Numbered.all_from, Numbered.waiting_with, Numbered.some_has, Numbered.InOrder}
use Rattle.order.specs.Sorted.{Rearranged, exchanged, put_by, sorted_by, by_difference, handed_back_of}
use Rattle.order.specs.{MadeFirst.MadeAfter, MadeFirst.TellsFirst, Read.returned_read, Read.drained_read}
use Rattle.order.proofs.demands.{OfCalls.numbers_of_an_image, OfCalls.numbers_from_reset, MadeFirst.handed_back_was_made, MadeFirst.sign_tells_first, MadeFirst.few_are_near, ByDifference.difference_restores_the_order}
use Rattle.laws.proofs.demands.RoundTrip.{saved_is_bytes, saved_is_accepted, saved_and_loaded, numbers_saved, reset_can_be_saved}
use Rattle.examples.proofs.ExportedMet.{handed_on, handed_on_lem}
use Rattle.calls.specs.Calls as request

-- ---- an image with the next number 65,534

-- all inputs are unmasked, 0 to 17 are in service, and nothing waits
abbrev begun : Device
begun = with_lines reset (record { mask = 0; irr = 0; isr = 0x3ffff })

abbrev near_end : Numbers
near_end = record { next = 65534; waiting = [] }

begun_well : WellFormed begun
begun_well =
    let w = reset_can_be_saved.0 in
    record {
      mask = lit< tt;
      irr = lit< tt;
      isr = lit< tt;
      plains = w.plains;
      route_bytes = w.route_bytes;
      routes = w.routes;
      vector_bytes = w.vector_bytes;
      vectors = w.vectors;
      event_bytes = w.event_bytes;
      waiting = w.waiting;
      drops = w.drops;
    }

near_end_numbered : WellNumbered begun near_end
near_end_numbered = record { next = lit< tt; each = λ i. lit< tt; waiting = refl }

abbrev image : List ℕ
image = encode_as numbered begun near_end

-- raise 20; a poll of 64, which is refused; mask 0 to 17; drain into thirteen bytes from place 1 on; lower 20
abbrev asked : List Request
asked =
    request.level 20 1 ∷ request.poll 64 ∷ request.write 0 0x400 0x020 4 0x3ffff ∷ request.drain (replicate 13 0xee) 1 ∷ request.level 20 0 ∷ []

abbrev calls : List Exported
calls = handed_on image asked

-- the premises are met
image_length : length image ≡ 290
unfolding computing
image_length = refl

met : InOrder (decode image) (numbers_in image) (done_calls calls) (returned_read calls) (drained_read calls) (decode (left_after image calls)) (numbers_in (left_after image calls))
met =
    numbers_of_an_image image (saved_is_bytes begun begun_well near_end near_end_numbered numbered) image_length
    (saved_is_accepted begun begun_well near_end near_end_numbered numbered) calls (handed_on_lem image asked refl)

-- ---- what a host reads

abbrev event_of : ℕ → ℕ → Numbered
event_of vector number = record { event = record { vector = vector; asserted = false }; number = number }

-- the raise of 20 returned the first event, with 65,534, and its lowering the last, with 17
returned_numbers : returned_read calls ≡ record { event = record { vector = 20; asserted = true }; number = 65534 } ∷ event_of 20 17 ∷ []
unfolding computing returned_read
returned_numbers = refl

-- of eighteen deasserts offered, with 65,535 and then 0 to 16, the first three were drained
drained_numbers : drained_read calls ≡ event_of 0 65535 ∷ event_of 1 0 ∷ event_of 2 1 ∷ []
unfolding computing drained_read
drained_numbers = refl

-- thirteen wait, with 2 to 14, and the next event gets 18
left_numbers : numbers_in (left_after image calls) ≡ record { next = 18; waiting = up_from 2 13 }
unfolding computing left_after
left_numbers = refl

-- ---- the missing numbers

-- the calls of the device that were done
abbrev done : List Call
done = level 20 true ∷ write dword 0x020 0x3ffff ∷ drain 3 ∷ level 20 false ∷ []

calls_done : done_calls calls ≡ done
unfolding computing done_calls
calls_done = refl

-- twenty events, of which the last two that were offered were dropped
dropped_numbers : all_from 65534 (with_fate is_dropped (events_made begun done)) ≡ event_of 16 15 ∷ event_of 17 16 ∷ []
unfolding computing placed placed_from
dropped_numbers = refl

twenty : length (events_made begun done) ≡ 20
unfolding computing placed placed_from
twenty = refl

-- the theorem, of that device and those calls
met_as : InOrder begun near_end done (returned_read calls) (drained_read calls) (decode (left_after image calls)) (numbers_in (left_after image calls))
met_as =
    let last = left_after image calls in
    let loads = saved_and_loaded begun begun_well near_end near_end_numbered numbered in
    let numbers-are = numbers_saved begun begun_well near_end near_end_numbered in
    let of-device = subst (λ d. InOrder d (numbers_in image) (done_calls calls) (returned_read calls) (drained_read calls) (decode last) (numbers_in last)) loads met in
    let of-numbers = subst (λ s. InOrder begun s (done_calls calls) (returned_read calls) (drained_read calls) (decode last) (numbers_in last)) numbers-are of-device in
    subst (λ cs. InOrder begun near_end cs (returned_read calls) (drained_read calls) (decode last) (numbers_in last)) calls_done of-numbers

-- so a number of an event made is missing exactly if it is 15 or 16, or waits
missing_numbers : (n : ℕ)
    → (some_has n (all_from 65534 (events_made begun done)) && not (some_has n (returned_read calls) || some_has n (drained_read calls)))
    ≡ (some_has n (all_from 65534 (with_fate is_dropped (events_made begun done))) || some_has n (waiting_with (decode (left_after image calls)) (numbers_in (left_after image calls))))
missing_numbers = met_as.missing refl (rw twenty (lit≤ tt))

fifteen_missing : (some_has 15 (all_from 65534 (events_made begun done)) && not (some_has 15 (returned_read calls) || some_has 15 (drained_read calls))) ≡ true
fifteen_missing = missing_numbers 15 ∙ rw dropped_numbers

-- ---- which was made first

-- the deassert of 20, with 17, was made 19 places after its assert, with 65,534: the theorem says of both which events they are
lowered_last : (before : List Placed) × MadeAfter 65534 (events_made begun done) before (event_of 20 17)
lowered_last =
    handed_back_was_made begun near_end done (returned_read calls) (drained_read calls) (decode (left_after image calls)) (numbers_in (left_after image calls)) met_as refl (event_of 20 17)
    (inl (record { before = record { event = record { vector = 20; asserted = true }; number = 65534 } ∷ []; after = []; stands = returned_numbers }))

drained_third : (before : List Placed) × MadeAfter 65534 (events_made begun done) before (event_of 1 0)
drained_third =
    handed_back_was_made begun near_end done (returned_read calls) (drained_read calls) (decode (left_after image calls)) (numbers_in (left_after image calls)) met_as refl (event_of 1 0)
    (inr (record { before = event_of 0 65535 ∷ []; after = event_of 2 1 ∷ []; stands = drained_numbers }))

in_their_order : TellsFirst (length lowered_last.0) (length drained_third.0) (difference_of 17 0)
in_their_order =
    let few : length (events_made begun done) ≤ 32768 = rw twenty (lit≤ tt) in
    sign_tells_first 65534 begun done lowered_last.0 drained_third.0 (event_of 20 17) (event_of 1 0) lowered_last.1 drained_third.1
    (few_are_near 65534 begun done lowered_last.0 drained_third.0 (event_of 20 17) (event_of 1 0) lowered_last.1 drained_third.1 few)

-- so the event of 1, though its number is less than that of the raise of 20 and it was drained, was made before the deassert of 20
first_of_both : length drained_third.0 < length lowered_last.0
first_of_both = in_their_order.positive.0 (record { lt = tt })

-- and past 65,535 the difference counts on
past_the_end : (difference_of 17 65534 ≡ pos 19) × (difference_of 65534 0 ≡ neg_ℤ (pos 2))
past_the_end = (refl, refl)

-- ---- sorted

-- the deassert of 20 in front, though it was made last: sorted by the difference from it, the five events stand in the order of making, which goes on past 65,535
abbrev collected : List Numbered
collected = event_of 20 17 ∷ record { event = record { vector = 20; asserted = true }; number = 65534 } ∷ event_of 0 65535 ∷ event_of 1 0 ∷ event_of 2 1 ∷ []

sorted_told : by_difference 17 collected ≡ record { event = record { vector = 20; asserted = true }; number = 65534 } ∷ event_of 0 65535 ∷ event_of 1 0 ∷ event_of 2 1 ∷ event_of 20 17 ∷ []
unfolding sorted_by put_by
sorted_told = refl

in_another_order : Rearranged collected (returned_read calls ++ drained_read calls)
in_another_order =
    subst (λ l. Rearranged collected (l ++ drained_read calls)) (sym returned_numbers)
    (subst (λ l. Rearranged collected ((record { event = record { vector = 20; asserted = true }; number = 65534 } ∷ event_of 20 17 ∷ []) ++ l)) (sym drained_numbers) exchanged)

order_restored : by_difference 17 collected ≡ all_from (numbers_in image).next (handed_back_of (length (drained_read calls)) (events_made (decode image) (done_calls calls)))
order_restored =
    let loads = saved_and_loaded begun begun_well near_end near_end_numbered numbered in
    let few : length (events_made (decode image) (done_calls calls)) ≤ 32768 = rw (loads, calls_done, twenty) (lit≤ tt) in
    difference_restores_the_order image (saved_is_bytes begun begun_well near_end near_end_numbered numbered) image_length (saved_is_accepted begun begun_well near_end near_end_numbered numbered)
    (ap (λ (d : Device). d.ring.waiting) loads) calls (handed_on_lem image asked refl) few (event_of 20 17)
    (inl (record { before = record { event = record { vector = 20; asserted = true }; number = 65534 } ∷ []; after = []; stands = returned_numbers })) collected in_another_order

-- ---- from a reset

-- 290 bytes of 7, reset; then 5 is raised, unmasked, lowered, and what waits is drained
abbrev resetting : Exported
resetting = record { given = replicate 290 7; asked = request.reset; answer = replicate 16 0 }

abbrev after : List Request
after = request.level 5 1 ∷ request.write 0 0x400 0x020 4 0xffffffdf ∷ request.level 5 0 ∷ request.drain (replicate 4 0xee) 0 ∷ []

abbrev after_reset : List Exported
after_reset = handed_on (left_by resetting).image after

reset_done : is_done resetting ≡ true
unfolding computing
reset_done = refl

met_from_reset : let last = left_after (left_by resetting).image after_reset in
    InOrder reset (from_zero 0) (done_calls after_reset) (returned_read after_reset) (drained_read after_reset) (decode last) (numbers_in last)
met_from_reset = numbers_from_reset resetting refl reset_done refl after_reset (handed_on_lem (left_by resetting).image after refl)

-- the assert, which was drained, has 0; the deassert, which was returned before, has 1
reset_returned : returned_read after_reset ≡ event_of 5 1 ∷ []
unfolding computing returned_read
reset_returned = refl

reset_drained : drained_read after_reset ≡ record { event = record { vector = 5; asserted = true }; number = 0 } ∷ []
unfolding computing drained_read
reset_drained = refl
