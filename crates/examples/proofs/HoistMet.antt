-- The premises of what is proved of a hoist guest can be met, and what it counts is not nothing: a start-up, its end and the first sample, each call given the image and the phase that the one before it left,
-- refused calls among them, with what they hand back computed.
use Rattle.basics.proofs.Prelude.{◌≡◌, refl, sym, ap, subst, ◌∙◌, Bool, true, false, not, ◌&&◌, and-eq-true_iff, and-false, List, [], ◌∷◌, ◌++◌, map, ℕ, zero, suc, ◌+◌, arith, length, lit<, lit≤, take, drop, get_or, replicate, not-true}
use Rattle.rules.specs.{Lines.Made, Ring.dropped, Access.dword, Device.Device, Device.Call, Device.step, Device.level, Device.poll, Device.write, Device.drain, Device.reset, Account.carrying, Account.asserts_among, Account.deasserts_among}
use Rattle.images.specs.{Form.two, Image.decode}
use Rattle.calls.proofs.laws.Computing.{computing}
use Rattle.histories.specs.Demands.{in_service, found_by, left_full, ring_acts}
use Rattle.histories.specs.exported.Exported.{Underway, carried_through, done_calls, in_image, at_load}
use Rattle.histories.proofs.exported.laws.Chains.{faithful_at_load}
use Rattle.hoists.specs.Hoisted.{Asks, resets, reads, writes, ends, levels, polls, drains, Hoisted, left_by, is_done, plain_call, plain_calls, returned_under, drained_under, is_reset, HandedOn, left_after}
use Rattle.hoists.specs.Phased.{phase_left, PhasedOn, Guest, Started}
use Rattle.hoists.proofs.under_profile.demands.Phased.{guest_started, vector_bytes_stay, vector_write_refused, guest_order, guest_else_dropped}
use Rattle.hoists.proofs.{laws.Computed.hoisting, under_profile.demands.DemandThree.account_of_a_guest, under_profile.demands.DemandThree.service_under_profile}
use Rattle.hoists.proofs.under_profile.demands.Handed.{handed_on_is_no_load}
use Rattle.examples.proofs.{PremisesMet.all_spared, PremisesMet.begun, ExportedMet.image_of, ExportedMet.left_bytes, ExportedMet.left_accepted}

-- ---- calls, one after another

-- with an answer area of zeros, each given the image and the phase that the one before it left
abbrev handed_on : (image phase : List ℕ) → List Asks → List Hoisted
handed_on i p [] = []
handed_on i p (k ∷ ks) =
    let x : Hoisted = record { given = i; phase = p; asks = k; answer = replicate 16 0 } in
    x ∷ handed_on (left_by x).image (phase_left x) ks

abbrev no_reset : List Asks → Bool
no_reset [] = true
no_reset (k ∷ ks) = not (is_reset k) && no_reset ks

handed_on_lem : (i p : List ℕ) (ks : List Asks) → no_reset ks ≡ true → HandedOn i (handed_on i p ks)
unfolding HandedOn
handed_on_lem i p [] e = tt
handed_on_lem i p (k ∷ ks) e =
    let both = (and-eq-true_iff (not (is_reset k)) (no_reset ks)).0 e in
    let x : Hoisted = record { given = i; phase = p; asks = k; answer = replicate 16 0 } in
    (refl, not-true (is_reset k) both.0, handed_on_lem (left_by x).image (phase_left x) ks both.1)

-- with the phase too
phased : (i p : List ℕ) (ks : List Asks) → no_reset ks ≡ true → PhasedOn i p (handed_on i p ks)
unfolding PhasedOn
phased i p [] e = tt
phased i p (k ∷ ks) e =
    let both = (and-eq-true_iff (not (is_reset k)) (no_reset ks)).0 e in
    let x : Hoisted = record { given = i; phase = p; asks = k; answer = replicate 16 0 } in
    (refl, rw (not-true (is_reset k) both.0) (and-false (is_done x)), phased (left_by x).image (phase_left x) ks both.1)

-- ---- a guest

-- any 251 bytes, and any phase
abbrev begins : Hoisted
begins = record { given = replicate 251 0x77; phase = 9 ∷ []; asks = resets; answer = replicate 16 0 }

-- vectors 0x44 to 0x47 for inputs 4 to 7, input 5 unmasked and raised; its vector changed, a Byte written to ISR and start-up ended, all refused; lowered, and start-up ended; input 6
-- raised and unmasked in place of 5, its event drained into thirteen bytes from place 1 on; and a vector written as it stands, refused
abbrev asked : List Asks
asked =
    writes 0 0x400 0x204 4 0x47464544 ∷ writes 0 0x400 0x020 4 0xffffffdf ∷ levels 5 1 ∷ writes 0 0x400 0x204 4 0 ∷ writes 0 0x400 0x3a0 1 0 ∷ ends ∷ levels 5 0 ∷ ends
    ∷ levels 6 1 ∷ writes 0 0x400 0x020 4 0xffffffbf ∷ drains (replicate 13 0xee) 1 ∷ writes 0 0x400 0x204 4 0x47464544 ∷ []

abbrev guest : List Hoisted
guest = handed_on (left_by begins).image (0 ∷ []) asked

reset_done : is_done begins ≡ true
unfolding hoisting
reset_done = refl

reset_starts : phase_left begins ≡ 0 ∷ []
unfolding hoisting
reset_starts = refl

-- which calls are done, and why the others are refused
numbers_told : map (λ x. (left_by x).number) guest ≡ 0 ∷ 0 ∷ 0 ∷ 15 ∷ 14 ∷ 15 ∷ 0 ∷ 0 ∷ 0 ∷ 0 ∷ 0 ∷ 15 ∷ []
unfolding hoisting
numbers_told = refl

-- the calls of the full device that they are; the end of start-up is none
abbrev made : List Call
made = write dword 0x204 0x47464544 ∷ write dword 0x020 0xffffffdf ∷ level 5 true ∷ level 5 false ∷ level 6 true ∷ write dword 0x020 0xffffffbf ∷ drain 3 ∷ []

guest_calls : done_calls (plain_calls guest) ≡ made
unfolding hoisting done_calls plain_calls
guest_calls = refl

-- what comes back: input 5's assert and deassert in answer areas, input 6's assert in the event buffer
guest_returned : returned_under guest ≡ record { vector = 0x45; asserted = true } ∷ record { vector = 0x45; asserted = false } ∷ []
unfolding hoisting returned_under
guest_returned = refl

guest_drained : drained_under guest ≡ record { vector = 0x46; asserted = true } ∷ []
unfolding hoisting drained_under
guest_drained = refl

none_dropped_lem : dropped reset.ring (ring_acts reset made) ≡ []
unfolding hoisting dropped ring_acts
none_dropped_lem = refl

-- the account of any vector, with no premise but that the calls are handed on; nothing was dropped
guest_account : (v : ℕ)
    → let left = decode (left_after (left_by begins).image guest) in
    asserts_among v (returned_under guest) + asserts_among v (drained_under guest) + asserts_among v left.ring.waiting + asserts_among v []
    ≡ deasserts_among v (returned_under guest) + deasserts_among v (drained_under guest) + deasserts_among v left.ring.waiting + deasserts_among v [] + carrying v left.core
guest_account v = account_of_a_guest v begins refl reset_done guest (handed_on_lem (left_by begins).image (0 ∷ []) asked refl) []
    (sym (ap (λ cs. dropped reset.ring (ring_acts reset cs)) guest_calls ∙ none_dropped_lem))

-- ---- after start-up

the_guest : Guest begins guest
the_guest = record { asked = refl; begun = reset_done; handed_on = subst (λ p. PhasedOn (left_by begins).image p guest) (sym reset_starts) (phased (left_by begins).image (0 ∷ []) asked refl) }

-- the end of start-up that was done, and the last call, which writes a vector as it stands
abbrev the_end : Hoisted
the_end = get_or guest 7 begins

abbrev the_write : Hoisted
the_write = get_or guest 11 begins

has_ended : is_done the_end ≡ true
unfolding hoisting
has_ended = refl

after_the_end : Started the_end (drop 8 guest)
after_the_end = guest_started begins (take 7 guest) the_end (drop 8 guest) the_guest refl has_ended

-- it is refused, and the vector bytes at last are those that start-up left
write_refused : (left_by the_write).number ≡ 15
unfolding computing
write_refused = vector_write_refused the_end (take 3 (drop 8 guest)) the_write [] after_the_end 0 0x400 0x204 4 0x47464544 refl dword 0x204 refl refl (lit≤ tt)

vectors_as_started : (decode (left_after (left_by the_end).image (drop 8 guest))).core.vectors ≡ (decode (left_by the_end).image).core.vectors
vectors_as_started = vector_bytes_stay the_end (drop 8 guest) after_the_end

started_with : take 8 (decode (left_by the_end).image).core.vectors ≡ 0 ∷ 1 ∷ 2 ∷ 3 ∷ 0x44 ∷ 0x45 ∷ 0x46 ∷ 0x47 ∷ []
unfolding hoisting
started_with = refl

-- input 6, raised while it was masked, is announced by the unmask: its event finds none waiting, and is the first that is read
unmasked_first : get_or (drained_under (drop 9 guest)) 0 (record { vector = 0; asserted = false }) ≡ record { vector = 0x46; asserted = true }
unfolding hoisting done_calls plain_calls drained_under left_after
unmasked_first =
    guest_order begins (take 9 guest) (get_or guest 9 begins) (drop 10 guest) the_guest (write dword 0x020 0xffffffbf) refl [] (record { input = 6; vector = 0x46; asserted = true; offered = true }) [] refl refl
    0 refl (lit< tt) (lit< tt) (record { vector = 0; asserted = false })

-- ---- a full ring

-- all unmasked, inputs 0 to 16 raised, and all masked again: seventeen deasserts, of which the last finds sixteen waiting
abbrev raised : ℕ → List Asks → List Asks
raised zero ks = ks
raised (suc n) ks = raised n (levels n 1 ∷ ks)

abbrev filling : List Asks
filling = writes 0 0x400 0x020 4 0 ∷ raised 17 (writes 0 0x400 0x020 4 0xffffffff ∷ [])

abbrev filled : List Hoisted
filled = handed_on (left_by begins).image (0 ∷ []) filling

fills : Guest begins filled
fills = record { asked = refl; begun = reset_done; handed_on = subst (λ p. PhasedOn (left_by begins).image p filled) (sym reset_starts) (phased (left_by begins).image (0 ∷ []) filling refl) }

abbrev leaves : ℕ → Made
leaves n = record { input = n; vector = n; asserted = false; offered = true }

abbrev sixteen : List Made
sixteen = leaves 0 ∷ leaves 1 ∷ leaves 2 ∷ leaves 3 ∷ leaves 4 ∷ leaves 5 ∷ leaves 6 ∷ leaves 7 ∷ leaves 8 ∷ leaves 9 ∷ leaves 10 ∷ leaves 11 ∷ leaves 12 ∷ leaves 13 ∷ leaves 14 ∷ leaves 15 ∷ []

-- the device that the raises left
abbrev before_mask : Device
before_mask = decode (left_after (left_by begins).image (take 18 filled))

masked_made : (step before_mask (write dword 0x020 0xffffffff)).made ≡ sixteen ++ (leaves 16 ∷ [])
unfolding hoisting left_after
masked_made = refl

all_wait : length (found_by before_mask sixteen).waiting ≡ 16
unfolding hoisting left_after
all_wait = refl

mask_is_done : done_calls (plain_call (get_or filled 18 begins)) ≡ write dword 0x020 0xffffffff ∷ []
unfolding hoisting done_calls
mask_is_done = refl

-- the last is dropped: the sixteen before it wait, and the drop count has it
last_dropped : (decode (left_by (get_or filled 18 begins)).image).ring ≡ left_full before_mask sixteen []
last_dropped =
    guest_else_dropped begins (take 18 filled) (get_or filled 18 begins) [] fills (write dword 0x020 0xffffffff) mask_is_done sixteen (leaves 16) [] masked_made refl (omega (arith, all_wait))

one_counted : (left_full before_mask sixteen []).drops ≡ 1
unfolding hoisting left_after
one_counted = refl

-- ---- service

-- in the image of begun 3 is in service, and 5 is latched and unmasked: ISR written empty, refused; 3 lowered; 5 polled; 3 cleared
abbrev polling : List Asks
polling = writes 0 0x400 0x3a0 4 0 ∷ levels 3 0 ∷ polls 5 ∷ writes 0 0x400 0x080 4 0x8 ∷ []

abbrev polling_calls : List Hoisted
polling_calls = handed_on (image_of two begun) (0 ∷ []) polling

abbrev from_begun : Underway
from_begun = at_load (image_of two begun)

abbrev the_poll : Hoisted
the_poll = get_or polling_calls 2 begins

refused_isr : (left_by (get_or polling_calls 0 begins)).number ≡ 15
unfolding hoisting
refused_isr = refl

-- it is in service in the image left last; nothing was asked of what the guest writes
five_served : in_service 5 (in_image (carried_through from_begun (plain_calls polling_calls))).core.lines ≡ true
unfolding hoisting done_calls plain_calls
five_served =
    service_under_profile from_begun (faithful_at_load (image_of two begun) (left_bytes two begun) (left_accepted two begun)) 5 (lit< tt) (record { latched = refl; unmasked = refl })
    (take 2 polling_calls) the_poll (drop 3 polling_calls) (poll 5) refl refl
    (handed_on_is_no_load from_begun polling_calls (handed_on_lem (image_of two begun) (0 ∷ []) polling refl)) (all_spared 5 (in_image from_begun) (done_calls (plain_calls polling_calls)) refl)
