-- The premises of the theorems on boards can be met (02, C-20): exported calls from a reset of 290 bytes, by which two inputs that share a vector come into service and one
-- leaves it, with events returned and drained out of the order of making. By rising number a second board ends equal to the first; as they came it would not. And a count that a
-- call changes.
use Rattle.basics.proofs.Prelude.{◌≡◌, refl, sym, ap, subst, ◌∙◌, true, false, List, [], ◌∷◌, ◌++◌, ℕ, ◌≤◌, arith, lit<, lit≤, length, take, get_or, replicate, take_all}
use Rattle.rules.specs.{Access.byte, Access.dword, Device.Device, Device.Call, Device.level, Device.write, Device.drain, Device.reset, Device.with_lines}
use Rattle.rules.specs.{Numbering.Numbered, Numbering.from_zero, Numbering.events_in, History.history, History.from_reset, Account.carrying}
use Rattle.images.specs.{Form.numbered, Image.encode_as, Image.decode}
use Rattle.calls.{specs.Calls.Request, proofs.laws.Computing.computing}
use Rattle.histories.specs.exported.Exported.{Exported, left_by, is_done, is_load, Underway, carried_on, carried_through, NoLoads, done_calls, in_image, after_reset}
use Rattle.histories.proofs.exported.{laws.Chains.faithful_after_reset, demands.FromCalls.handed_on_is_no_load, demands.FromCalls.image_holds_history}
use Rattle.order.specs.Read.{returned_read, drained_read}
use Rattle.boards.specs.{Board.counts_by, Board.recount, Board.Touching, Boarding.boarding, Boarding.board_by, Boarding.board_through, Boarding.hearing}
use Rattle.boards.specs.Hearing.{blank, heard_through, Complete, Interleaves, neither, first, second, inserted, by_number}
use Rattle.order.specs.Sorted.{Rearranged, behind, exchanged}
use Rattle.order.specs.Sorted as order
use Rattle.boards.proofs.{laws.Counts.counts_length, demands.Kept.only_touched_change, demands.Kept.next_changes_only_touched, demands.Second.by_number_equals_first, demands.Second.any_order_equals_first}
use Rattle.examples.proofs.{PremisesMet.all_admitted, ExportedMet.handed_on, ExportedMet.handed_on_lem}
use Rattle.calls.specs.Calls as request

-- ---- the calls

-- a reset of any 290 bytes, whatever was under way
abbrev before : Underway
before = record { began = reset; calls = []; left = [] }

abbrev resetting : Exported
resetting = record { given = replicate 290 0xee; asked = request.reset; answer = replicate 16 0 }

-- input 9 gets the vector 5; raise 5 and unmask all, by which its assert waits; lower 5, and raise 9, each of which returns an event; a poll of 64 is refused; drain
abbrev asked : List Request
asked =
    request.write 0 0x400 0x209 1 5 ∷ request.level 5 1 ∷ request.write 0 0x400 0x020 4 0 ∷ request.level 5 0 ∷ request.level 9 1 ∷ request.poll 64
    ∷ request.drain (replicate 13 0xee) 1 ∷ []

abbrev calls : List Exported
calls = handed_on (encode_as numbered reset (from_zero 0)) asked

abbrev done : List Call
done = write byte 0x209 5 ∷ level 5 true ∷ write dword 0x020 0 ∷ level 5 false ∷ level 9 true ∷ drain 3 ∷ []

calls_done : done_calls calls ≡ done
unfolding computing done_calls
calls_done = refl

is_done_lem : is_done resetting ≡ true
unfolding computing
is_done_lem = refl

begins : carried_on before resetting ≡ after_reset numbered
unfolding computing carried_on
begins = refl

-- ---- the premises

no_loads_lem : NoLoads (after_reset numbered) calls
no_loads_lem = handed_on_is_no_load (after_reset numbered) calls (handed_on_lem (encode_as numbered reset (from_zero 0)) asked refl)

comes : in_image (carried_through (after_reset numbered) calls) ≡ (from_reset done).after
unfolding history
comes = image_holds_history (after_reset numbered) (faithful_after_reset numbered) calls no_loads_lem ∙ ap (λ cs. (from_reset cs).after) calls_done

none_wait : (from_reset done).after.ring.waiting ≡ []
unfolding computing
none_wait = refl

none_dropped_lem : (from_reset done).after.ring.drops ≡ 0
unfolding computing
none_dropped_lem = refl

few : length (from_reset done).made ≤ 65536
unfolding computing
few = lit≤ tt

admitted : Complete (after_reset numbered) calls
unfolding computing done_calls
admitted = record {
  no_loads = no_loads_lem;
  admitted = all_admitted reset (done_calls calls) refl;
  all_drained = ap (λ (d : Device). d.ring.waiting) comes ∙ none_wait;
  none_dropped = ap (λ (d : Device). d.ring.drops) comes ∙ none_dropped_lem;
}

complete : Complete (carried_on before resetting) calls
complete = subst (λ u. Complete u calls) (sym begins) admitted

-- ---- what a host reads, as it collects it

abbrev up : ℕ → Numbered
up n = record { event = record { vector = 5; asserted = true }; number = n }

abbrev down : ℕ → Numbered
down n = record { event = record { vector = 5; asserted = false }; number = n }

returned : returned_read calls ≡ down 1 ∷ up 2 ∷ []
unfolding computing returned_read
returned = refl

drained : drained_read calls ≡ up 0 ∷ []
unfolding computing drained_read
drained = refl

abbrev collected : List Numbered
collected = down 1 ∷ up 2 ∷ up 0 ∷ []

both : Interleaves (returned_read calls) (drained_read calls) collected
both =
    subst (λ l. Interleaves l (drained_read calls) collected) (sym returned)
    (subst (λ l. Interleaves (down 1 ∷ up 2 ∷ []) l collected) (sym drained) (first (first (second neither))))

-- as a host has them that turned the returned ones round: the last made first, then the first, then the second
abbrev turned : List Numbered
turned = up 2 ∷ up 0 ∷ down 1 ∷ []

in_another_order : Rearranged turned (returned_read calls ++ drained_read calls)
in_another_order =
    subst (λ l. Rearranged turned (l ++ drained_read calls)) (sym returned)
    (subst (λ l. Rearranged turned ((down 1 ∷ up 2 ∷ []) ++ l)) (sym drained) (order.both (behind exchanged) exchanged))

-- ---- both boards

abbrev area : List ℕ
area = replicate 16 0

-- the first board, which held anything before the reset, and the second, which hears what was collected by rising number
equal_boards : heard_through area blank (events_in (by_number collected)) ≡ take 256 (board_through (replicate 300 0xee) (resetting ∷ calls))
equal_boards =
    by_number_equals_first before resetting refl is_done_lem calls complete refl (subst (λ cs. length (from_reset cs).made ≤ 65536) (sym calls_done) few) collected both
    (replicate 300 0xee) (lit≤ tt) area (lit≤ tt)

-- and so where they were turned round
equal_turned : heard_through area blank (events_in (by_number turned)) ≡ take 256 (board_through (replicate 300 0xee) (resetting ∷ calls))
equal_turned =
    any_order_equals_first before resetting refl is_done_lem calls complete refl (subst (λ cs. length (from_reset cs).made ≤ 65536) (sym calls_done) few) turned in_another_order
    (replicate 300 0xee) (lit≤ tt) area (lit≤ tt)

-- one input is in service with the vector 5; heard as they were collected, the events would leave two
counts_one : get_or (heard_through area blank (events_in (by_number collected))) 5 0 ≡ 1
unfolding computing heard_through hearing by_number inserted
counts_one = refl

as_collected : get_or (heard_through area blank (events_in collected)) 5 0 ≡ 2
unfolding computing heard_through hearing
as_collected = refl

-- ---- what a call changes

-- the first three calls after the reset, and then input 5 is lowered: on a board that held anything before the reset, the count of its vector goes from 1 to 0
abbrev board_before : List ℕ
board_before = board_through (replicate 256 0xee) (resetting ∷ take 3 calls)

abbrev lowered : Exported
lowered = get_or calls 3 resetting

abbrev four_left : Underway
four_left = carried_through before (resetting ∷ take 3 calls)

no_load : is_load four_left.left lowered ≡ false
unfolding computing carried_on carried_through
no_load = refl

one_was : get_or board_before 5 0 ≡ 1
unfolding computing counts_by boarding board_through
one_was = refl

none_is : get_or (board_by lowered board_before) 5 0 ≡ 0
unfolding computing counts_by boarding board_through
none_is = refl

touched_after_a_reset : Touching 5 (in_image four_left).core (decode (left_by lowered).image).core
touched_after_a_reset =
    next_changes_only_touched before (replicate 256 0xee) resetting is_done_lem (take 3 calls) lowered 5 (lit< tt) no_load (λ same_count. omega (arith, sym none_is ∙ same_count ∙ one_was))

-- input 5 is in service, and is lowered: the count of its vector changes, and so some touched input carried it
abbrev lowering : Exported
lowering = record { given = encode_as numbered (with_lines reset (record { mask = 0; irr = 0x20; isr = 0x20 })) (from_zero 0); asked = request.level 5 0; answer = area }

abbrev kept : List ℕ
kept = recount (decode lowering.given).core

one_before : get_or kept 5 0 ≡ 1
unfolding computing counts_by
one_before = refl

none_after : get_or (board_by lowering kept) 5 0 ≡ 0
unfolding computing counts_by boarding
none_after = refl

five_touched : Touching 5 (decode lowering.given).core (decode (left_by lowering).image).core
five_touched =
    let long = counts_length (λ v. carrying v (decode lowering.given).core) in
    only_touched_change lowering kept (omega (arith, long)) (take_all 256 kept (omega (arith, long))) 5 (lit< tt) (λ same. omega (arith, sym none_after ∙ same ∙ one_before))
