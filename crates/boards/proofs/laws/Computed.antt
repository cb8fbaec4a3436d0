-- The definitions on closed numbers, so that it is seen what they say: counts that a call moves, a second board, and numbered events put in order.
use Rattle.basics.proofs.Prelude.{◌≡◌, refl, ap, arith, length, Bool, true, false, List, [], ◌∷◌, ℕ, set, get_or, replicate}
use Rattle.rules.specs.{Core.Core, Ring.Event, Device.reset, Device.with_ring, Device.up_from, Numbering.Numbered, Numbering.events_in, Numbering.from_zero}
use Rattle.images.specs.{Form.two, Image.encode_as}
use Rattle.histories.specs.exported.Exported.{Underway, carried_through, NoLoads}
use Rattle.boards.specs.{Board.brought_count, Board.counts_by, Board.recount, Boarding.boarding, Boarding.hears, Boarding.hearing, Hearing.blank, Hearing.heard_through, Hearing.inserted, Hearing.by_number, Collected.AllRead}
use Rattle.calls.proofs.laws.Computing.{computing}
use Rattle.calls.specs.Calls as request

-- ---- counts

-- a core with these inputs in service and these vector bytes, in which everything is masked
abbrev with : ℕ → List ℕ → Core
with isr vs = record { lines = record { mask = 0xffffffffffffffff; irr = 0; isr = isr }; vectors = vs; stored = reset.core.stored }

abbrev plain : List ℕ
plain = up_from 0 64

-- input 9 has the vector 5, as input 5 has
abbrev shared : List ℕ
shared = set plain 9 5

-- inputs 5 and 9 are in service, masked: two carry the vector 5, and none 9
both_carry : (get_or (recount (with 0x220 shared)) 5 0 ≡ 2) × (get_or (recount (with 0x220 shared)) 9 0 ≡ 0)
unfolding computing counts_by
both_carry = (refl, refl)

-- input 9 enters service, with a count of 1 before
one_enters : brought_count (with 0x20 shared) (with 0x220 shared) 5 1 ≡ 2
unfolding computing
one_enters = refl

-- and leaves it, by a lower say
one_leaves : brought_count (with 0x220 shared) (with 0x20 shared) 5 2 ≡ 1
unfolding computing
one_leaves = refl

-- its vector byte changes from 9 to 5 while it is in service: both counts move
vector_moves : (brought_count (with 0x220 plain) (with 0x220 shared) 9 1 ≡ 0) × (brought_count (with 0x220 plain) (with 0x220 shared) 5 1 ≡ 2)
unfolding computing
vector_moves = (refl, refl)

-- ---- the second board

abbrev answer : List ℕ
answer = replicate 16 0

-- one less is not below 0, one more not past 255; any flag but 0 is an assert
less_than_none : get_or (hearing blank 5 0 answer).board 5 0 ≡ 0
unfolding computing hearing
less_than_none = refl

more_than_most : get_or (hearing (replicate 256 255) 5 1 answer).board 5 0 ≡ 255
unfolding computing hearing
more_than_most = refl

any_flag : get_or (hearing blank 5 2 answer).board 5 0 ≡ 1
unfolding computing hearing
any_flag = refl

-- ---- refusals

-- 7 for a board of 255 bytes and for an answer area of 15, of an event; neither is written
no_board : hearing (replicate 255 9) 5 1 answer ≡ hears 7 (replicate 255 9) answer
unfolding hearing
no_board = refl

no_answer : hearing (replicate 256 9) 5 1 (replicate 15 8) ≡ hears 7 (replicate 256 9) (replicate 15 8)
unfolding hearing
no_answer = refl

-- and for a board of 255 bytes of every other call, before 4
board_first : (boarding (request.poll 3) [] (replicate 255 9) answer).call.number ∷ (boarding (request.poll 3) [] (replicate 256 9) answer).call.number ∷ [] ≡ 7 ∷ 4 ∷ []
unfolding computing boarding
board_first = refl

-- ---- the order of making

abbrev event : ℕ → Bool → ℕ → Numbered
event v asserted n = record { event = record { vector = v; asserted = asserted }; number = n }

-- 01's session: the deassert was returned before the assert was drained, and was made after it
abbrev session : List Numbered
session = event 5 false 1 ∷ event 5 true 0 ∷ []

in_order : by_number session ≡ event 5 true 0 ∷ event 5 false 1 ∷ []
unfolding computing by_number inserted
in_order = refl

-- so at its end the vector is off
off_at_last : get_or (heard_through answer blank (events_in (by_number session))) 5 0 ≡ 0
unfolding computing by_number inserted heard_through hearing
off_at_last = refl

-- by the number itself, unsigned: 40,000 events later is later
far_apart : by_number (event 5 false 40000 ∷ event 5 true 0 ∷ []) ≡ event 5 true 0 ∷ event 5 false 40000 ∷ []
unfolding computing by_number inserted
far_apart = refl

-- ---- everything drained and nothing dropped

-- a history that has left these events waiting and so many dropped
abbrev leaving : List Event → ℕ → Underway
leaving es n = record { began = reset; calls = []; left = encode_as two (with_ring reset (record { waiting = es; drops = n })) (from_zero 0) }

all_read : AllRead (leaving [] 0) []
unfolding computing carried_through NoLoads
all_read = record { no_loads = tt; all_drained = refl; none_dropped = refl }

-- not with one that waits, and not with one that was dropped
not_drained : AllRead (leaving (record { vector = 5; asserted = true } ∷ []) 0) [] → ⊥
unfolding computing carried_through
not_drained w = let z : ◌≡◌ {A = ℕ} 1 0 = ap length w.all_drained in absurd (omega (arith, z))

one_dropped : AllRead (leaving [] 1) [] → ⊥
unfolding computing carried_through
one_dropped w = let z : ◌≡◌ {A = ℕ} 1 0 = w.none_dropped in absurd (omega (arith, z))
