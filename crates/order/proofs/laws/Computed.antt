-- The definitions on closed numbers, so that it is seen what they say: positions, fates and numbers of a few events, and what a host reads in a few bytes.
use Rattle.basics.proofs.Prelude.{◌≡◌, refl, ap, Bool, true, false, List, [], ◌∷◌, map, ℕ, arith, length, set, replicate}
use Rattle.rules.specs.{Lines.Made, Ring.Ring, Access.dword, Device.Device, Device.with_ring, Device.Call, Device.level, Device.write, Device.drain, Device.some, Device.reset, Numbering.Numbered, Numbering.from_zero}
use Rattle.images.specs.{Form.numbered, Image.encode_as}
use Rattle.histories.specs.exported.Exported.{Exported, left_by}
use Rattle.order.specs.Sorted.{put_by, sorted_by, by_difference, handed_back_of}
use Rattle.order.specs.Fates.{Fate, Placed, is_returned, is_kept, is_dropped, placed, placed_from, events_made}
use Rattle.order.specs.{Numbered.NoneWaits, Numbered.all_from, Numbered.in_value, Numbered.returned_through, Numbered.drained_through, Read.returned_read}
use Rattle.calls.proofs.laws.Computing.{computing}
use Rattle.calls.specs.Calls as request

-- ---- events

-- fifteen events wait; one is returned, two are offered, and one is returned
abbrev fifteen : Ring
fifteen = record { waiting = replicate 15 (record { vector = 9; asserted = true }); drops = 0 }

abbrev made_by : ℕ → Bool → Made
made_by n offered = record { input = n; vector = n; asserted = true; offered = offered }

abbrev four : List Made
four = made_by 0 false ∷ made_by 1 true ∷ made_by 2 true ∷ made_by 3 false ∷ []

-- the first offered one finds fifteen waiting, the second sixteen
fates_told : map (λ x. x.fate) (placed 0 fifteen four) ≡ is_returned ∷ is_kept ∷ is_dropped ∷ is_returned ∷ []
unfolding computing placed
fates_told = refl

-- each has a position, whatever becomes of it
positions_told : map (λ x. x.position) (placed 0 fifteen four) ≡ 0 ∷ 1 ∷ 2 ∷ 3 ∷ []
unfolding computing placed
positions_told = refl

-- begun with 65,534, their numbers pass 65,535
numbers_told : map (λ x. x.number) (all_from 65534 (placed 0 fifteen four)) ≡ 65534 ∷ 65535 ∷ 0 ∷ 1 ∷ []
unfolding computing placed
numbers_told = refl

-- ---- calls

-- unmask all; raise 5 and lower it, each of which returns an event; mask 6 once it is raised, and drain its deassert
abbrev calls : List Call
calls = write dword 0x020 0 ∷ level 5 true ∷ level 5 false ∷ level 6 true ∷ write dword 0x020 0x40 ∷ drain 4 ∷ []

-- positions run through all calls
history_told : map (λ x. x.position) (events_made reset calls) ≡ 0 ∷ 1 ∷ 2 ∷ 3 ∷ []
unfolding computing placed placed_from
history_told = refl

-- and so do the numbers that come back
returned_told : map (λ x. x.number) (returned_through reset (from_zero 0) calls) ≡ 0 ∷ 1 ∷ 2 ∷ []
unfolding computing returned_through
returned_told = refl

drained_told : map (λ x. x.number) (drained_through reset (from_zero 0) calls) ≡ 3 ∷ []
unfolding computing drained_through
drained_told = refl

-- one event waits at first, with the number 7: a drain hands it back, though none was made, so that the premise on the start is needed
abbrev one_waits : Device
one_waits = with_ring reset (record { waiting = record { vector = 9; asserted = true } ∷ []; drops = 0 })

waiting_handed_back : (map (λ x. x.number) (drained_through one_waits (record { next = 8; waiting = 7 ∷ [] }) (drain 4 ∷ [])) ≡ 7 ∷ []) × (events_made one_waits (drain 4 ∷ []) ≡ [])
unfolding computing drained_through placed placed_from
waiting_handed_back = (refl, refl)

one_is_not_none : NoneWaits one_waits → ⊥
one_is_not_none e = let z : ◌≡◌ {A = ℕ} 1 0 = ap length e in omega arith

-- ---- bytes

-- the vector 5 with the number 65,534, in a value
value_told : in_value true (some 0xfffe0005) ≡ record { event = record { vector = 5; asserted = true }; number = 65534 } ∷ []
value_told = refl

-- an image that says that 17 wait: a poll is refused, with the place of the count as its value, and returns no event
abbrev refused_poll : Exported
refused_poll = record { given = set (encode_as numbered reset (from_zero 0)) 219 17; asked = request.poll 5; answer = replicate 16 0 }

refused_told : request.value_in (left_by refused_poll).answer ≡ 219
unfolding computing
refused_told = refl

refused_returns_none : returned_read (refused_poll ∷ []) ≡ []
unfolding computing returned_read
refused_returns_none = refl

-- ---- sorted

abbrev assert_with : ℕ → Numbered
assert_with n = record { event = record { vector = 5; asserted = true }; number = n }

abbrev events_of : Fate → ℕ → Placed
events_of f p = record { position = p; event = made_by 5 true; fate = f }

-- by the difference from 65,535: 65,534 was made before it, and 1 after
past_the_end : by_difference 65535 (assert_with 1 ∷ assert_with 65535 ∷ assert_with 65534 ∷ []) ≡ assert_with 65534 ∷ assert_with 65535 ∷ assert_with 1 ∷ []
unfolding sorted_by put_by
past_the_end = refl

-- of three kept events one was drained: with those returned it was handed back
one_drained : map (λ x. x.position) (handed_back_of 1 (events_of is_kept 0 ∷ events_of is_returned 1 ∷ events_of is_kept 2 ∷ events_of is_dropped 3 ∷ events_of is_returned 4 ∷ [])) ≡ 0 ∷ 1 ∷ 4 ∷ []
unfolding handed_back_of
one_drained = refl
