-- The definitions on closed numbers. What is added up as dropped: a drain of an event that waits has a value, and adds nothing (02, C-15). And what a host reads
-- in a few bytes.
use Rattle.basics.proofs.Prelude.{false, ◌≡◌, refl, true, [], ◌∷◌}
use Rattle.histories.specs.{exported.Exported.in_answer, exported.Exported.quads_to, Demands.loss_of}
use Rattle.rules.{specs.Device.Device, specs.Device.drain, specs.Device.some, specs.Device.value, specs.Device.with_ring, specs.Device.reset, proofs.laws.Running.running}
use Rattle.calls.specs.Calls as request

abbrev one_waits : Device
one_waits = with_ring reset (record { waiting = record { vector = 5; asserted = true } ∷ []; drops = 0 })

one_drained : value one_waits (drain 16) ≡ some 1
unfolding running
one_drained = refl

none_added : loss_of one_waits (drain 16) ≡ 0
unfolding running
none_added = refl

-- the vector 5 with the number 65,534, in an answer area (02, C-19)
answer_told : in_answer false (0 ∷ 1 ∷ 0 ∷ 0 ∷ 0 ∷ 0 ∷ 0 ∷ 0 ∷ 5 ∷ 0 ∷ 0xfe ∷ 0xff ∷ 0 ∷ 0 ∷ 0 ∷ 0 ∷ []) ≡ record { event = record { vector = 5; asserted = false }; number = 65534 } ∷ []
answer_told = refl

-- an event buffer with one event from place 1 on
buffer_told : quads_to (request.drain [] 1) (0 ∷ 1 ∷ 0 ∷ 0 ∷ 0 ∷ 0 ∷ 0 ∷ 0 ∷ 1 ∷ 0 ∷ 0 ∷ 0 ∷ 0 ∷ 0 ∷ 0 ∷ 0 ∷ []) (0xee ∷ 5 ∷ 1 ∷ 0xfe ∷ 0xff ∷ 0xee ∷ [])
    ≡ record { event = record { vector = 5; asserted = true }; number = 65534 } ∷ []
buffer_told = refl
