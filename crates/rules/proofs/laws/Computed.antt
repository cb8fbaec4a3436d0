-- The definitions on closed numbers, so that it is seen what they say: what a MASK write announces, what a Byte written to ISR leaves, and numbers of events.
use Rattle.basics.proofs.Prelude.{◌≡◌, refl, true, false, [], ◌∷◌, written}
use Rattle.rules.specs.{Lines.masked, Access.byte, Device.write, Device.step, Device.reset, Device.with_lines, Device.up_from, Numbering.from_zero, Numbering.number_twos}
use Rattle.rules.proofs.laws.Running.{running}

-- 3 and 9 wait, and are unmasked at once: only 3 goes into service, and is announced (01, The marked dozen: M9)
lowest_alone : masked (up_from 0 10) (record { mask = 0x208; irr = 0x208; isr = 0 }) 0
    ≡ record { after = record { mask = 0; irr = 0x208; isr = 8 }; made = record { input = 3; vector = 3; asserted = true; offered = true } ∷ [] }
unfolding running
lowest_alone = refl

-- 1 is in service and is masked, 0 waits and is unmasked: the assert comes first
assert_first : (masked (up_from 0 10) (record { mask = 1; irr = 1; isr = 2 }) 2).made
    ≡ record { input = 0; vector = 0; asserted = true; offered = true } ∷ record { input = 1; vector = 1; asserted = false; offered = true } ∷ []
unfolding running
assert_first = refl

-- 0 and 1 are in service and masked: a Byte written beside them starts from the Dword as it reads, and both are lost (01, The marked dozen: M11)
masked_service_lost : (step (with_lines reset (record { mask = 3; irr = 0; isr = 3 })) (write byte 0x3a1 0)).after.core.lines.isr ≡ 0
unfolding running
masked_service_lost = refl

-- without a fifth body three waiting events have the numbers from 0 on, and 3 comes next; in an image a number has its little end first (02, C-19)
numbered_from_0 : from_zero 3 ≡ record { next = 3; waiting = 0 ∷ 1 ∷ 2 ∷ [] }
unfolding running
numbered_from_0 = refl

little_end_first : written number_twos (258 ∷ []) ≡ 2 ∷ 1 ∷ []
little_end_first = refl
