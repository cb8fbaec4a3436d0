-- What a write tells of the events that it dropped (02, C-15): always their number, at the stop of the count too, where the count rises by less; of a
-- Qword and of a Word the sum of both parts.
use Rattle.basics.proofs.Prelude.{◌≡◌, refl, ap, ◌∙◌, true, false, List, ◌++◌, ℕ, ◌+◌, ◌/◌, ◌^◌, ◌<◌, arith, length, replicate, length-append, byte_of, half}
use Rattle.rules.specs.{Ring.dropped, Ring.ring_run, Core.Act, Core.CoreTurn, Core.turns}
use Rattle.rules.specs.Access.{byte, word, dword, qword, dword_acts, byte_acts, write_acts}
use Rattle.rules.specs.Device.{Device, write, some, amount, offers, acted, acts_of, step, lost, value, with_lines, with_ring, reset}
use Rattle.rules.proofs.laws.{Running.running, Rings.dropped_append, Acts.turns_append, Acts.offers_append}

-- ---- always

-- a write says its number, also where nothing is dropped: after a reset 0 to 31 are unmasked, and none waits
pub tells_none_dropped : value reset (write dword 0x020 0) ≡ some 0
unfolding running dropped
tells_none_dropped = refl

-- ---- at the stop

-- 0 and 1 are in service, sixteen events wait, and the count is one below its stop: masked, both are dropped, and the write says 2 where the count can rise by 1
abbrev near_stop : Device
near_stop =
    with_ring (with_lines reset (record { mask = 0; irr = 0; isr = 3 }))
    (record { waiting = replicate 16 (record { vector = 9; asserted = true }); drops = 4294967294 })

pub tells_past_the_stop : value near_stop (write dword 0x020 3) ≡ some 2
unfolding running dropped
tells_past_the_stop = refl

pub count_at_the_stop : (step near_stop (write dword 0x020 3)).after.ring.drops ≡ 4294967295
unfolding running
count_at_the_stop = refl

-- ---- both parts

-- what acts drop
abbrev lost_by : Device → List Act → ℕ
lost_by d xs = lost d.ring (turns d.core xs).made

lost_append : (d : Device) (xs ys : List Act) → lost_by d (xs ++ ys) ≡ lost_by d xs + lost_by (acted d xs) ys
unfolding acted
lost_append d xs ys =
    let one = (turns d.core xs).made in
    let two = (turns (turns d.core xs).after ys).made in
    ap (λ (t : CoreTurn). lost d.ring t.made) (turns_append d.core xs ys) ∙ ap (λ os. length (dropped d.ring os)) (offers_append one two)
    ∙ ap length (dropped_append d.ring (offers one) (offers two))
    ∙ length-append (dropped d.ring (offers one)) (dropped (ring_run d.ring (offers one)).after (offers two))

-- a Qword tells what its two Dwords tell, the second as it meets what the first left; a Word so of its two Bytes
pub qword_tells_both : (d : Device) (o v : ℕ) → v < 2 ^ 64
    → let low = write dword o v in
    value d (write qword o v) ≡ some (amount (value d low) + amount (value (step d low).after (write dword (o + 4) (v / 2 ^ 32))))
unfolding value step acts_of write_acts ring_run
qword_tells_both d o v h =
    let one = dword_acts o (half false v) in
    let high : half true v ≡ half false (v / 2 ^ 32) = omega arith in
    ap some (lost_append d one (dword_acts (o + 4) (half true v)) ∙ ap (λ x. lost_by d one + lost_by (acted d one) (dword_acts (o + 4) x)) high)

pub word_tells_both : (d : Device) (o v : ℕ)
    → let first = write byte o v in
    value d (write word o v) ≡ some (amount (value d first) + amount (value (step d first).after (write byte (o + 1) (v / 256))))
unfolding value step acted acts_of write_acts ring_run
word_tells_both d o v =
    let one = byte_acts d.core o (byte_of v 0) in
    let met = (turns d.core one).after in
    let second : byte_of v 1 ≡ byte_of (v / 256) 0 = omega arith in
    ap some (lost_append d one (byte_acts met (o + 1) (byte_of v 1)) ∙ ap (λ x. lost_by d one + lost_by (acted d one) (byte_acts met (o + 1) x)) second)
