-- The profile on closed numbers, so that it is seen what it says: of accesses in each phase, and of the end of start-up.
use Rattle.basics.proofs.Prelude.{◌≡◌, refl, Bool, true, false, List, [], ◌∷◌, map, ℕ, replicate}
use Rattle.basics.specs.Numbers.{same}
use Rattle.rules.specs.{Access.byte, Access.word, Access.dword, Access.qword, Device.Device, Device.Call, Device.level, Device.read, Device.write, Device.none, Device.some, Device.reset}
use Rattle.rules.specs.{History.from_reset, Numbering.from_zero}
use Rattle.images.specs.{Form.two, Image.encode_as}
use Rattle.calls.{specs.Calls.answered, specs.Calls.leaves, specs.Calls.outcome, proofs.laws.Computing.computing}
use Rattle.calls.specs.Calls as request
use Rattle.hoists.specs.Profile.{changes_served, forbidden, Verdict, passes, unaligned, unfit, verdict}
use Rattle.hoists.specs.HoistCalls.{judged, hoist_read, hoist_write, phase_leaves, hoist_reset, end_startup}

-- one name that opens what has to compute
unfoldable pub hoisting : ℕ
unfolding computing changes_served forbidden verdict judged hoist_read hoist_write hoist_reset end_startup
hoisting = 0

-- ---- verdicts

-- input 5 is in service
abbrev served : Device
served = (from_reset (write dword 0x020 0xffffffdf ∷ level 5 true ∷ [])).after

abbrev said_of : Bool → List Call → List Verdict
said_of r cs = map (verdict r served) cs

-- of the widths the Dword alone, and that at an offset which 4 divides; a read in either phase
reads_told : said_of true (read byte 0x020 ∷ read word 0x020 ∷ read dword 0x020 ∷ read qword 0x020 ∷ read dword 0x022 ∷ read dword 0x3a0 ∷ [])
    ≡ unaligned ∷ unaligned ∷ passes ∷ unaligned ∷ unaligned ∷ passes ∷ []
unfolding hoisting
reads_told = refl

writes_told : said_of false (write byte 0x040 1 ∷ write word 0x040 1 ∷ write dword 0x040 1 ∷ write qword 0x040 1 ∷ write dword 0x201 1 ∷ [])
    ≡ unaligned ∷ unaligned ∷ passes ∷ unaligned ∷ unaligned ∷ []
unfolding hoisting
writes_told = refl

-- ISR is not written, with the value that it has neither; 14 comes before 15
isr_told : said_of false (write dword 0x3a0 0x20 ∷ write dword 0x3a4 0 ∷ write byte 0x3a0 0x20 ∷ write qword 0x3a0 0x20 ∷ []) ≡ unfit ∷ unfit ∷ unaligned ∷ unaligned ∷ []
unfolding hoisting
isr_told = refl

-- in start-up: the byte of input 5 may be written as it is, and those beside it changed, but it is not changed
vectors_told : said_of false (write dword 0x204 0x07060504 ∷ write dword 0x204 0x99990599 ∷ write dword 0x204 0x07069904 ∷ write dword 0x23c 0 ∷ []) ≡ passes ∷ passes ∷ unfit ∷ passes ∷ []
unfolding hoisting
vectors_told = refl

-- after it no vector byte is written, as it is neither; all else as before
running_told : said_of true (write dword 0x204 0x07060504 ∷ write dword 0x23c 0x3f3e3d3c ∷ write dword 0x1fc 0 ∷ write dword 0x240 0 ∷ write dword 0x080 0x20 ∷ []) ≡ unfit ∷ unfit ∷ passes ∷ passes ∷ passes ∷ []
unfolding hoisting
running_told = refl

-- ---- calls

abbrev afresh : List ℕ
afresh = encode_as two reset (from_zero 0)

abbrev in_use : List ℕ
in_use = encode_as two served (from_zero 0)

abbrev area : List ℕ
area = replicate 17 0xee

-- the end of start-up: done with phase 0; made again, or with an input in service, 15; the bytes behind the phase stay
ends_once : end_startup afresh (0 ∷ 9 ∷ []) area ≡ phase_leaves 0 afresh (1 ∷ 9 ∷ []) (answered 0 none area)
unfolding hoisting
ends_once = refl

not_twice : (end_startup afresh (1 ∷ []) area).number ∷ (end_startup afresh (255 ∷ []) area).number ∷ [] ≡ 15 ∷ 15 ∷ []
unfolding hoisting
not_twice = refl

not_in_service : end_startup in_use (0 ∷ []) area ≡ phase_leaves 15 in_use (0 ∷ []) (answered 15 none area)
unfolding hoisting
not_in_service = refl

-- the image's refusals come before 15, and 7 for want of a phase before these
end_told : (end_startup [] [] area).number ∷ (end_startup [] (1 ∷ []) area).number ∷ (end_startup (replicate 251 7) (1 ∷ []) area).number ∷ [] ≡ 7 ∷ 4 ∷ 5 ∷ []
unfolding hoisting
end_told = refl

-- a reset starts the first phase; refused it leaves the phase
starts_over : (hoist_reset in_use (1 ∷ 9 ∷ []) area).phase ∷ (hoist_reset [] (1 ∷ []) area).phase ∷ [] ≡ (0 ∷ 9 ∷ []) ∷ (1 ∷ []) ∷ []
unfolding hoisting
starts_over = refl

-- 7 where no phase is lent; the image's refusals, 2 and 1 before 14, and 14 before 15
abbrev written : List ℕ → (base size address width value : ℕ) → (phase : List ℕ) → ℕ
written i b s x w v p = (hoist_write b s x w v i p area).number

order_told :
    written [] 0 0x400 0x3a1 3 0 [] ∷ written [] 0 0x400 0x3a1 3 0 (0 ∷ []) ∷ written afresh 0 0x400 0x401 3 0 (0 ∷ []) ∷ written afresh 0 0x400 0x3fd 4 0 (0 ∷ [])
    ∷ written afresh 0 0x400 0x3f0 8 0 (0 ∷ []) ∷ written afresh 0 0x400 0x3a1 4 0 (1 ∷ []) ∷ written afresh 0 0x400 0x3a0 4 0 (0 ∷ []) ∷ written afresh 0 0x400 0x020 4 0 (1 ∷ []) ∷ []
    ≡ 7 ∷ 4 ∷ 2 ∷ 1 ∷ 14 ∷ 14 ∷ 15 ∷ 0 ∷ []
unfolding hoisting
order_told = refl

-- the offset counts, not the address
offset_told : (hoist_read 0x1002 0x400 0x1022 4 afresh area).answer ≡ answered 0 (some 0xffffffff) area
unfolding hoisting
offset_told = refl

-- ---- refused, and let through

-- a read that is refused with 14 leaves the image, and the number alone is told; 7 leaves the answer area too
refused_read_stays :
    (hoist_read 0 0x400 0x020 8 in_use area ≡ leaves 14 in_use (answered 14 none area) []) × (hoist_read 0 0x400 0x020 4 in_use (replicate 15 0xee) ≡ leaves 7 in_use (replicate 15 0xee) [])
unfolding hoisting
refused_read_stays = (refl, refl)

-- so does a write, refused with 15 or 14: of ISR, where input 5 stays in service, and of MASK, where all else stays masked
abbrev stays : (offset width : ℕ) → Bool
stays o w = same (hoist_write 0 0x400 o w 0 in_use (0 ∷ []) area).image in_use

refused_write_stays : stays 0x3a0 4 ∷ stays 0x020 8 ∷ [] ≡ true ∷ true ∷ []
unfolding hoisting
refused_write_stays = refl

refused_write_told : (hoist_write 0 0x400 0x3a0 4 0 in_use (0 ∷ []) area).answer ∷ (hoist_write 0 0x400 0x020 8 0 in_use (0 ∷ []) area).answer ∷ []
    ≡ answered 15 none area ∷ answered 14 none area ∷ []
unfolding hoisting
refused_write_told = refl

seven_of_a_write : hoist_write 0 0x400 0x020 4 0 in_use [] area ≡ leaves 7 in_use area []
unfolding hoisting
seven_of_a_write = refl

-- let through, a read and a write leave what the full device's leave
let_through_is_full :
    (hoist_read 0 0x400 0x020 4 in_use area ≡ outcome (request.read 0 0x400 0x020 4) in_use area)
    × (hoist_write 0 0x400 0x020 4 0 in_use (1 ∷ []) area ≡ outcome (request.write 0 0x400 0x020 4 0) in_use area)
unfolding hoisting
let_through_is_full = (refl, refl)
