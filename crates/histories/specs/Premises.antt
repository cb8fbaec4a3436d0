-- The premises of demand 3: which calls of a history it admits.
use Rattle.std.specs.Prelude.{Bool, true, false, not, ◌&&◌, ◌||◌, List, [], ◌∷◌, ◌≡◌, ℕ, ◌+◌, ◌-◌, ◌%◌, ◌<◌, eqb, get_or}
use Rattle.basics.specs.Inputs.{on}
use Rattle.rules.specs.Core.{Core, Act, move, set_isr, store, set_vector}
use Rattle.rules.specs.Map.{Register, in_byte_area}
use Rattle.rules.specs.Map as map
use Rattle.rules.specs.Access.{Width, byte, word, dword, qword}
use Rattle.rules.specs.Device.{Device, Call, level, poll, read, write, drain, step}

-- a write reaches one of these Dwords: a Dword by its offset, a Qword by either half, a Byte outside 0x100..0x39f by the Dword that holds it, a Word by either Byte (01, The four widths)
abbrev pub byte_reaches : (ℕ → Bool) → ℕ → Bool
byte_reaches at o = not (in_byte_area o) && at (o - o % 4)

abbrev pub reaches : (ℕ → Bool) → Width → ℕ → Bool
reaches at byte o = byte_reaches at o
reaches at word o = byte_reaches at o || byte_reaches at (o + 1)
reaches at dword o = at o
reaches at qword o = at o || at (o + 4)

-- the ISR registers (01, Window and register map)
abbrev pub is_isr : ℕ → Bool
is_isr o = eqb o 0x3a0 || eqb o 0x3a4

-- MASK
abbrev pub is_mask : ℕ → Bool
is_mask o = eqb o 0x020 || eqb o 0x024

-- a call is a write that reaches the ISR registers (00, demand 3)
abbrev pub writes_isr : Call → Bool
writes_isr (level n b) = false
writes_isr (poll n) = false
writes_isr (read w o) = false
writes_isr (write w o v) = reaches is_isr w o
writes_isr (drain k) = false

-- or MASK
abbrev pub writes_mask : Call → Bool
writes_mask (level n b) = false
writes_mask (poll n) = false
writes_mask (read w o) = false
writes_mask (write w o v) = reaches is_mask w o
writes_mask (drain k) = false

-- IRR alone, which is to be silent to Byte and Word (02, C-18)
abbrev pub is_irr : Register → Bool
is_irr map.id = false
is_irr map.mask = false
is_irr map.clear = false
is_irr map.irr = true
is_irr map.isr = false
is_irr (map.plain p) = false

-- no vector byte changed from c to d whose input was in service in c, masked or not (00, demand 3)
abbrev pub ServedVectorsStay : Core → Core → Type 0
ServedVectorsStay c d = (n : ℕ) → n < 64 → on c.lines.isr n ≡ true → get_or d.vectors n 0 ≡ get_or c.vectors n 0

-- an act replaces the vector byte of an input in service in c by another
abbrev pub replaces_served : Core → Act → Bool
replaces_served c (move m) = false
replaces_served c (set_isr h v) = false
replaces_served c (store s) = false
replaces_served c (set_vector n v) = on c.lines.isr n && not (eqb v (get_or c.vectors n 0))

-- a call that demand 3 admits
pub record Admitted (d : Device) (c : Call) : Type 0 where
  pub no_isr_write : writes_isr c ≡ false
  pub vectors_stay : ServedVectorsStay d.core (step d c).after.core

-- something that holds of each call at the device that it meets
unfoldable pub Along : (Device → Call → Type 0) → Device → List Call → Type 0
Along P d [] = Unit {0}
Along P d (c ∷ cs) = P d c × Along P (step d c).after cs
