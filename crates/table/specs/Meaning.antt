-- What a byte offset belongs to: by 01's map, and by a number of the table.
use Rattle.std.specs.Prelude.{◌≡◌, Bool, cond, List, [], ◌∷◌, ℕ, ◌-◌, ◌/◌, ◌%◌, ◌<◌, eqb, leb, get_or}
use Rattle.rules.specs.Core.{htmsi_en, edge, pol, auto0, auto1}
use Rattle.rules.specs.Map.{Register, id, mask, clear, irr, isr, plain, Cell, half_of, routes_at, vectors_at, in_routes, in_vectors, in_byte_area, cell_at}
use Rattle.rules.specs.Map as map

-- a register, its high (true) or low half, which byte of that, and whether it is silent to Byte and Word; an input's route or vector byte; nothing (02, C-18)
pub data Meaning : Type 0 where
  part : Register → Bool → ℕ → Bool → Meaning
  route vector : ℕ → Meaning
  nothing : Meaning

-- ---- 01's map

-- byte k of what a Dword reaches
abbrev pub within : Cell → ℕ → Bool → Meaning
within (half_of r h) k s = part r h k s
within map.bytes k s = nothing
within map.nothing k s = nothing

-- a byte is one of the aligned Dword's; in 0x100..0x39f only route and vector bytes answer a Byte (01, Window and register map; The four widths: Byte)
unfoldable pub meant : ℕ → Meaning
meant o = cond (in_routes o) (route (o - routes_at)) (cond (in_vectors o) (vector (o - vectors_at)) (within (cell_at (o - o % 4)) (o % 4) (in_byte_area o)))

-- ---- the table's numbers

-- a register's eight bytes have a row of eight numbers: low half, then high half; from 0x70 on they are silent to Byte and Word
abbrev pub part_of : Register → ℕ → Meaning
part_of r e = part r (eqb (e / 4 % 2) 1) (e % 4) (leb 0x70 e)

pub record Numbers : Type 0 where
  pub row : ℕ
  pub register : Register

abbrev numbers : ℕ → Register → Numbers
numbers n r = record { row = n; register = r }

-- which row of numbers each register has
abbrev pub registers : List Numbers
registers =
    numbers 1 id ∷
    numbers 2 mask ∷
    numbers 3 (plain htmsi_en) ∷
    numbers 4 (plain edge) ∷
    numbers 5 clear ∷
    numbers 6 (plain auto0) ∷
    numbers 7 (plain auto1) ∷
    numbers 8 isr ∷
    numbers 9 (plain pol) ∷
    numbers 14 irr ∷ []

abbrev pub named : List Numbers → ℕ → ℕ → Meaning
named [] q e = nothing
named (n ∷ ns) q e = cond (eqb q n.row) (part_of n.register e) (named ns q e)

-- what a number tells: from 0xc0 on an input's vector byte, from 0x80 on its route byte, the input being the low six bits; below a register's byte or nothing
unfoldable pub reading : ℕ → Meaning
reading e = cond (leb 0xc0 e) (vector (e % 64)) (cond (leb 0x80 e) (route (e % 64)) (named registers (e / 8) e))

-- ---- the table

-- the number of an offset, in rows of 32
abbrev pub entry_at : List (List ℕ) → ℕ → ℕ
entry_at rows o = get_or (get_or rows (o / 32) []) (o % 32) 0

-- each of the 1,024 numbers tells what 01's map says of its offset (02, C-18)
pub record Agrees (rows : List (List ℕ)) : Type 0 where
  pub each : (o : ℕ) → o < 1024 → reading (entry_at rows o) ≡ meant o
