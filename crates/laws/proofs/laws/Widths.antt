-- The widths: an entry by its range, a Byte by where it lies, a Dword by what stands at its offset, and the masks that align an offset.
use Rattle.basics.proofs.Prelude.{◌≡◌, sym, ap, ◌∙◌, true, false, [], ◌∷◌, ℕ, ◌+◌, ◌-◌, ◌*◌, ◌%◌, ◌^◌, ◌≤◌, ◌<◌, add-zero, arith, bit_and, bit_or, and_mask, and_high, or_shifted_r, shl_exact, get_or, number_of, byte_of}
use Rattle.rules.specs.{Core.Core, Map.Cell, Map.bytes, Map.routes_at, Map.vectors_at, Map.in_byte_area, Map.cell_at}
use Rattle.rules.specs.Access.{qword, entry, read_cell, read_dword, read_byte, read_at}
use Rattle.laws.proofs.laws.Maps.{inside, Elsewhere, not_route, not_aligned, four_inside}

-- ---- o & 0x3 and o & !0x3
pub low_place : (o : ℕ) → bit_and o 0x3 ≡ o % 4
low_place o = and_mask o 2

pub aligned : (o : ℕ) → o < 2 ^ 64 → bit_and o 0xffff_ffff_ffff_fffc ≡ o - o % 4
aligned o h = and_high o 62 2 ∙ omega arith

-- a Byte outside 0x100..0x39f asks for a Dword that is not among the bytes
pub aligned_no_bytes : {A : Type 0} (o : ℕ) → o < 2 ^ 64 → in_byte_area o ≡ false → cell_at (bit_and o 0xffff_ffff_ffff_fffc) ≡ bytes → A
aligned_no_bytes o h n e = absurd (not_aligned o n (ap cell_at (sym (aligned o h)) ∙ e))

-- ---- reading
module _ (c : Core) (o : ℕ) where
  pub entry_route : routes_at ≤ o → o < 0x140 → entry c o ≡ get_or c.stored.routes (o - routes_at) 0
  unfolding entry
  entry_route h k = rw (inside 0x100 0x140 o h k)

  pub entry_vector : vectors_at ≤ o → o < 0x240 → entry c o ≡ get_or c.vectors (o - vectors_at) 0
  unfolding entry
  entry_vector h k = rw (not_route o h, inside 0x200 0x240 o h k)

  pub entry_none : Elsewhere o → entry c o ≡ 0
  unfolding entry
  entry_none e = rw (e.routes, e.vectors)

  pub byte_inside : in_byte_area o ≡ true → read_byte c o ≡ entry c o
  unfolding read_byte
  byte_inside h = rw h

  pub byte_outside : o < 2 ^ 64 → in_byte_area o ≡ false → read_byte c o ≡ byte_of (read_dword c (bit_and o 0xffff_ffff_ffff_fffc)) (bit_and o 0x3)
  unfolding read_byte
  byte_outside l h = rw (h, aligned o l, low_place o)

  pub dword_of : {x : Cell} → x ≡ cell_at o → read_cell c o x ≡ read_dword c o
  unfolding read_dword
  dword_of e = ap (read_cell c o) e

module _ (c : Core) (o : ℕ) where
  -- in the byte ranges a Dword is four Bytes by the Byte rule, low first
  pub dword_four : cell_at o ≡ bytes → read_dword c o ≡ number_of (read_byte c o ∷ read_byte c (o + 1) ∷ read_byte c (o + 2) ∷ read_byte c (o + 3) ∷ [])
  unfolding read_cell
  dword_four e =
      let a : (k : ℕ) → k < 4 → read_byte c (o + k) ≡ entry c (o + k) = λ k l. byte_inside c (o + k) (four_inside o e k l) in
      sym (dword_of c o (sym e)) ∙ rw (rw add-zero at (a 0 (omega arith)), a 1 (omega arith), a 2 (omega arith), a 3 (omega arith))

  -- a Qword is both its Dwords, x | y << 32
  pub qword_both : (x y : ℕ) → x < 2 ^ 32 → y < 2 ^ 32 → x ≡ read_dword c o → y ≡ read_dword c (o + 4) → bit_or x (y * 2 ^ 32 % 2 ^ 64) ≡ read_at c qword o
  unfolding read_at
  qword_both x y hx hy p q = rw (shl_exact 32 32 64 hy (omega arith), or_shifted_r y 32 x hx) (omega arith)
