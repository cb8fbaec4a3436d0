-- Bytes read one after another: one byte more, and the Dword and the Word that they make.
use Rattle.basics.proofs.Prelude.{◌≡◌, sym, ap, ◌∙◌, ℕ, ◌+◌, ◌*◌, ◌%◌, ◌^◌, ◌<◌, add-zero, mul-le-mul_left, add-one, arith, bit_or, or_shifted_r, pow-add, shl_exact}
use Rattle.rules.specs.{Core.Core, Map.bytes, Map.cell_at, Access.word, Access.read_byte, Access.read_dword, Access.read_at}
use Rattle.laws.proofs.laws.{Halves.byte_place, Widths.dword_four}
use Rattle.port.specs.readers.Bytes.{bytes_read}

-- v | b << (i * 8), for a v of i bytes
module _ (i v b : ℕ) (h : i < 4) (hv : v < 2 ^ (i * 8)) (hb : b < 2 ^ 8) where
  on_top : bit_or v (b * 2 ^ (i * 8) % 2 ^ 32) ≡ b * 2 ^ (i * 8) + v
  on_top = rw (shl_exact 8 (i * 8) 32 hb (omega arith)) (or_shifted_r b (i * 8) v hv)

  pub more_lt : bit_or v (b * 2 ^ (i * 8) % 2 ^ 32) < 2 ^ ((i + 1) * 8)
  more_lt =
      let e : (i + 1) * 8 ≡ i * 8 + 8 = omega arith in
      rw (on_top, e, pow-add 2 (i * 8) 8) (omega (arith, mul-le-mul_left (2 ^ (i * 8)) hb))

  pub more : (c : Core) (o : ℕ) → v ≡ bytes_read c o i → b ≡ read_byte c (o + i) → bit_or v (b * 2 ^ (i * 8) % 2 ^ 32) ≡ bytes_read c o (i + 1)
  unfolding bytes_read
  more c o p q =
      let e : b * 256 ^ i ≡ read_byte c (o + i) * 256 ^ i = ap (λ x. x * 256 ^ i) q in
      rw (on_top, add-one i, byte_place i) (omega arith)

module _ (c : Core) (o : ℕ) where
  pub four_read : cell_at o ≡ bytes → bytes_read c o 4 ≡ read_dword c o
  unfolding bytes_read
  four_read e = rw (add-zero o) (omega arith) ∙ sym (dword_four c o e)

  pub word_read : bytes_read c o 2 ≡ read_at c word o
  unfolding bytes_read read_at
  word_read = rw add-zero (omega arith)
