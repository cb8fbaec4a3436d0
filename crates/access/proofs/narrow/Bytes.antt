-- A Byte by the Dword that it lies in, and a Word by two Bytes, or by the Dword that has both.
use Rattle.basics.proofs.Prelude.{◌≡◌, sym, ap, ◌∙◌, Bool, true, false, not, ◌&&◌, false≢true, List, ◌++◌, ℕ, ◌+◌, ◌*◌, ◌/◌, ◌%◌, ◌^◌, ◌<◌, arith, eqb, eqb-false, bit_and, and_mask, shr-shr, byte_of, with_byte}
use Rattle.rules.specs.{Core.Core, Core.turns, Map.in_byte_area, Access.word, Access.read_dword, Access.read_byte, Access.read_at, Access.byte_acts, Access.dword_acts, Access.write_acts}
use Rattle.laws.proofs.laws.{Halves.byte_place, Maps.inside, Maps.outside, Widths.low_place, Widths.aligned, Widths.byte_outside, Writes.byte_acts_outside}
use Rattle.fields.{specs.inplace.Held.Reads, specs.inplace.Held.Writes, proofs.inplace.Doing.writes_same, proofs.inplace.Doing.writes_then}

-- a Byte outside 0x100..0x39f: the Dword as read, with the byte replaced, is written
pub outside_written : (o v : ℕ) {i j : List ℕ} {n old : ℕ} {new : ℕ} → o < 2 ^ 64 → in_byte_area o ≡ false → Reads i old (λ d. read_dword d.core (bit_and o 0xffff_ffff_ffff_fffc)) → new ≡ with_byte old (bit_and o 0x3) v
    → Writes i j n (λ c. dword_acts (bit_and o 0xffff_ffff_ffff_fffc) new) → Writes i j n (λ c. byte_acts c o v)
outside_written o v {new} l n r g p =
    writes_same (λ c. dword_acts (bit_and o 0xffff_ffff_ffff_fffc) new) (λ c. byte_acts c o v) p (λ d ns h. ap (dword_acts (bit_and o 0xffff_ffff_ffff_fffc)) (g ∙ ap (λ x. with_byte x (bit_and o 0x3) v) (r d ns h)) ∙ sym (byte_acts_outside o v d.core l n))

module _ (o v : ℕ) {i j : List ℕ} {n : ℕ} where
  pub word_written : {k : List ℕ} {m b₀ b₁ : ℕ} → b₀ ≡ byte_of v 0 → b₁ ≡ byte_of v 1 → Writes i j n (λ c. byte_acts c o b₀) → Writes j k m (λ c. byte_acts c (o + 1) b₁) → Writes i k (n + m) (λ c. write_acts c word o v)
  unfolding write_acts
  word_written {b₀ = b₀} {b₁} e f p q = writes_same _ (λ c. write_acts c word o v) (writes_then (λ c. byte_acts c o b₀) (λ c. byte_acts c (o + 1) b₁) p q) (λ d ns h t. byte_acts d.core o (e t) ++ byte_acts (turns d.core (byte_acts d.core o (e t))).after (o + 1) (f t))

-- ---- a Word inside one Dword

-- the next Byte of the same Dword is outside 0x100..0x39f too: both ends are aligned
next_outside : (o : ℕ) → o % 4 < 3 → in_byte_area o ≡ false → in_byte_area (o + 1) ≡ false
next_outside o q h = outside 0x100 0x3a0 (o + 1) (λ p r. false≢true (sym h ∙ inside 0x100 0x3a0 o (omega arith) (omega arith)))

-- (x >> (k * 8)) & 0xffff
word_taken : (x k : ℕ) → bit_and (x / 2 ^ (k * 8)) 0xffff ≡ byte_of x k + 2 ^ 8 * byte_of x (k + 1)
word_taken x k =
    let y = x / 256 ^ k in
    let e : (k + 1) * 8 ≡ k * 8 + 8 = omega arith in
    let next : x / 256 ^ (k + 1) ≡ y / 256 = ap (λ p. x / p) (sym (byte_place (k + 1)) ∙ ap (λ j. 2 ^ j) e) ∙ sym (shr-shr x (k * 8) 8) ∙ ap (λ p. x / p / 256) (byte_place k) in
    let two : y % 2 ^ 16 ≡ y % 256 + 2 ^ 8 * (y / 256 % 256) = omega arith in
    ap (λ p. bit_and (x / p) 0xffff) (byte_place k) ∙ and_mask y 16 ∙ two ∙ ap (λ z. y % 256 + 2 ^ 8 * (z % 256)) (sym next)

-- what the test tells
pub neither_is : (p r : Bool) → (not p && not r) ≡ true → (p ≡ false) × (r ≡ false)
neither_is true r e = absurd (false≢true e)
neither_is false true e = absurd (false≢true e)
neither_is false false e = (λ t. false, λ t. false)

pub word_in_dword : (c : Core) (o : ℕ) {x : ℕ} → o + 1 < 2 ^ 64 → eqb (bit_and o 0x3) 3 ≡ false → in_byte_area o ≡ false → x ≡ read_dword c (bit_and o 0xffff_ffff_ffff_fffc)
    → bit_and (x / 2 ^ (bit_and o 0x3 * 8)) 0xffff ≡ read_at c word o
unfolding read_at
word_in_dword c o {x} l n h e =
    let k = bit_and o 0x3 in
    let place : o % 4 < 3 = omega (arith, low_place o, eqb-false (bit_and o 0x3) 3 n) in
    let step : (o + 1) % 4 ≡ o % 4 + 1 = omega arith in
    let next : bit_and (o + 1) 0x3 ≡ k + 1 = low_place (o + 1) ∙ step ∙ ap (λ p. p + 1) (sym (low_place o)) in
    let same : bit_and (o + 1) 0xffff_ffff_ffff_fffc ≡ bit_and o 0xffff_ffff_ffff_fffc = omega (arith, aligned (o + 1) l, aligned o (omega arith)) in
    let low : read_byte c o ≡ byte_of (read_dword c (bit_and o 0xffff_ffff_ffff_fffc)) k = byte_outside c o (omega arith) h in
    let high : read_byte c (o + 1) ≡ byte_of (read_dword c (bit_and o 0xffff_ffff_ffff_fffc)) (k + 1) = byte_outside c (o + 1) l (next_outside o place h) ∙ (λ t. byte_of (read_dword c (same t)) (next t)) in
    word_taken x k ∙ (λ t. byte_of (e t) k + 2 ^ 8 * byte_of (e t) (k + 1)) ∙ (λ t. sym low t + 2 ^ 8 * sym high t)
