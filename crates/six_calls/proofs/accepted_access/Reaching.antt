-- A narrow write takes the low half of a value: the bytes that it stores are the value's.
use Rattle.basics.proofs.Prelude.{low_bytes, ◌≡◌, ap, ◌∙◌, false, List, ◌++◌, ℕ, ◌+◌, byte_of, half}
use Rattle.rules.specs.{Core.turns, Access.byte, Access.word, Access.dword, Access.byte_acts, Access.dword_acts, Access.write_acts}
use Rattle.fields.{specs.inplace.Held.Writes, proofs.inplace.Doing.writes_same}

module _ (o v : ℕ) {w : ℕ} (e : w ≡ half false v) {i j : List ℕ} {n : ℕ} where
  pub byte_low : {b : ℕ} → b ≡ byte_of w 0 → Writes i j n (λ c. byte_acts c o b) → Writes i j n (λ c. write_acts c byte o v)
  unfolding write_acts
  byte_low f p = writes_same _ (λ c. write_acts c byte o v) p (λ d ns h. ap (byte_acts d.core o) (f ∙ (low_bytes v w e).0))

  pub word_low : Writes i j n (λ c. write_acts c word o w) → Writes i j n (λ c. write_acts c word o v)
  unfolding write_acts
  word_low p =
      let f = low_bytes v w e in
      writes_same _ (λ c. write_acts c word o v) p
      (λ d ns h t. byte_acts d.core o (f.0 t) ++ byte_acts (turns d.core (byte_acts d.core o (f.0 t))).after (o + 1) (f.1 t))

  pub dword_low : Writes i j n (λ c. dword_acts o w) → Writes i j n (λ c. write_acts c dword o v)
  unfolding write_acts
  dword_low p = writes_same _ (λ c. write_acts c dword o v) p (λ d ns h. ap (dword_acts o) e)
