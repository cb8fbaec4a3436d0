-- Bytes written one after another: the Dword and the Word that they make, and how many acts they are.
use Rattle.basics.proofs.Prelude.{◌≡◌, sym, ◌∙◌, append_assoc, ℕ, zero, suc, ◌+◌, ◌*◌, ◌≤◌, add-zero, arith, length, length-append, byte_of}
use Rattle.rules.specs.{Core.Core, Core.turns, Map.bytes, Map.cell_at, Access.word, Access.dword_acts, Access.byte_acts, Access.write_acts}
use Rattle.laws.proofs.laws.{Writes.dword_acts_four, Losses.byte_short}
use Rattle.port.specs.write_cell.Writes.{bytes_acts}

module _ (c : Core) (o v : ℕ) where
  pub four_bytes_lem : cell_at o ≡ bytes → bytes_acts c o v 4 ≡ dword_acts o v
  unfolding bytes_acts
  four_bytes_lem e = sym (dword_acts_four o v (λ k. (turns c (bytes_acts c o v k)).after) e ∙ simp (append_assoc, add-zero))

  -- a Word is two Bytes, the second after the first has taken effect
  pub word_bytes : (w : ℕ) → byte_of w 0 ≡ byte_of v 0 → byte_of w 1 ≡ byte_of v 1 → bytes_acts c o w 2 ≡ write_acts c word o v
  unfolding bytes_acts write_acts turns
  word_bytes w p q = rw (add-zero o, p, q)

  -- each is four acts at most
  pub bytes_short : (n : ℕ) → length (bytes_acts c o v n) ≤ 4 * n
  unfolding bytes_acts
  bytes_short zero = omega arith
  bytes_short (suc n) =
      let xs = bytes_acts c o v n in
      omega (arith, length-append xs (byte_acts (turns c xs).after (o + n) (byte_of v n)), bytes_short n, byte_short (turns c xs).after (o + n) (byte_of v n))
