-- A Qword by its Dwords.
use Rattle.basics.proofs.Prelude.{◌≡◌, true, false, List, ◌++◌, ℕ, ◌+◌, half}
use Rattle.rules.specs.Access.{qword, dword_acts, write_acts}
use Rattle.fields.{specs.inplace.Held.Writes, proofs.inplace.Doing.writes_same, proofs.inplace.Doing.writes_then}

module _ (o v : ℕ) {i j : List ℕ} {n : ℕ} where
  pub qword_both : {k : List ℕ} {m w x : ℕ} → w ≡ half false v → x ≡ half true v → Writes i j n (λ c. dword_acts o w) → Writes j k m (λ c. dword_acts (o + 4) x) → Writes i k (n + m) (λ c. write_acts c qword o v)
  unfolding write_acts
  qword_both {w = w} {x} e f p q = writes_same _ (λ c. write_acts c qword o v) (writes_then (λ c. dword_acts o w) (λ c. dword_acts (o + 4) x) p q) (λ d ns g t. dword_acts o (e t) ++ dword_acts (o + 4) (f t))
