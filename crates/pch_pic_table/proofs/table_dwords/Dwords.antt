-- What a Dword reads and writes in place, by what its offset means.
use Rattle.basics.proofs.Prelude.{◌≡◌, refl, sym, ap, ◌∙◌, Bool, List, [], ◌++◌, ℕ, zero, suc, ◌+◌, byte_of, half}
use Rattle.rules.specs.{Core.Core, Core.CoreTurn, Core.Act, Core.turns, Map.Register, Map.half_of, Map.bytes, Map.cell_at}
use Rattle.rules.specs.Access.{value_of, read_cell, read_dword, register_acts, entry_acts, cell_acts, dword_acts, byte_acts}
use Rattle.rules.proofs.laws.Acts.{turns_append}
use Rattle.laws.proofs.laws.{Losses.entry_quiet, Widths.dword_of, Writes.dword_acts_of, Writes.dword_acts_four}
use Rattle.fields.specs.inplace.Held.{Writes}
use Rattle.fields.proofs.inplace.Doing.{writes_quiet, writes_none, writes_same, writes_then}
use Rattle.table.{specs.Meaning.part, specs.Meaning.route, specs.Meaning.vector, specs.Meaning.nothing, specs.Meaning.meant, proofs.Meant.cell_of, proofs.Meant.cell_of_lem}
use Rattle.rules.specs.Map as map

-- a half is met at its lowest byte only
past : (r : Register) (h : Bool) (k : ℕ) (s : Bool) → (k ≡ 0 → ⊥) → cell_of (part r h k s) ≡ map.nothing
past r h zero s n = absurd (n refl)
past r h (suc k) s n = refl

module _ (o : ℕ) where
  lowest : {r : Register} {h : Bool} {k : ℕ} {s : Bool} → part r h k s ≡ meant o → k ≡ 0 → half_of r h ≡ cell_at o
  lowest {r} {h} {s = s} e z = sym (ap (λ (n : ℕ). cell_of (part r h n s)) z) ∙ ap cell_of e ∙ cell_of_lem o

  not_lowest : {r : Register} {h : Bool} {k : ℕ} {s : Bool} → part r h k s ≡ meant o → (k ≡ 0 → ⊥) → map.nothing ≡ cell_at o
  not_lowest {r} {h} {k} {s} e n = sym (past r h k s n) ∙ ap cell_of e ∙ cell_of_lem o

  no_cell : nothing ≡ meant o → map.nothing ≡ cell_at o
  no_cell e = ap cell_of e ∙ cell_of_lem o

  -- among the route and vector bytes
  pub route_bytes : {n : ℕ} → route n ≡ meant o → cell_at o ≡ bytes
  route_bytes e = sym (cell_of_lem o) ∙ sym (ap cell_of e)

  pub vector_bytes : {n : ℕ} → vector n ≡ meant o → cell_at o ≡ bytes
  vector_bytes e = sym (cell_of_lem o) ∙ sym (ap cell_of e)

  -- ---- a Dword that is read

  module _ (c : Core) where
    pub half_read : {r : Register} {h : Bool} {k : ℕ} {s : Bool} → part r h k s ≡ meant o → k ≡ 0 → read_dword c o ≡ half h (value_of c r)
    unfolding read_cell
    half_read e z = sym (dword_of c o (lowest e z))

    pub between_read : {r : Register} {h : Bool} {k : ℕ} {s : Bool} → part r h k s ≡ meant o → (k ≡ 0 → ⊥) → read_dword c o ≡ 0
    unfolding read_cell
    between_read e n = sym (dword_of c o (not_lowest e n))

    pub nothing_read : nothing ≡ meant o → read_dword c o ≡ 0
    unfolding read_cell
    nothing_read e = sym (dword_of c o (no_cell e))

  -- ---- a Dword that is written

  module _ (i : List ℕ) (v : ℕ) where
    pub half_writes : {r : Register} {h : Bool} {k : ℕ} {s : Bool} → part r h k s ≡ meant o → k ≡ 0 → {j : List ℕ} {n : ℕ} → Writes i j n (λ c. register_acts r h v) → Writes i j n (λ c. dword_acts o v)
    unfolding cell_acts
    half_writes {r} {h} e z w = writes_same (λ c. register_acts r h v) (λ c. dword_acts o v) w (λ d ns g. dword_acts_of o v (lowest e z))

    no_writes : map.nothing ≡ cell_at o → Writes i i 0 (λ c. dword_acts o v)
    unfolding cell_acts
    no_writes e = writes_same (λ c. []) (λ c. dword_acts o v) (writes_none i) (λ d ns g. dword_acts_of o v e)

    pub between_writes : {r : Register} {h : Bool} {k : ℕ} {s : Bool} → part r h k s ≡ meant o → (k ≡ 0 → ⊥) → Writes i i 0 (λ c. dword_acts o v)
    between_writes e n = no_writes (not_lowest e n)

    pub nothing_writes : nothing ≡ meant o → Writes i i 0 (λ c. dword_acts o v)
    nothing_writes e = no_writes (no_cell e)

pub ruleset dword_meant = (route_bytes, vector_bytes, half_read, between_read, nothing_read)

-- ---- four Bytes

-- acts after acts that make no event
quiet_both : (xs ys : List Act) → ((c : Core) → (turns c xs).made ≡ []) → ((c : Core) → (turns c ys).made ≡ []) → (c : Core) → (turns c (xs ++ ys)).made ≡ []
quiet_both xs ys p q c = ap (λ (t : CoreTurn). t.made) (turns_append c xs ys) ∙ (λ t. p c t ++ q (turns c xs).after t)

four_quiet : (o v : ℕ) → cell_at o ≡ bytes → (c : Core) → (turns c (dword_acts o v)).made ≡ []
unfolding cell_acts
four_quiet o v e c =
    let b : (k x : ℕ) → (c : Core) → (turns c (entry_acts (o + k) x)).made ≡ [] = λ k x c. entry_quiet c (o + k) x in
    ap (λ (xs : List Act). (turns c xs).made) (sym (dword_acts_of o v (sym e)))
    ∙ quiet_both _ _ (λ c. entry_quiet c o (byte_of v 0)) (quiet_both _ _ (b 1 (byte_of v 1)) (quiet_both _ _ (b 2 (byte_of v 2)) (b 3 (byte_of v 3)))) c

-- four Bytes one after another
pub four_writes : (o v : ℕ) → cell_at o ≡ bytes → {b₀ b₁ b₂ b₃ n₀ n₁ n₂ n₃ : ℕ} {i j k l m : List ℕ} → b₀ ≡ byte_of v 0 → b₁ ≡ byte_of v 1 → b₂ ≡ byte_of v 2 → b₃ ≡ byte_of v 3 → Writes i j n₀ (λ c. byte_acts c o b₀)
    → Writes j k n₁ (λ c. byte_acts c (o + 1) b₁) → Writes k l n₂ (λ c. byte_acts c (o + 2) b₂) → Writes l m n₃ (λ c. byte_acts c (o + 3) b₃) → Writes i m 0 (λ c. dword_acts o v)
four_writes o v e {b₀} {b₁} {b₂} {b₃} e₀ e₁ e₂ e₃ p q r s =
    let w = writes_then (λ c. byte_acts c o b₀) _ p (writes_then (λ c. byte_acts c (o + 1) b₁) _ q (writes_then (λ c. byte_acts c (o + 2) b₂) (λ c. byte_acts c (o + 3) b₃) r s)) in
    writes_quiet (λ c. dword_acts o v) (writes_same _ (λ c. dword_acts o v) w (λ d ns h. all d.core)) (four_quiet o v e)
  where
    one : Core → Core
    one c = (turns c (byte_acts c o b₀)).after

    two : Core → Core
    two c = (turns (one c) (byte_acts (one c) (o + 1) b₁)).after

    three : Core → Core
    three c = (turns (two c) (byte_acts (two c) (o + 2) b₂)).after

    each : Core → ℕ → Core
    each c zero = c
    each c (suc zero) = one c
    each c (suc (suc zero)) = two c
    each c (suc (suc (suc k))) = three c

    all : (c : Core) → byte_acts c o b₀ ++ (byte_acts (one c) (o + 1) b₁ ++ (byte_acts (two c) (o + 2) b₂ ++ byte_acts (three c) (o + 3) b₃)) ≡ dword_acts o v
    all c = (λ t. byte_acts c o (e₀ t) ++ (byte_acts (one c) (o + 1) (e₁ t) ++ (byte_acts (two c) (o + 2) (e₂ t) ++ byte_acts (three c) (o + 3) (e₃ t)))) ∙ sym (dword_acts_four o v (each c) e)
