-- What is told of a call that may find at its end that it has no room: 7 writes no byte, and all else stands in the answer area.
use Rattle.basics.proofs.Prelude.{◌≡◌, sym, ap, ◌∙◌, List, ℕ, eq-eqb, ne_eqb}
use Rattle.rules.specs.Device.{Value}
use Rattle.calls.specs.Calls.{answered}
use Rattle.calls.specs.Reasons.{told_in}

-- of a call that leaves some bytes, a number and an answer area
module _ {L : Type 0} (leaves : ℕ → List ℕ → L) (n : ℕ) (v : Value) (a : List ℕ) where
  pub late_seven : n ≡ 7 → leaves 7 a ≡ leaves n (told_in n v a)
  late_seven e = ap (λ (m : ℕ). leaves m a) (sym e) ∙ ap (leaves n) (rw (eq-eqb n 7 e))

  pub told_late : (n ≡ 7 → ⊥) → {r : ℕ} {b : List ℕ} → (r ≡ n) × (b ≡ answered n v a) → leaves r b ≡ leaves n (told_in n v a)
  told_late x p = (λ s. leaves (p.0 s) (p.1 s)) ∙ ap (leaves n) (rw (ne_eqb n 7 x))
