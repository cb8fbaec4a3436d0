-- A half of a register written, and ISR as it reads.
use Rattle.basics.proofs.Prelude.{◌≡◌, refl, sym, ap, ◌∙◌, Bool, List, [], ◌∷◌, ℕ, ◌-◌, ◌^◌, bit_and, on, without, with_half, without_is}
use Rattle.rules.specs.{Lines.with_isr, Core.Plain, Core.plain, Core.with_plain, Core.set_isr, Core.store, Core.set_plain, Core.turns, Core.line_turn}
use Rattle.laws.proofs.laws.Writes.{acted_isr, acted_store}
use Rattle.fields.{specs.inplace.Held.Reads, specs.inplace.Held.Becomes, specs.inplace.Held.Writes, specs.inplace.Held.with_lines, specs.inplace.Held.with_stored, proofs.inplace.Doing.stores_write}

module _ (i : List ℕ) (b : Bool) (v : ℕ) {old new : ℕ} (is : new ≡ with_half b old v) {j : List ℕ} where
  pub isr_half : Reads i old (λ d. d.core.lines.isr) → Becomes i j (λ d. with_lines d (with_isr d.core.lines new)) → Writes i j 0 (λ c. set_isr b v ∷ [])
  unfolding turns line_turn
  isr_half r s = stores_write (λ c. set_isr b v ∷ []) s (λ d ns h. ap (λ y. with_lines d (with_isr d.core.lines y)) (is ∙ ap (λ y. with_half b y v) (r d ns h)) ∙ sym (acted_isr d b v)) (λ c. refl)

  pub plain_half : (p : Plain) → Reads i old (λ d. plain d.core.stored p) → Becomes i j (λ d. with_stored d (with_plain d.core.stored p new)) → Writes i j 0 (λ c. store (set_plain p b v) ∷ [])
  unfolding turns line_turn
  plain_half p r s = stores_write (λ c. store (set_plain p b v) ∷ []) s (λ d ns h. ap (λ y. with_stored d (with_plain d.core.stored p y)) (is ∙ ap (λ y. with_half b y v) (r d ns h)) ∙ sym (acted_store d (set_plain p b v))) (λ c. refl)

pub isr_value : (i : List ℕ) {x y : ℕ} → Reads i x (λ d. d.core.lines.isr) → Reads i y (λ d. d.core.lines.mask) → Reads i (bit_and x ((2 ^ 64 - 1) - y)) (λ d. without d.core.lines.isr (on d.core.lines.mask))
isr_value i e g d ns h = (λ t. bit_and (e d ns h t) ((2 ^ 64 - 1) - g d ns h t)) ∙ without_is d.core.lines.isr d.core.lines.mask h.well.isr h.well.mask
