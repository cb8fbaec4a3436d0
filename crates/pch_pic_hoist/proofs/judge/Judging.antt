-- Whether a write is forbidden, and whether start-up cannot end, by what the tests by value say of the image.
use Rattle.basics.proofs.Prelude.{◌≡◌, sym, ap, ◌∙◌, Bool, true, false, not, and-false, List, ℕ, ◌+◌, ◌-◌, ◌%◌, ◌≤◌, arith, eqb, half}
use Rattle.rules.specs.{Map.in_vectors, Access.dword, Access.read_dword, Device.write}
use Rattle.laws.proofs.laws.Maps.{inside_from}
use Rattle.histories.specs.Premises.{is_isr}
use Rattle.fields.specs.inplace.Held.{Reads}
use Rattle.hoists.{specs.Profile.changes_served, specs.Profile.forbidden, specs.HoistCalls.cannot_end, specs.Four.changes_four, proofs.laws.Inputs.served_is}
use Rattle.hoists.proofs.laws.Vectors.{served_four, none_changed}

-- an aligned Dword that begins among the vector bytes lies there whole
pub wholly : (o : ℕ) → o % 4 ≡ 0 → in_vectors o ≡ true → (0x200 ≤ o) × (o + 4 ≤ 0x240)
wholly o h e = let r = inside_from 0x200 0x240 o e in omega arith

module _ (i : List ℕ) (o v : ℕ) where
  -- in start-up, by its four bytes
  pub four_judged : 0x200 ≤ o → o + 4 ≤ 0x240 → (isr old new : ℕ) → Reads i isr (λ d. d.core.lines.isr) → Reads i old (λ d. read_dword d.core o) → new ≡ half false v
      → {b : Bool} → b ≡ changes_four isr (o - 0x200) old new → Reads i b (λ d. changes_served d (write dword o v))
  four_judged a b isr old new p q r e d s h =
      e ∙ (λ t. changes_four (p d s h t) (o - 0x200) (q d s h t) (r t)) ∙ sym (served_four d h.well o v a b)

  module _ (running : Bool) where
    pub isr_judged : is_isr o ≡ true → Reads i true (λ d. forbidden running d o v)
    unfolding forbidden
    isr_judged e d s h = rw e

    module _ (no : is_isr o ≡ false) where
      pub elsewhere_judged : o % 4 ≡ 0 → in_vectors o ≡ false → Reads i false (λ d. forbidden running d o v)
      unfolding forbidden
      elsewhere_judged a e d s h = rw (no, e, and-false running, none_changed d o v a e)

      pub running_judged : in_vectors o ≡ true → running ≡ true → Reads i true (λ d. forbidden running d o v)
      unfolding forbidden
      running_judged e r d s h = rw (no, e, r)

      pub vectors_judged : running ≡ false → {b : Bool} → Reads i b (λ d. changes_served d (write dword o v)) → Reads i b (λ d. forbidden running d o v)
      unfolding forbidden
      vectors_judged r p d s h = p d s h ∙ rw (no, r)

-- ---- the end of start-up: an input is in service exactly where ISR is not 0

pub served_judged : (i : List ℕ) (running : Bool) → running ≡ false → {isr : ℕ} → Reads i isr (λ d. d.core.lines.isr) → Reads i (not (eqb isr 0)) (λ d. cannot_end running d)
served_judged i running e p d s h = ap (λ x. not (eqb x 0)) (p d s h) ∙ sym (served_is d h.well.isr) ∙ sym (rw e)
