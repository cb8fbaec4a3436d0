-- Which form holds numbers, both ways (02, C-19).
use Rattle.basics.proofs.Prelude.{◌≡◌, refl, true, false≢true, List, ℕ, arith, length}
use Rattle.images.specs.Form.{Form, one, two, numbered, numbers, has, form_length}
use Rattle.histories.specs.exported.Forms.{HoldsNumbers}

-- of the forms, those that have numbers are the one that is asked for
pub holds_numbers_exactly : (f : Form) (i : List ℕ) → length i ≡ form_length f → (HoldsNumbers i → has f numbers ≡ true) × (has f numbers ≡ true → HoldsNumbers i)
holds_numbers_exactly one i l = (λ h. absurd (omega (arith, l, h)), λ e. absurd (false≢true e))
holds_numbers_exactly two i l = (λ h. absurd (omega (arith, l, h)), λ e. absurd (false≢true e))
holds_numbers_exactly numbered i l = (λ h. refl, λ e. omega (arith, l))
