-- How many events wait, as the byte of the count tells it.
use Rattle.basics.proofs.Prelude.{◌≡◌, ap, ◌∙◌, List, ℕ, length, get_or}
use Rattle.images.{specs.Form.Form, specs.Form.count, specs.Form.place, specs.Form.form_length, specs.Image.count_in, proofs.laws.Saved.count_stands}
use Rattle.fields.specs.inplace.Held.{Reads}
use Rattle.fields.proofs.inplace.Doing.{holds_as}

pub counted : (f : Form) (i : List ℕ) → length i ≡ form_length f → {at m : ℕ} → at ≡ place f count → m ≡ get_or i at 0 → Reads i m (λ d. length d.ring.waiting)
counted f i long g c d s h = c ∙ ap (λ a. get_or i a 0) g ∙ ap (count_in f) (holds_as f i long h) ∙ count_stands d h.well s h.numbered f
