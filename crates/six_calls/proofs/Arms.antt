-- What a call knows in the arm of a form by the first tests of an image: its form, and that it is accepted.
use Rattle.std.proofs.Common.{Option, Some}
use Rattle.basics.proofs.Prelude.{◌≡◌, sym, ap, ◌∙◌, Bool, true, List, ℕ, length, Bytes}
use Rattle.images.specs.Form.{Form, known, form_of}
use Rattle.image.specs.{Shown.form_view, Shown.form_known, quick.Quiet.Quiet}
use Rattle.image.proofs.bodies.Orders.{accepts}
use Rattle.fields.specs.inplace.Passed.{Passed}
use Rattle.six_calls.specs.reset_drain.Waits.{Waits}
use Rattle.image.specs.declared.form.Form as code

module _ (i : List ℕ) where
  -- in the arm of a form the length tells that form
  pub formed : (k : Option code.Form) (x : code.Form) → k ≡ Some x → form_known k ≡ form_of (length i) → (y : code.Form) → x ≡ y → form_of (length i) ≡ known (form_view y)
  formed k x e g y h = sym g ∙ ap form_known (e ∙ ap Some h)

  -- the quick test is passed: the image is accepted
  pub quick_passed : Bytes i → (f : Form) → form_of (length i) ≡ known f → (r : ℕ) → Quiet f i r → r ≡ 0 → Passed f i
  quick_passed b f told r q z = record { bytes = b; good = accepts i f told (q z).0 (q z).1; known = told }

  -- so many are seen to wait: it is accepted too
  pub waits_passed : Bytes i → (f : Form) → form_of (length i) ≡ known f → (n : ℕ) (r : Bool) → Waits n f i r → r ≡ true → Passed f i
  waits_passed b f told n r q z = record { bytes = b; good = accepts i f told (q z).0 (q z).1; known = told }
