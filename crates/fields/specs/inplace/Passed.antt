-- An image that passed the tests of a call: it is accepted, and its length tells its form.
use Rattle.std.specs.Prelude.{◌≡◌, ℕ, List, length}
use Rattle.basics.specs.Numbers.{Bytes}
use Rattle.images.specs.Form.{Form, known, form_of}
use Rattle.images.specs.Image.{accepted, image_test}

pub record Passed (f : Form) (i : List ℕ) : Type 0 where
  pub bytes : Bytes i
  pub good : image_test i ≡ accepted
  pub known : form_of (length i) ≡ known f
