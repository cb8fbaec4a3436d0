-- The numbers beside a state, as the rules see them.
use Rattle.std.specs.Prelude.{◌≡◌, List, ℕ}
use Rattle.images.specs.Form.{Form}
use Rattle.images.specs.Image.{numbers_as, accepted, image_test, number_body}

-- the body of an accepted image's numbers; of any other the unused ones may not be zero, and are handed back as they are
abbrev pub LoadsNumbers : Form → List ℕ → List ℕ → Type 0
LoadsNumbers f l r = image_test l ≡ accepted → r ≡ number_body (numbers_as f l)
