-- What the quick test of an image promises: one way alone. Zero tells that the rules hold; any other number tells nothing.
use Rattle.std.specs.Prelude.{◌≡◌, ℕ, true, List}
use Rattle.images.specs.Form.{Form}
use Rattle.images.specs.Image.{count_in}
use Rattle.image.specs.{head.Good.head_good, bodies.Good.bodies_good}

-- zero only where the rules of the bodies hold and nothing waits
abbrev pub QuietBodies : Form → List ℕ → ℕ → Type 0
QuietBodies f l r = r ≡ 0 → (bodies_good f l ≡ true) × (count_in f l ≡ 0)

-- zero only where the contents are those of the form as well
abbrev pub Quiet : Form → List ℕ → ℕ → Type 0
Quiet f l r = r ≡ 0 → (head_good f l ≡ true) × (bodies_good f l ≡ true) × (count_in f l ≡ 0)

-- zero only where the rules of the bodies hold, whatever waits
abbrev pub Kept : Form → List ℕ → ℕ → Type 0
Kept f l r = r ≡ 0 → bodies_good f l ≡ true
