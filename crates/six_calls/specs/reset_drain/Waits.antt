-- What is known of an image in which nothing is seen to wait, or one event.
use Rattle.std.specs.Prelude.{◌≡◌, Bool, true, List, ℕ}
use Rattle.images.specs.{Form.Form, Image.count_in}
use Rattle.image.specs.{head.Good.head_good, bodies.Good.bodies_good}

-- told so, its contents and its bodies are good, and its count is n
abbrev pub Waits : ℕ → Form → List ℕ → Bool → Type 0
Waits n f l r = r ≡ true → (head_good f l ≡ true) × (bodies_good f l ≡ true) × (count_in f l ≡ n)
