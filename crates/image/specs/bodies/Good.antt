-- What the test of an image's bodies looks at, as the rules see it.
use Rattle.std.specs.Prelude.{ℕ, Bool, true, false, cond, ◌&&◌, List}
use Rattle.images.specs.Form.{Form, pairs, numbers, has, place, read}
use Rattle.images.specs.Image.{Finding, clear, found, rules, first_fault, ImageTest, body_test}
use Rattle.image.specs.unused.Events.{pairs_good, numbers_good}

-- no rule of the bodies finds anything
abbrev pub is_clear : Finding → Bool
is_clear clear = true
is_clear (found k a) = false

abbrev pub bodies_good : Form → List ℕ → Bool
bodies_good f l = is_clear (first_fault f l (rules f l))

-- with good contents the bodies decide
abbrev pub bodies_test : Form → List ℕ → ImageTest
bodies_test f l = body_test (first_fault f l (rules f l))

-- both rules of the ring's events, the first n of which wait; where the numbers stand, or the pairs in a form without them
abbrev pub ring_good : Form → ℕ → List ℕ → Bool
ring_good f n l = pairs_good n (read f l pairs) && numbers_good f n l

abbrev pub spare_at : Form → ℕ
spare_at f = cond (has f numbers) (place f numbers) (place f pairs)
