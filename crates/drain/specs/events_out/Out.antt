-- What comes out of an image: the oldest events, each with its number.
use Rattle.std.specs.Prelude.{◌≡◌, List, ℕ, ◌≤◌, length, take}
use Rattle.rules.specs.Device.{Device}
use Rattle.rules.specs.Numbering.{Numbers, with_numbers, quads_of}
use Rattle.images.specs.Image.{numbers_in}
use Rattle.fields.specs.inplace.Held.{Holds}

-- the first n of the events that wait, each with its number
abbrev pub CopiesOut : (i out : List ℕ) (n : ℕ) → Type 0
CopiesOut i out n =
    (d : Device) (s : Numbers) → Holds i d s → n ≤ length d.ring.waiting
    → out ≡ quads_of (with_numbers (take n d.ring.waiting) (take n (numbers_in i).waiting))
