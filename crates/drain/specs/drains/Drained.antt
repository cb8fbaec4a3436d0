-- What a drain promises: of whatever device and numbers the image holds, its ring draws for the room that there is, and each event that comes out has its number.
use Rattle.std.specs.Prelude.{◌≡◌, List, ◌++◌, ℕ, ◌*◌, ◌/◌, length, take, drop}
use Rattle.rules.specs.Ring.{Drawn, drawn}
use Rattle.rules.specs.Device.{Device}
use Rattle.rules.specs.Numbering.{Numbers, with_numbers, drained_length, quads_of, fewer}
use Rattle.images.specs.Image.{numbers_in}
use Rattle.fields.specs.inplace.Held.{Holds, Does, with_ring}

-- what the ring of d draws into a buffer
abbrev pub drew : Device → List ℕ → Drawn
drew d entry = drawn d.ring (length entry / drained_length)

-- n events come out with their numbers in front of the buffer, and every other byte stays (02, C-19)
pub record Drains (i j entry exit : List ℕ) (n : ℕ) : Type 0 where
  pub does : Does i j n (λ d. with_ring d (drew d entry).after) (λ d s. fewer s (length entry / drained_length)) (λ d. length (drew d entry).drained)
  pub events : (d : Device) (s : Numbers) → Holds i d s
      → exit ≡ quads_of (with_numbers (drew d entry).drained (take (length entry / drained_length) (numbers_in i).waiting)) ++ drop (drained_length * n) entry
