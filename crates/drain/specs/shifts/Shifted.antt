-- What is left where the first n of the waiting events go, with their numbers: events and numbers are things of two bytes.
use Rattle.std.specs.Prelude.{◌≡◌, true, false, List, ℕ, length}
use borrow.Rule.Slice.PartMut.{put_mid}
use Rattle.rules.specs.Ring.{drawn}
use Rattle.rules.specs.Device.{Device}
use Rattle.rules.specs.Numbering.{Numbers, fewer}
use Rattle.images.specs.Form.{Form, numbers, has, size, place, read}
use Rattle.fields.specs.inplace.Held.{Holds, with_ring}
use Rattle.drain.specs.move_up.Left.{Unused, shifted}

-- the numbers of an image that has them go as things of two bytes do; any other image stays
pub record NumbersLeave (f : Form) (i j : List ℕ) (m n : ℕ) : Type 0 where
  pub there : has f numbers ≡ true → Unused (read f i numbers) m → j ≡ put_mid (place f numbers) (size numbers) i (shifted (read f i numbers) n)
  pub without : has f numbers ≡ false → j ≡ i

-- of m events that wait the first n no longer do
abbrev pub Shifts : (i j : List ℕ) (m n : ℕ) → Type 0
Shifts i j m n = (d : Device) (s : Numbers) → Holds i d s → m ≡ length d.ring.waiting → Holds j (with_ring d (drawn d.ring n).after) (fewer s n)
