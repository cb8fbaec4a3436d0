-- What the first bad byte is.
use Rattle.std.specs.Prelude.{◌≡◌, ℕ, ◌<◌, ◌≤◌, Bool, true, false, List, length, slice_index}

-- the index of the first bad byte, each judged with its index; the length where none is bad
pub record First (bad : ℕ → ℕ → Bool) (l : List ℕ) (j : ℕ) : Type 0 where
  pub reach : j ≤ length l
  pub before : (m : ℕ) → m < j → bad m (slice_index l m) ≡ false
  pub here : j < length l → bad j (slice_index l j) ≡ true

-- the bytes from a on are zero up to j, which is none behind the end
pub record ZerosTo (l : List ℕ) (a j : ℕ) : Type 0 where
  pub low : a ≤ j
  pub high : j ≤ length l
  pub zero : (m : ℕ) → a ≤ m → m < j → slice_index l m ≡ 0
