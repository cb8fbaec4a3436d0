-- The depth that each member of a cycle needs: how many calls within the cycle may still follow one another. It falls at each call.
use Rattle.std.specs.Prelude.{◌≡◌, false, ℕ, ◌+◌, ◌-◌, ◌^◌, ◌≤◌, ◌<◌}
use Rattle.rules.specs.Map.{in_byte_area, bytes, cell_at}

-- a Byte that lies outside the area of the bytes asks for its Dword
abbrev pub ByteDepth : ℕ → ℕ → Type 0
ByteDepth o depth = in_byte_area o ≡ false → 1 ≤ depth

-- split bytes, n of them and four at most, ask for each Byte
pub record SplitDepth (o n depth : ℕ) : Type 0 where
  pub few : n ≤ 4
  pub fits : o + n ≤ 2 ^ 64
  pub one : 1 ≤ depth
  pub each : (k : ℕ) → k < n → ByteDepth (o + k) (depth - 1)

-- a Dword among the bytes asks for split bytes, and these for theirs, which lie inside
abbrev pub DwordDepth : ℕ → ℕ → Type 0
DwordDepth o depth = cell_at o ≡ bytes → 2 ≤ depth
