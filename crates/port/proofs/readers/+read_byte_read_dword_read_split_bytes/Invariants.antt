-- The three readers meet their contracts together; the measure of each is its depth, which falls at each call.
use Rattle.std.proofs.Common.{◌≡◌, ◌*◌, ◌^◌, ◌<◌, ◌≤◌}
use Rattle.device.specs.state.View.{view}
use Rattle.port.specs.readers.Bytes.{bytes_read}
use Rattle.port.proofs.readers.+read_byte_read_dword_read_split_bytes.Given as goal

-- ---- the depth of each
abbrev pub decreases-read_byte : goal.decreases-read_byte
decreases-read_byte l = l.depth

abbrev pub decreases-read_dword : goal.decreases-read_dword
decreases-read_dword l = l.depth

abbrev pub decreases-read_split_bytes : goal.decreases-read_split_bytes
decreases-read_split_bytes l = l.depth

-- ---- the loop: the bytes so far, as a number of so many bytes
abbrev pub invariant-read_split_bytes-loop-idx : goal.invariant-read_split_bytes-loop-idx
invariant-read_split_bytes-loop-idx l = (l.idx ≤ l.len) × (l.value ≡ bytes_read (view l.state).core l.offset l.idx) × (l.value < 2 ^ (l.idx * 8))
