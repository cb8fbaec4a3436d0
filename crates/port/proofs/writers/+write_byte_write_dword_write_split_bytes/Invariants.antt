-- The three writers meet their contracts together; the measure of each is its depth, which falls at each call, as with the readers.
use Rattle.std.proofs.Common.{◌≤◌}
use Rattle.device.specs.state.View.{view}
use Rattle.port.specs.write_cell.Writes.{Writes, bytes_acts}
use Rattle.port.proofs.writers.+write_byte_write_dword_write_split_bytes.Given as goal

-- ---- the depth of each
abbrev pub decreases-write_byte : goal.decreases-write_byte
decreases-write_byte l = l.depth

abbrev pub decreases-write_dword : goal.decreases-write_dword
decreases-write_dword l = l.depth

abbrev pub decreases-write_split_bytes : goal.decreases-write_split_bytes
decreases-write_split_bytes l = l.depth

-- ---- the loop: the bytes so far are written
abbrev pub invariant-write_split_bytes-loop-idx : goal.invariant-write_split_bytes-loop-idx
invariant-write_split_bytes-loop-idx l = (l.idx ≤ l.len) × Writes (record { state = l.out; dropped = l.dropped }) (view l.initial.out) (bytes_acts (view l.initial.out).core l.offset l.val l.idx)
