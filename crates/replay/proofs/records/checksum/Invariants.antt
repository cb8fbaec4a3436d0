-- `checksum` is right since the sum so far, taken on over the bytes that are left, is the sum of all.
use Rattle.basics.proofs.Prelude.{◌≡◌, ◌<◌, drop}
use Rattle.replay.specs.records.Records.{checksum_of}
use Rattle.replay.proofs.records.checksum.Given as goal

abbrev pub invariant-loop-byte : goal.invariant-loop-byte
invariant-loop-byte l = (l.sum < 4294967291) × (checksum_of l.sum (drop l.byte-index l.b) ≡ checksum_of 0 l.b)
