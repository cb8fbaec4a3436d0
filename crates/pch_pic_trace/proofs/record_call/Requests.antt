-- The call that a record is, by its kind.
use Rattle.basics.proofs.Prelude.{◌≡◌, replicate}
use Rattle.traces.specs.{Trace.Record, Played.drain_room, Played.request_of}
use Rattle.calls.specs.Calls as request

module _ (r : Record) where
  pub raises : r.kind ≡ 1 → request_of r ≡ request.level r.byte 1
  unfolding request_of
  raises e = rw e

  pub lowers : r.kind ≡ 2 → request_of r ≡ request.level r.byte 0
  unfolding request_of
  lowers e = rw e

  pub polls : r.kind ≡ 3 → request_of r ≡ request.poll r.byte
  unfolding request_of
  polls e = rw e

  pub reads : r.kind ≡ 4 → request_of r ≡ request.read 0 65536 r.offset r.byte
  unfolding request_of
  reads e = rw e

  pub writes : r.kind ≡ 5 → request_of r ≡ request.write 0 65536 r.offset r.byte r.value
  unfolding request_of
  writes e = rw e

  pub drains_all : r.kind ≡ 6 → request_of r ≡ request.drain (replicate drain_room 0) 0
  unfolding request_of
  drains_all e = rw e
