-- `copy_records`: the records copied so far are the source's.
use Rattle.basics.proofs.Prelude.{◌*◌, take, Filled}
use Rattle.traces.specs.Trace.{record_length}
use Rattle.pch_pic_salvage.proofs.rebuilt.copy_records.Given as goal

abbrev pub invariant-loop-k : goal.invariant-loop-k
invariant-loop-k l = Filled l.dst l.initial.dst (take (record_length * l.k) l.src) (record_length * l.k)
