-- `first_bad`: the records looked at so far are good, and what is left of them decides.
use Rattle.std.proofs.Common.{◌≡◌, ◌-◌}
use Rattle.traces.specs.Trace.{first_bad}
use Rattle.trace.specs.Found.{bad_from}
use Rattle.trace.proofs.first_bad.Given as goal

abbrev pub invariant-loop-k : goal.invariant-loop-k
invariant-loop-k l = first_bad (bad_from l.first l.trace) l.records 0 ≡ first_bad (bad_from l.first l.trace) (l.records - l.k) l.k
