-- Of a good trace, all its records stand where they are looked for.
use Rattle.basics.proofs.Prelude.{◌≡◌, subst, List, ℕ, arith}
use Rattle.traces.specs.Trace.{good, trace_test}
use Rattle.traces.proofs.demands.{Told.AllGood, Told.Means, Told.test_told, Sizes.few_records, Sizes.trace_length}
use Rattle.ledger.specs.follow.Reached.{Reaches}

module _ (l : List ℕ) {first n : ℕ} (e : trace_test l ≡ good first n) where
  pub all_good_lem : AllGood l first n
  all_good_lem = subst (Means l) e (test_told l)

  pub reaches : Reaches l first n
  reaches =
      let g = all_good_lem in
      record { place = g.place; few = omega (arith, g.count, few_records l g.contents); fits = omega (arith, g.place, g.count, trace_length l g.contents) }
