-- `follow`: a record in each round.
use Rattle.basics.proofs.Prelude.{rules, map, ℕ, arith, ◌≡◌, subst}
use Rattle.ledger.proofs.follow.{Rounds.first_round, Rounds.next_round}
use Rattle.passes.specs.tallies.{Following.FollowsDay}
use Rattle.sheets.specs.Day.{item_of}
use Rattle.traces.specs.Played.{records_from}
use Rattle.trace.specs.record_bytes.Shown.{record_view}
use Rattle.ledger.specs.watch.Kept.{lines_of}
use Rattle.ledger.proofs.follow.follow.Goals as goal

pub loop-k-init : goal.loop-k-init
loop-k-init c = let a = c.args in
    first_round a.wide a.trace.now a.records a.sheet.now (lines_of a.kept) a.kept.waiting a.base

pub loop-k-preserved : goal.loop-k-preserved
loop-k-preserved c = let a = c.args in
    next_round c.loop-k.invariant c.loop-k-test.true a.first c.requires.0.place (record_view c.record_at-r.result) c.record_at-r.ensures c.step-w.ensures (search rules)

pub returns : goal.returns
returns c = let a = c.args in
    let l = c.loop-k in
    let e : l.k ≡ a.records = omega (arith, c.loop-k-test.false, l.invariant.upto) in
    subst (λ (k : ℕ). FollowsDay a.wide (lines_of a.kept) a.kept.waiting a.sheet.now l.sheet a.base (map item_of (records_from a.trace.now k 0))) e
    (λ d w h. (l.invariant.follows d w h).takes)
