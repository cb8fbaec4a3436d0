-- `count`: the records behind those that were counted, and then how many there are.
use Rattle.basics.proofs.Prelude.{arith, rules, true, ◌≡◌, drop, Bytes}
use Rattle.passes.specs.tallies.Tally.{counted_in}
use Rattle.passes.proofs.tallies.laws.Sound.{counted_few}
use Rattle.ledger.proofs.follow.Loops.{some_grid, holds_some}
use Rattle.pch_pic_tally.proofs.adding.{Ends.so_far, Ends.counts}
use Rattle.pch_pic_tally.proofs.adding.count.Goals as goal
use Rattle.pch_pic_tally.proofs.adding.count.Goals.{After-cell-base}

-- the number read
base_is : (c : After-cell-base) → c.cell-base.result ≡ counted_in c.args.tally.now
base_is c =
    let t = c.args.tally.now in
    let bytes : Bytes t = search rules in
    so_far t bytes c.requires.1 (c.cell-base.ensures (some_grid true t) (drop 5200 t) (holds_some true t bytes c.requires.1))

pub follow-requires : goal.follow-requires
follow-requires c =
    (c.requires.0, c.requires.1, omega (arith, base_is (goal.at.follow-requires c).After-cell-base, counted_few c.args.tally.now c.requires.2, c.requires.0.few))

pub overflow_add-base : goal.overflow_add-base
overflow_add-base c =
    record { fits = omega (arith, base_is (goal.at.overflow_add-base c).After-cell-base, counted_few c.args.tally.now c.requires.2, c.requires.0.few) }

pub returns : goal.returns
returns c =
    let a = c.args in
    counts a.tally.now (search rules) c.requires.1 a.trace.now a.records a.kept (base_is (goal.at.returns c).After-cell-base) c.follow.ensures c.put_cell.ensures
