-- `withdraw`: a wait that is over stays so; one that is not is counted and is over.
use Rattle.passes.{specs.tallies.Marks.taken_back, specs.tallies.Marks.bumped, proofs.tallies.laws.Taking.takes_one}
use Rattle.ledger.proofs.cells.{Held.over_withdraws, Held.withdraws}
use Rattle.ledger.proofs.cells.withdraw.Goals as goal

pub returns-then-since-eq0 : goal.returns-then-since-eq0
returns-then-since-eq0 c = unfold bumped in takes_one (taken_back c.args.n) (over_withdraws c.args.n c.requires.1 c.cell-since.ensures c.if-since-eq0.true)

pub returns : goal.returns
returns c = unfold bumped in let n = c.args.n in
    takes_one (taken_back n) (withdraws n c.requires.1 c.cell-since.ensures c.if-since-eq0.false c.count.ensures c.put_cell.ensures)
