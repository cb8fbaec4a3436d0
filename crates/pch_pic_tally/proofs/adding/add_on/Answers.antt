-- `add_on`: of a good trace and a whole tally, the records are counted.
use Rattle.basics.proofs.Prelude.{sym}
use Rattle.ledger.proofs.follow.Reaching.{reaches}
use Rattle.pch_pic_tally.proofs.adding.Ends.{counted}
use Rattle.pch_pic_tally.proofs.adding.add_on.Goals as goal

pub count-requires : goal.count-requires
count-requires c = (reaches c.args.trace.now (sym c.in_ok-records.ensures), c.requires.1, sym c.in_ok-test.ensures)

pub returns : goal.returns
returns c =
    let a = c.args in
    counted a.trace.now a.image.now a.tally.now (sym c.in_ok-records.ensures) c.requires.0 c.in_ok-test.ensures c.kept_of-kept.result c.kept_of-kept.ensures c.count.ensures
