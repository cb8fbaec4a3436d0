-- `sum`: of a whole tally, written.
use Rattle.basics.proofs.Prelude.{rules}
use Rattle.pch_pic_tally.proofs.summing.Sums.{is_summed}
use Rattle.pch_pic_tally.proofs.summing.sum.Goals as goal

pub returns : goal.returns
returns c =
    let a = c.args in
    is_summed a.tally.now a.sheet.now (search rules) c.requires.0 (search rules) c.requires.1 c.in_ok-test.ensures c.copy_rows.ensures c.zero_row.ensures c.join_all.ensures
