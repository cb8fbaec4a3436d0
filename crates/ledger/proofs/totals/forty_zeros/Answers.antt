-- `forty_zeros`: five words, each found to be 0.
use Rattle.ledger.proofs.totals.Skipping.{five_zeros}
use Rattle.ledger.proofs.totals.forty_zeros.Goals as goal

pub returns : goal.returns
returns c =
    let a = c.args in
    five_zeros a.sheet.now a.at c.word_at.ensures c.word_at-2.ensures c.word_at-3.ensures c.word_at-4.ensures c.word_at-5.ensures
