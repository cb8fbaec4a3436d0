-- `events_agree` is right since the test of a drain compares the two sums themselves.
use Rattle.basics.proofs.Prelude.{sym, ◌∙◌, eqb-true}
use Rattle.replay.proofs.records.events_agree.Goals as goal

pub returns-then-noted-ne6 : goal.returns-then-noted-ne6
returns-then-noted-ne6 c t k = absurd (c.if-noted-ne6.true k)

pub returns : goal.returns
returns c t k = let s = c in
    sym s.checksum.ensures ∙ eqb-true s.checksum.result c.number.result t ∙ c.number.ensures
