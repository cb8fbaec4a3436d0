-- `forbidden_in_vectors`: ISR and the Dword that stands there are the device's, so the four tests are the profile's.
use Rattle.pch_pic_hoist.proofs.judge.Judging.{four_judged}
use Rattle.pch_pic_hoist.proofs.judge.forbidden_in_vectors.Goals as goal

pub returns : goal.returns
returns c = let a = c.args in
    four_judged a.image.now a.offset a.value c.requires.1 c.requires.2 c.isr-isr.result c.read_dword-old.result c.half.result c.isr-isr.ensures c.read_dword-old.ensures c.half.ensures
    c.changes_served.ensures
