-- `kept_of`: each number is what the image's device has.
use Rattle.basics.proofs.Prelude.{sym}
use Rattle.pch_pic_tally.proofs.adding.kept_of.Goals as goal

pub returns : goal.returns
returns c d n h =
    record {
      lines = λ i. record { mask = sym (c.mask.ensures d n h) i; irr = sym (c.irr.ensures d n h) i; isr = sym (c.isr.ensures d n h) i };
      waiting = sym (c.waiting.ensures d n h);
    }
