-- `newly_unmasked` is right since a half compared bit by bit and put in its place compares the registers: the other half stays.
use Rattle.laws.proofs.laws.Halves.{newly_unmasked_is}
use Rattle.device.proofs.decide.newly_unmasked.Goals as goal

pub returns : goal.returns
returns c = let a = c.args in
    rw (c.in_half.ensures, c.half-old_part.ensures) (newly_unmasked_is a.high a.old a.val c.ranges.val.fits)
