-- `write_mask`: its two stages, one after the other, are the rule's.
use Rattle.ledger.specs.watch.Kept.{lines_of}
use Rattle.ledger.proofs.watch.Moving.{mask_done}
use Rattle.ledger.proofs.watch.write_mask.Goals as goal

pub returns : goal.returns
returns c = let a = c.args in
    mask_done (lines_of a.w) a.high a.val _ _ c.replace_u32.ensures c.newly_unmasked.ensures c.newly_masked.ensures a.k c.enter-entered.ensures c.leave.ensures
