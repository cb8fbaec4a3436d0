-- `write_half`: each register does what its acts do; those that are not heeded do nothing here.
use Rattle.basics.proofs.Prelude.{⊎_elim}
use Rattle.ledger.specs.watch.Kept.{lines_of}
use Rattle.passes.proofs.tallies.laws.{Quiet.follows_isr, Quiet.follows_store, Taking.follows_none}
use Rattle.ledger.proofs.watch_write.{Arms.follows_as, Arms.clear_half}
use Rattle.ledger.proofs.watch_write.write_half.Goals as goal

pub returns-in-Mask : goal.returns-in-Mask
returns-in-Mask c = let a = c.args in
    let l = lines_of a.w in
    follows_as a.k a.high a.val c.in-Mask.is c.write_mask.ensures

pub returns-in-Clear : goal.returns-in-Clear
returns-in-Clear c = let a = c.args in
    let l = lines_of a.w in
    follows_as a.k a.high a.val c.in-Clear.is (clear_half a.k a.high a.val c.in_half.ensures c.write_clear.ensures)

pub returns-in-Isr : goal.returns-in-Isr
returns-in-Isr c = let a = c.args in
    let l = lines_of a.w in
    follows_as a.k a.high a.val c.in-Isr.is (follows_isr l a.w.waiting a.sheet.now a.k a.high a.val c.replace_u32.ensures)

pub returns-in-Id : goal.returns-in-Id
returns-in-Id c =
    let a = c.args in
    let l = lines_of a.w in
    let none = follows_none l a.w.waiting a.sheet.now a.k in
    ⊎_elim (λ e. follows_as a.k a.high a.val e none) (⊎_elim (λ e. follows_as a.k a.high a.val e none) (λ e. follows_as a.k a.high a.val e.1 (follows_store l a.w.waiting a.sheet.now a.k _))) c.in-Id.is
