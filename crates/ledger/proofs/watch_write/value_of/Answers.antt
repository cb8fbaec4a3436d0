-- `value_of`: MASK, CLEAR and ISR as they read.
use Rattle.basics.proofs.Prelude.{refl, rules, ⊎_elim}
use Rattle.ledger.specs.watch.Kept.{lines_of}
use Rattle.ledger.proofs.watch_write.{Arms.unheeded, Arms.reads_mask, Arms.reads_clear, Arms.reads_isr}
use Rattle.ledger.proofs.watch_write.value_of.Goals as goal

pub returns-in-Id : goal.returns-in-Id
returns-in-Id c =
    let l = lines_of c.args.w in
    ⊎_elim (λ e. unheeded l 0 e refl) (⊎_elim (λ e. reads_clear l e) (⊎_elim (λ e. unheeded l 0 e refl) (λ e. unheeded l 0 e.1 refl))) c.in-Id.is

pub returns-in-Mask : goal.returns-in-Mask
returns-in-Mask c = reads_mask (lines_of c.args.w) c.in-Mask.is

pub returns-in-Isr : goal.returns-in-Isr
returns-in-Isr c = reads_isr (lines_of c.args.w) c.in-Isr.is (search rules) (search rules)
