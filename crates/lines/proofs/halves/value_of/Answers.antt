-- `value_of`: by the register.
use Rattle.basics.proofs.Prelude.{refl}
use Rattle.rules.specs.Access.{value_of}
use Rattle.lines.proofs.halves.Halves.{isr_value}
use Rattle.lines.proofs.halves.value_of.Goals as goal

pub returns-in-Id : goal.returns-in-Id
unfolding value_of
returns-in-Id c = rw c.in-Id.is (λ d ns h. refl)

pub returns-in-Mask : goal.returns-in-Mask
unfolding value_of
returns-in-Mask c = rw c.in-Mask.is c.mask.ensures

pub returns-in-Clear : goal.returns-in-Clear
unfolding value_of
returns-in-Clear c = rw c.in-Clear.is (λ d ns h. refl)

pub returns-in-Irr : goal.returns-in-Irr
unfolding value_of
returns-in-Irr c = rw c.in-Irr.is c.irr.ensures

pub returns-in-Isr : goal.returns-in-Isr
unfolding value_of
returns-in-Isr c = rw c.in-Isr.is (isr_value c.args.image.now c.isr.ensures c.mask-in-Isr.ensures)

pub returns-in-Plain : goal.returns-in-Plain
unfolding value_of
returns-in-Plain c = rw c.in-Plain.is c.plain.ensures
