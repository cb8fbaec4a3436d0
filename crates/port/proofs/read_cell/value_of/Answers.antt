-- `value_of`: ISR & !MASK is ISR without the masked inputs; at every other register the rule computes.
use Rattle.basics.proofs.Prelude.{rules, without_is}
use Rattle.rules.specs.Access.{value_of}
use Rattle.port.proofs.read_cell.value_of.Goals as goal

pub returns-in-Isr : goal.returns-in-Isr
unfolding value_of
returns-in-Isr c = simp c.in-Isr.is (without_is _ _ (search rules) (search rules))
