-- `fields`: two bytes fit 16 bits, and four 32.
use Rattle.basics.proofs.Prelude.{arith, part_below}
use Rattle.trace.proofs.record_bytes.fields.Goals as goal

pub overflow_cast-result : goal.overflow_cast-result
overflow_cast-result c = omega (arith, c.number.ensures, part_below c.args.shown.now 2 2 (λ i. omega (arith, c.type_inv.shown i)) (omega arith))

pub overflow_cast-result-2 : goal.overflow_cast-result-2
overflow_cast-result-2 c = omega (arith, c.number-2.ensures, part_below c.args.shown.now 4 4 (λ i. omega (arith, c.type_inv.shown i)) (omega arith))
