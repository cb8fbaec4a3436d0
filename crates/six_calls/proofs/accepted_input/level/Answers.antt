-- `level`: no such input; done, only the lines moved, and the vector returned is told with its number.
use Rattle.basics.proofs.Prelude.{refl, not, eqb, rules}
use Rattle.six_calls.proofs.accepted_input.Lines.{no_input_lem, level_done}
use Rattle.rules.specs.Device as device
use Rattle.calls.specs.Calls as asked
use Rattle.six_calls.proofs.accepted_input.level.Goals as goal

pub returns-then-input-ge64 : goal.returns-then-input-ge64
returns-then-input-ge64 c = let a = c.args in no_input_lem c.requires a.input (asked.level a.input a.level) (device.level a.input (not (eqb a.level 0))) refl c.if-input-ge64.true

pub returns : goal.returns
returns c = let a = c.args in level_done c.requires a.input c.if-input-ge64.false (search rules) (search rules) c.numbered.ensures a.level c.set_level-returned.ensures
