-- `poll`: no such input; done, only the lines moved, and the vector returned is told with its number.
use Rattle.basics.proofs.Prelude.{refl, rules}
use Rattle.six_calls.proofs.accepted_input.Lines.{no_input_lem, poll_done}
use Rattle.rules.specs.Device as device
use Rattle.calls.specs.Calls as asked
use Rattle.six_calls.proofs.accepted_input.poll.Goals as goal

pub returns-then-input-ge64 : goal.returns-then-input-ge64
returns-then-input-ge64 c = let a = c.args in no_input_lem c.requires a.input (asked.poll a.input) (device.poll a.input) refl c.if-input-ge64.true

pub returns : goal.returns
returns c = let a = c.args in poll_done c.requires a.input c.if-input-ge64.false (search rules) (search rules) c.numbered.ensures c.poll-returned.ensures
