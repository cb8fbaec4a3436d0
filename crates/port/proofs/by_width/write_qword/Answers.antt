-- `write_qword` is right since the second Dword meets what the first left, and the drops of both add up.
use Rattle.basics.proofs.Prelude.{true, false, ◌+◌, arith, half}
use Rattle.rules.specs.Access.{dword_acts, write_acts}
use Rattle.device.specs.state.View.{view}
use Rattle.port.proofs.{write_cell.Acted.writes_then, write_cell.Acted.dword_few}
use Rattle.port.proofs.by_width.write_qword.Goals as goal

pub overflow_add-result : goal.overflow_add-result
unfolding write_acts
overflow_add-result c =
    let w = c in
    let f = w in
    omega (arith, dword_few _ _ _ f.write_dword-first.ensures, dword_few _ _ _ w.write_dword-second.ensures)

pub returns : goal.returns
unfolding write_acts
returns c =
    let w = c in
    let f = w in
    let a = f.args in
    writes_then (view a.state) (dword_acts a.offset (half false a.val)) (λ c. dword_acts (a.offset + 4) (half true a.val)) (rw f.half.ensures at f.write_dword-first.ensures)
    (rw w.half-2.ensures at w.write_dword-second.ensures)
