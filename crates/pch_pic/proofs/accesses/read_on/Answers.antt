-- `read_on`: a Dword inside the window is read, and one that is not is told as such.
use Rattle.std.proofs.Common.{Some, Ok, Err}
use Rattle.basics.proofs.Prelude.{refl}
use Prim.Native.Nat.{zero-le}
use Rattle.rules.specs.Access.{read_at}
use Rattle.device.specs.declared.map.Width.TheVariants.{Dword}
use Rattle.answer.{specs.declared.refusals.Refusal.TheVariants.Outside, proofs.fronts.Told.told}
use Rattle.six_calls.proofs.accepted_access.Aims.{no_place, read_done}
use Rattle.rules.specs.Device as device
use Rattle.calls.specs.Calls as asked
use Rattle.pch_pic.proofs.accesses.read_on.Goals as goal

pub returns-in_default : goal.returns-in_default
unfolding read_at
returns-in_default c = let a = c.args in let q = asked.read a.base a.size a.address 4 in
    told a.image.now a.answer.now c.requires.1 (Err (Outside a.address)) c.tell.ensures q zero-le
    (no_place c.requires.0 a.base a.size a.address 4 {k = Some Dword} refl q device.read refl {w = Dword} refl c.locate.ensures.0 c.in_default.is)

pub returns : goal.returns
unfolding read_at
returns c = let a = c.args in
    told a.image.now a.answer.now c.requires.1 (Ok (Some c.read_dword-value.result)) c.tell-2.ensures (asked.read a.base a.size a.address 4) zero-le
    (read_done c.requires.0 a.base a.size a.address 4 {k = Some Dword} refl {w = Dword} refl c.locate.ensures.0 c.in-Some.is c.read_dword-value.result c.read_dword-value.ensures)
