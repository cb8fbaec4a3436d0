-- `read_at_once`: a Dword inside the window is read at once, and one that is not goes the way of any other.
use Rattle.std.proofs.Common.{Some, Ok}
use Rattle.basics.proofs.Prelude.{refl}
use Prim.Native.Nat.{zero-le}
use Rattle.rules.specs.Access.{read_at}
use Rattle.device.specs.declared.map.Width.TheVariants.{Dword}
use Rattle.answer.proofs.fronts.Told.{told}
use Rattle.six_calls.proofs.accepted_access.Aims.{read_done}
use Rattle.calls.specs.Calls as asked
use Rattle.pch_pic.proofs.accesses.read_at_once.Goals as goal

pub returns : goal.returns
unfolding read_at
returns c = let a = c.args in
    told a.image.now a.answer.now c.requires.1 (Ok (Some c.read_dword-read.result)) c.tell.ensures (asked.read a.base a.size a.address 4) zero-le
    (read_done c.requires.0 a.base a.size a.address 4 {k = Some Dword} refl {w = Dword} refl c.locate.ensures.0 c.in-Some.is c.read_dword-read.result c.read_dword-read.ensures)
