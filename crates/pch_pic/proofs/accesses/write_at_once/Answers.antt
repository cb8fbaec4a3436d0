-- `write_at_once`: a Dword inside the window is written at once, and one that is not goes the way of any other.
use Rattle.std.proofs.Common.{Some, Ok}
use Rattle.basics.proofs.Prelude.{refl, rules}
use Prim.Native.Nat.{zero-le}
use Rattle.device.specs.declared.map.Width.TheVariants.{Dword}
use Rattle.answer.proofs.fronts.Told.{told}
use Rattle.six_calls.proofs.accepted_access.{Aims.write_done, Reaching.dword_low}
use Rattle.calls.specs.Calls as asked
use Rattle.pch_pic.proofs.accesses.write_at_once.Goals as goal

pub returns : goal.returns
returns c = let a = c.args in
    told a.image.now a.answer.now c.requires.1 (Ok (Some c.write_dword-lost.result)) c.tell.ensures (asked.write a.base a.size a.address 4 a.value) zero-le
    (write_done c.requires.0 a.base a.size a.address 4 {k = Some Dword} refl {w = Dword} refl c.locate.ensures.0 c.in-Some.is a.value (search rules)
    (dword_low _ a.value c.half.ensures c.write_dword-lost.ensures.1))
