-- `write_on`: a Dword inside the window is written, and one that is not is told as such.
use Rattle.std.proofs.Common.{Some, Ok, Err}
use Rattle.basics.proofs.Prelude.{refl, rules}
use Prim.Native.Nat.{zero-le}
use Rattle.device.specs.declared.map.Width.TheVariants.{Dword}
use Rattle.answer.{specs.declared.refusals.Refusal.TheVariants.Outside, proofs.fronts.Told.told}
use Rattle.six_calls.proofs.accepted_access.{Aims.no_place, Aims.write_done, Reaching.dword_low}
use Rattle.rules.specs.Device as device
use Rattle.calls.specs.Calls as asked
use Rattle.pch_pic.proofs.accesses.write_on.Goals as goal

pub returns-in_default : goal.returns-in_default
returns-in_default c = let a = c.args in let q = asked.write a.base a.size a.address 4 a.value in
    told a.image.now a.answer.now c.requires.1 (Err (Outside a.address)) c.tell.ensures q zero-le
    (no_place c.requires.0 a.base a.size a.address 4 {k = Some Dword} refl q (λ x o. device.write x o a.value) refl {w = Dword} refl c.locate.ensures.0 c.in_default.is)

pub returns : goal.returns
returns c = let a = c.args in
    told a.image.now a.answer.now c.requires.1 (Ok (Some c.write_dword-dropped.result)) c.tell-2.ensures (asked.write a.base a.size a.address 4 a.value) zero-le
    (write_done c.requires.0 a.base a.size a.address 4 {k = Some Dword} refl {w = Dword} refl c.locate.ensures.0 c.in-Some.is a.value (search rules)
    (dword_low _ a.value c.half.ensures c.write_dword-dropped.ensures.1))
