-- A call that is done hands back 0, and a refused one a number that is not 0.
use Rattle.std.proofs.Common.{Option, Result, Ok, Err}
use Rattle.std.specs.Result.{is_ok}
use Rattle.basics.proofs.Prelude.{◌≡◌, refl, sym, ◌∙◌, true, false, ℕ, eqb, eqb-true, eqb-false}
use Rattle.calls.specs.Calls.{fault_number}
use Rattle.image.specs.faults.Found.{fault_view}
use Rattle.image.specs.declared.faults.Fault.{Fault, TheVariants.Copy, TheVariants.Count, TheVariants.Flag, TheVariants.Unused}
use Rattle.answer.specs.Given.{refusal_number, told_number}
use Rattle.answer.specs.declared.refusals.Refusal.{Refusal}
use Rattle.answer.specs.declared.refusals.Refusal.TheVariants.{Outside, NoWidth, NoInput, WrongLength, WrongContents, NoRoom, Body, TraceContents, BadRecord, Unaligned, Unfit, NothingLeft, WrongTally}

fault_not_0 : (f : Fault) → false ≡ eqb (fault_number (fault_view f)) 0
fault_not_0 Copy = refl
fault_not_0 Count = refl
fault_not_0 Flag = refl
fault_not_0 Unused = refl

not_0 : (r : Refusal) → false ≡ eqb (refusal_number r) 0
not_0 (Outside address) = refl
not_0 NoWidth = refl
not_0 NoInput = refl
not_0 WrongLength = refl
not_0 WrongContents = refl
not_0 NoRoom = refl
not_0 (Body b) = fault_not_0 b.rule
not_0 TraceContents = refl
not_0 (BadRecord k) = refl
not_0 Unaligned = refl
not_0 Unfit = refl
not_0 NothingLeft = refl
not_0 (WrongTally at) = refl

pub is_ok_done : (t : Result (Option ℕ) Refusal) → is_ok t ≡ eqb (told_number t) 0
is_ok_done (Ok v) = refl
is_ok_done (Err r) = not_0 r

pub done_0 : (t : Result (Option ℕ) Refusal) → is_ok t ≡ true → told_number t ≡ 0
done_0 t e = eqb-true (told_number t) 0 (sym (is_ok_done t) ∙ e)

pub refused_not_0 : (t : Result (Option ℕ) Refusal) → is_ok t ≡ false → told_number t ≡ 0 → ⊥
refused_not_0 t e = eqb-false (told_number t) 0 (sym (is_ok_done t) ∙ e)
