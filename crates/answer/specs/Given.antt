-- What a call tells, as the rules see it.
use Rattle.std.specs.Prelude.{◌≡◌, List, ℕ, ⊤, Option, Some, None, Result, Ok, Err}
use Rattle.rules.specs.Device as device
use Rattle.images.specs.Image.{accepted, image_test}
use Rattle.calls.specs.Calls.{Ending, fault_number, image_number, image_value}
use Rattle.image.specs.Shown.{form_view}
use Rattle.image.specs.faults.Found.{fault_view}
use Rattle.image.specs.declared.form.Form.{Form}
use Rattle.image.specs.declared.head.HeadFault.{HeadFault}
use Rattle.image.specs.declared.head.HeadFault.TheVariants as head
use Rattle.fields.specs.inplace.Passed.{Passed}
use Rattle.answer.specs.declared.refusals.Refusal.{Refusal}
use Rattle.answer.specs.declared.refusals.Refusal.TheVariants.{Outside, NoWidth, NoInput, WrongLength, WrongContents, NoRoom, Body, TraceContents, BadRecord, Unaligned, Unfit, NothingLeft, WrongTally}

abbrev pub value_view : Option ℕ → device.Value
value_view None = device.none
value_view (Some v) = device.some v

-- the number of a refusal (01 and 02, Numbers handed back), and the value that goes with it
abbrev pub refusal_number : Refusal → ℕ
refusal_number (Outside address) = 1
refusal_number NoWidth = 2
refusal_number NoInput = 3
refusal_number WrongLength = 4
refusal_number WrongContents = 5
refusal_number NoRoom = 7
refusal_number (Body b) = fault_number (fault_view b.rule)
refusal_number TraceContents = 12
refusal_number (BadRecord k) = 13
refusal_number Unaligned = 14
refusal_number Unfit = 15
refusal_number NothingLeft = 16
refusal_number (WrongTally at) = 17

abbrev pub refusal_value : Refusal → device.Value
refusal_value (Outside address) = device.some address
refusal_value NoWidth = device.none
refusal_value NoInput = device.none
refusal_value WrongLength = device.none
refusal_value WrongContents = device.none
refusal_value NoRoom = device.none
refusal_value (Body b) = device.some b.place
refusal_value TraceContents = device.none
refusal_value (BadRecord k) = device.some k
refusal_value Unaligned = device.none
refusal_value Unfit = device.none
refusal_value NothingLeft = device.none
refusal_value (WrongTally at) = device.some at

-- what a call tells: 0 and what it gives, or the refusal's number and value
abbrev pub told_number : Result (Option ℕ) Refusal → ℕ
told_number (Ok v) = 0
told_number (Err r) = refusal_number r

abbrev pub told_value : Result (Option ℕ) Refusal → device.Value
told_value (Ok v) = value_view v
told_value (Err r) = refusal_value r

-- an ending: what is told, the image, and the event buffer
abbrev pub ends : Result (Option ℕ) Refusal → List ℕ → List ℕ → Ending
ends t image events = record { number = told_number t; value = told_value t; image = image; events = events }

-- why the length or the contents are no image's
abbrev pub of_head : HeadFault → Refusal
of_head head.WrongLength = WrongLength
of_head head.WrongContents = WrongContents

-- an image is not accepted, and this is the refusal of what its test finds
pub record Refuses (r : Refusal) (i : List ℕ) : Type 0 where
  pub not : image_test i ≡ accepted → ⊥
  pub number : refusal_number r ≡ image_number (image_test i)
  pub value : refusal_value r ≡ image_value (image_test i)

-- an image is of this form and accepted, or is refused
abbrev pub Accepts : Result Form Refusal → List ℕ → Type 0
Accepts (Ok f) i = Passed (form_view f) i
Accepts (Err r) i = Refuses r i

-- the same of an image whose form is known
abbrev pub AcceptsBodies : Result ⊤ Refusal → Form → List ℕ → Type 0
AcceptsBodies (Ok u) f i = Passed (form_view f) i
AcceptsBodies (Err r) f i = Refuses r i
