-- The premises of what is said of both parts of a write can be met (02, C-15), and neither part says 0: inputs 0 to 17 and 40 to 42 are in service, and a Qword that masks all inputs drops five events, two by its
-- low half and three by its high one.
use Rattle.basics.proofs.Prelude.{◌≡◌, refl, true, List, [], ◌∷◌, ◌++◌, ℕ, ◌-◌, ◌^◌, arith, lit<, lit≤, replicate}
use Rattle.rules.specs.{Ring.dropped, Access.dword, Device.Call, Device.write, History.raises}
use Rattle.images.specs.Form.{one}
use Rattle.calls.{specs.Calls.value_in, proofs.laws.Computing.computing}
use Rattle.histories.specs.exported.Exported.{Exported, left_by, is_done}
use Rattle.histories.proofs.exported.demands.BothParts.{BothParts, qword_says_both}
use Rattle.examples.proofs.ExportedMet.{image_of, left_bytes}
use Rattle.calls.specs.Calls as request

-- all unmasked, 18 inputs of the low half raised and three of the high one
abbrev served : List Call
served = write dword 0x020 0 ∷ write dword 0x024 0 ∷ (raises 0 18 ++ raises 40 3)

abbrev asks : List ℕ → (address width value : ℕ) → Exported
asks i address width v = record { given = i; asked = request.write 0 0x400 address width v; answer = replicate 16 0 }

abbrev whole : Exported
whole = asks (image_of one served) 0x020 8 (2 ^ 64 - 1)

abbrev low : Exported
low = asks (image_of one served) 0x020 4 (2 ^ 64 - 1)

abbrev high : Exported
high = asks (left_by low).image 0x024 4 (2 ^ 32 - 1)

is_done_lem : is_done whole ≡ true
unfolding computing
is_done_lem = refl

both_parts : BothParts whole low high
both_parts = qword_says_both 0 0x400 0x020 (2 ^ 64 - 1) (lit< tt) whole low high refl is_done_lem (left_bytes one served) refl refl (lit≤ tt) refl refl (lit≤ tt)

five_dropped : value_in (left_by whole).answer ≡ 5
unfolding computing dropped
five_dropped = refl

two_by_the_low : value_in (left_by low).answer ≡ 2
unfolding computing dropped
two_by_the_low = refl

three_by_the_high : value_in (left_by high).answer ≡ 3
three_by_the_high = omega (arith, both_parts.sum, five_dropped, two_by_the_low)
