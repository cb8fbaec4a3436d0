-- The tables of refusals of the four calls of the hoist profile (02, C-22): '14 not an aligned Dword, 15 any other of these refused writes or a phase that cannot end, both after 2 and 1, 14 before 15.' Of each reason,
-- when it is given, with what comes before it shut out.
use Rattle.std.specs.Prelude.{true, List, [], ◌∷◌, ◌⊎◌, ◌≡◌, ℕ, ◌-◌, ◌%◌, ◌<◌, length}
use Rattle.images.specs.Image.{decode}
use Rattle.calls.specs.{Calls.Request, Calls.reset, Calls.read, Calls.write, Calls.outcome, Untouched.Left, Untouched.left, Calls.AnswerRoom, Untouched.IsDone}
use Rattle.calls.specs.Reasons.{not_aligned, not_fit, Reason, short_room, of_image, of_request, of_trace, of_profile, none_left, of_tally}
use Rattle.laws.specs.{Wrong.Found, Wrong.IsImage, Refusals.Given}
use Rattle.hoists.specs.{Profile.running, Profile.any_served, Profile.forbidden, HoistCalls.PhaseLeft, Profile.PhaseLent}

-- ---- a write and a read

-- a Dword at an offset that 4 divides
abbrev pub AlignedDword : (base address width : ℕ) → Type 0
AlignedDword base address width = (width ≡ 4) × ((address - base) % 4 ≡ 0)

module _ (base size address width : ℕ) where
  -- 7 where no phase is lent too; then as the full device; and where that would do it, 14 before 15
  module _ (v : ℕ) (i p a : List ℕ) where
    abbrev pub FullWrite : Request
    FullWrite = write base size address width v

    abbrev pub WriteGiven : Reason → Type 0
    WriteGiven short_room = (length a < 16) ⊎ (length p < 1)
    WriteGiven (of_image x) = PhaseLent p × Given FullWrite i a (of_image x)
    WriteGiven (of_request w) = PhaseLent p × Given FullWrite i a (of_request w)
    WriteGiven (of_trace t) = ⊥
    WriteGiven (of_profile not_aligned) = PhaseLent p × IsDone (outcome FullWrite i a).number × (AlignedDword base address width → ⊥)
    WriteGiven (of_profile not_fit) = PhaseLent p × IsDone (outcome FullWrite i a).number × AlignedDword base address width × (forbidden (running p) (decode i) (address - base) v ≡ true)
    WriteGiven none_left = ⊥
    WriteGiven (of_tally q) = ⊥

  -- of a read the same, with no phase and without 15
  module _ (i a : List ℕ) where
    abbrev pub FullRead : Request
    FullRead = read base size address width

    abbrev pub ReadGiven : Reason → Type 0
    ReadGiven short_room = length a < 16
    ReadGiven (of_image x) = Given FullRead i a (of_image x)
    ReadGiven (of_request w) = Given FullRead i a (of_request w)
    ReadGiven (of_trace t) = ⊥
    ReadGiven (of_profile not_aligned) = IsDone (outcome FullRead i a).number × (AlignedDword base address width → ⊥)
    ReadGiven (of_profile not_fit) = ⊥
    ReadGiven none_left = ⊥
    ReadGiven (of_tally q) = ⊥

-- ---- the two calls that store the phase

-- image and phase are lent
abbrev pub lent_with_phase : PhaseLeft → Left
lent_with_phase x = left x.number (x.image ∷ x.phase ∷ []) x.answer

-- a reset: 7 where no phase is lent too, and else as the full device's
abbrev pub ResetGiven : (image phase answer : List ℕ) → Reason → Type 0
ResetGiven i p a short_room = (length a < 16) ⊎ (length p < 1)
ResetGiven i p a (of_image x) = PhaseLent p × Given reset i a (of_image x)
ResetGiven i p a (of_request w) = ⊥
ResetGiven i p a (of_trace t) = ⊥
ResetGiven i p a (of_profile v) = ⊥
ResetGiven i p a none_left = ⊥
ResetGiven i p a (of_tally q) = ⊥

-- the end of start-up: 7, then 4, 5, 8 to 11, then 15 where it has ended already, or an input is in service
abbrev pub EndGiven : (image phase answer : List ℕ) → Reason → Type 0
EndGiven i p a short_room = (length a < 16) ⊎ (length p < 1)
EndGiven i p a (of_image x) = AnswerRoom a × PhaseLent p × Found i x
EndGiven i p a (of_request w) = ⊥
EndGiven i p a (of_trace t) = ⊥
EndGiven i p a (of_profile not_aligned) = ⊥
EndGiven i p a (of_profile not_fit) = AnswerRoom a × PhaseLent p × IsImage i × ((running p ≡ true) ⊎ (any_served (decode i) ≡ true))
EndGiven i p a none_left = ⊥
EndGiven i p a (of_tally q) = ⊥
