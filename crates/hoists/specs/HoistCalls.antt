-- The four exported calls of the hoist profile (02, C-22), on any bytes: the number handed back, and every byte of image, phase and answer area afterwards.
use Rattle.std.specs.Prelude.{Bool, false, cond, ◌&&◌, ◌||◌, List, [], ℕ, eqb, leb, length}
use Rattle.rules.specs.Device.{Device, none}
use Rattle.images.specs.Image.{ImageTest, image_test, decode}
use Rattle.images.specs.Image as image
use Rattle.calls.specs.Calls.{refusal_number, no_room, Tested, pass, refuse, on_pass, image_answer, image_number, image_value, Request, read, write, Asked, afresh, calls, asked_by}
use Rattle.calls.specs.Calls.{answer_length, answered, buffer_of, Outcome, leaves, Ending, ending, settled}
use Rattle.calls.specs.Calls as request
use Rattle.hoists.specs.Profile.{running, in_start_up, after_start_up, any_served, Verdict, passes, unaligned, unfit, verdict}

-- ---- a read and a write

-- the numbers of its refusals (02, C-22)
abbrev pub unaligned_number : ℕ
unaligned_number = 14

abbrev pub unfit_number : ℕ
unfit_number = 15

-- the profile is asked where the full device would do the call, and has nothing to say where that refuses it: 14 and 15 come after all else (02, C-22)
abbrev pub said_of : Tested Verdict → Verdict
said_of (pass v) = v
said_of (refuse r) = passes

unfoldable pub judged : (running : Bool) → Asked → List ℕ → Verdict
judged r afresh i = passes
judged r (calls t) i = said_of (on_pass (image_answer (image_test i) (decode i)) (λ d. on_pass t (λ c. pass (verdict r d c))))

-- let through, it ends as the full device's call does; refused, no byte changes and there is no value (02, C-22)
abbrev pub ends_by : Verdict → Request → List ℕ → Ending
ends_by passes q i = ending q i
ends_by unaligned q i = record { number = unaligned_number; value = none; image = i; events = buffer_of q }
ends_by unfit q i = record { number = unfit_number; value = none; image = i; events = buffer_of q }

abbrev pub hoist_ending : (running : Bool) → Request → List ℕ → Ending
hoist_ending r q i = ends_by (judged r (asked_by q) i) q i

-- 7: the answer area has its 16 bytes, and a phase is lent where the call takes one
abbrev pub hoist_room : (phase answer : List ℕ) → Bool
hoist_room p a = leb answer_length (length a) && leb 1 (length p)

-- what a read leaves: it asks for no phase, since the profile says the same of it in both
unfoldable pub hoist_read : (base size address width : ℕ) (image answer : List ℕ) → Outcome
hoist_read base size address width i a =
    cond (leb answer_length (length a)) (settled a (hoist_ending false (read base size address width) i)) (leaves (refusal_number no_room) i a [])

-- what a write leaves; the phase is lent to be read
unfoldable pub hoist_write : (base size address width value : ℕ) (image phase answer : List ℕ) → Outcome
hoist_write base size address width v i p a =
    cond (hoist_room p a) (settled a (hoist_ending (running p) (write base size address width v) i)) (leaves (refusal_number no_room) i a [])

-- ---- the two calls that store the phase

-- what they leave: the number handed back, and every byte lent
pub record PhaseLeft : Type 0 where
  pub number : ℕ
  pub image : List ℕ
  pub phase : List ℕ
  pub answer : List ℕ

abbrev pub phase_leaves : ℕ → (image phase answer : List ℕ) → PhaseLeft
phase_leaves n i p a = record { number = n; image = i; phase = p; answer = a }

-- how they end: done, the phase becomes q; refused, it stays
abbrev pub phase_settled : (phase : List ℕ) → (answer : List ℕ) → List ℕ → Ending → PhaseLeft
phase_settled p a q e = phase_leaves e.number e.image (cond (eqb e.number 0) q p) (answered e.number e.value a)

-- a reset is the full device's, and starts the first phase (02, C-22)
unfoldable pub hoist_reset : (image phase answer : List ℕ) → PhaseLeft
hoist_reset i p a = cond (hoist_room p a) (phase_settled p a (in_start_up p) (ending request.reset i)) (phase_leaves (refusal_number no_room) i p a)

-- start-up cannot end while an input is in service, nor twice (02, C-22)
abbrev pub cannot_end : (running : Bool) → Device → Bool
cannot_end r d = r || any_served d

-- 4, 5, 8 to 11, then 15; there is no value, and the image stays
abbrev pub end_told : ImageTest → (refused : Bool) → List ℕ → Ending
end_told image.accepted r i = record { number = cond r unfit_number 0; value = none; image = i; events = [] }
end_told image.wrong_length r i = record { number = image_number image.wrong_length; value = image_value image.wrong_length; image = i; events = [] }
end_told image.wrong_contents r i = record { number = image_number image.wrong_contents; value = image_value image.wrong_contents; image = i; events = [] }
end_told (image.broken k a) r i = record { number = image_number (image.broken k a); value = image_value (image.broken k a); image = i; events = [] }

abbrev pub end_ending : (running : Bool) → List ℕ → Ending
end_ending r i = end_told (image_test i) (cannot_end r (decode i)) i

-- the end of start-up (02, C-22)
unfoldable pub end_startup : (image phase answer : List ℕ) → PhaseLeft
end_startup i p a = cond (hoist_room p a) (phase_settled p a (after_start_up p) (end_ending (running p) i)) (phase_leaves (refusal_number no_room) i p a)
