-- The image's test comes first: where it refuses, a call under the profile ends as the full device's; and how the end of start-up ends where it accepts.
use Rattle.std.proofs.Common.{Option, Result}
use Rattle.std.specs.Result.{IsErrAnd}
use Rattle.basics.proofs.Prelude.{◌≡◌, refl, sym, ◌∙◌, Bool, List, ℕ}
use Rattle.rules.specs.Device.{Call}
use Rattle.images.specs.{Form.Form, Image.image_test, Image.decode, Image.numbers_in}
use Rattle.calls.specs.Calls.{Tested, Request, calls, asked_by, buffer_of}
use Rattle.fields.{specs.inplace.Held.Reads, specs.inplace.Passed.Passed, proofs.inplace.Passing.here}
use Rattle.answer.specs.{Given.ends, Given.Refuses, declared.refusals.Refusal.Refusal}
use Rattle.answer.proofs.refusals.Ends.{by_exit}
use Rattle.hoists.{specs.HoistCalls.hoist_ending, specs.HoistCalls.cannot_end, specs.HoistCalls.end_told, specs.HoistCalls.end_ending, proofs.laws.Judged.ends_by_lem, proofs.laws.Judged.image_first}
use Rattle.images.specs.Image as image

module _ (i : List ℕ) (t : Result (Option ℕ) Refusal) {e : Refusal} (is : IsErrAnd t (λ y. y ≡ e)) (d : Refuses e i) (r : Bool) where
  pub by_image : (q : Request) {x : Tested Call} → asked_by q ≡ calls x → ends t i (buffer_of q) ≡ hoist_ending r q i
  by_image q {x} asks = by_exit q i asks t is d ∙ sym (ends_by_lem r q i (image_first r q i x asks (image_test i) refl d.not))

-- ---- the image is accepted

pub end_judged : {f : Form} {i : List ℕ} → Passed f i → (r : Bool) {b : Bool} → Reads i b (λ d. cannot_end r d) → {v : Bool} → b ≡ v → end_told image.accepted v i ≡ end_ending r i
end_judged {i = i} p r reads e = (λ s. end_told (sym p.good s) ((sym e ∙ reads (decode i) (numbers_in i) (here p)) s) i)
