-- The image's test, as a call leaves by it.
use Rattle.std.proofs.Common.{Option, Some, None, Result, Ok, Err, ok_or, is_ok}
use Rattle.std.specs.Result.{IsErrAnd}
use Rattle.basics.proofs.Prelude.{◌≡◌, refl, sym, ap, subst, ◌∙◌, false≢true, List, ℕ}
use Rattle.rules.specs.Device.{Call}
use Rattle.images.specs.Image.{image_test}
use Rattle.calls.{specs.Calls.Tested, specs.Calls.Request, specs.Calls.calls, specs.Calls.asked_by, specs.Calls.buffer_of, specs.Calls.ending, proofs.laws.Outcomes.image_refused}
use Rattle.answer.specs.{Given.Refuses, Given.ends, declared.refusals.Refusal.Refusal}

-- an image that is not accepted: what is told of it is what its test finds, and the call leaves all as it was
pub by_refusal : (q : Request) (i : List ℕ) {x : Tested Call} → asked_by q ≡ calls x → (r : Refusal) → Refuses r i → ends (Err r) i (buffer_of q) ≡ ending q i
by_refusal q i {x} asks r d =
    (λ s. record { number = d.number s; value = d.value s; image = i; events = buffer_of q }) ∙ sym (image_refused q i x asks (image_test i) refl d.not)

-- what the exit of a `?` hands back is that refusal
pub by_exit : (q : Request) (i : List ℕ) {x : Tested Call} → asked_by q ≡ calls x → (t : Result (Option ℕ) Refusal) {r : Refusal} → IsErrAnd t (λ y. y ≡ r) → Refuses r i → ends t i (buffer_of q) ≡ ending q i
by_exit q i asks (Ok v) e d = absurd e
by_exit q i asks (Err y) {r} e d = by_refusal q i asks y (subst (λ z. Refuses z i) (sym e) d)

abbrev fault : {T : Type 0} → Refusal → Result T Refusal → Refusal
fault r (Ok v) = r
fault r (Err e) = e

-- of what is missing `ok_or` and a `?` hand back its refusal
pub missing : {T : Type 0} (o : Option T) (r : Refusal) (t : Result (Option ℕ) Refusal) {e : Refusal} → IsErrAnd t (λ y. y ≡ e) → Err e ≡ ok_or o r → (o ≡ None) × (t ≡ Err r)
missing o r (Ok v) d p = absurd d
missing None r (Err y) d p = (refl, ap Err (d ∙ ap (fault r) p))
missing (Some x) r (Err y) d p = absurd (false≢true (ap is_ok p))
