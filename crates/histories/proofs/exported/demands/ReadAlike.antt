-- Request C-17, of what a host reads: one history, two forms. Where exported calls on two images are alike (Convert), the done ones are the same calls of the
-- device, and a host reads the same events in answer areas and event buffers, and the same sum of what writes say that they dropped. It reads events without their
-- numbers (02, C-19), so that this is so of any forms.
use Rattle.basics.proofs.Prelude.{◌≡◌, refl, sym, ap₂, ◌∙◌, cond, List, [], ◌∷◌, ◌++◌, ℕ, ◌+◌, eqb, Bytes, test}
use Rattle.images.specs.Image.{image_test, accepted, decode}
use Rattle.calls.specs.{Calls.pass, Calls.asked_by, Convert.converted}
use Rattle.histories.specs.exported.Exported.{Exported, left_by, is_done, answer_without, events_without, call_of, done_calls, returned_to, drained_to, lost_to, returned_by, drained_by, losses_read}
use Rattle.histories.specs.exported.Alike.{Asking, asked_of, made_on, AllAlikeBut, ReadAlike}
use Rattle.histories.proofs.exported.laws.Without.{returned_without, drained_without, lost_without}
use Rattle.histories.proofs.exported.demands.Convert.{same_device_answers_alike_but_for_numbers, converted_answers_alike_but_for_numbers}

-- what a host reads of one call, it reads without the numbers
module _ (x : Exported) where
  one_returned : cond (is_done x) (returned_to x.asked (left_by x).answer) [] ≡ cond (is_done x) (returned_to x.asked (answer_without x)) []
  one_returned = test (is_done x) (λ t. rw t (returned_without x.asked (left_by x).answer)) (λ t. rw t)

  one_drained : cond (is_done x) (drained_to x.asked (left_by x).answer (left_by x).events) [] ≡ cond (is_done x) (drained_to x.asked (answer_without x) (events_without x)) []
  one_drained = test (is_done x) (λ t. rw t (drained_without x.asked (left_by x).answer (left_by x).events)) (λ t. rw t)

  one_lost : cond (is_done x) (lost_to x.asked (left_by x).answer) 0 ≡ cond (is_done x) (lost_to x.asked (answer_without x)) 0
  one_lost = test (is_done x) (λ t. rw t (lost_without x.asked (left_by x).answer)) (λ t. rw t)

read_alike : (qs : List Asking) (i j : List ℕ) → AllAlikeBut (made_on i qs) (made_on j qs) → ReadAlike (made_on i qs) (made_on j qs)
unfolding made_on AllAlikeBut done_calls returned_by drained_by losses_read
read_alike [] i j a = record { calls = refl; returned = refl; drained = refl; lost = refl }
read_alike (q ∷ qs) i j a =
    let x = a.0 in
    let rest = read_alike qs (left_by (asked_of i q)).image (left_by (asked_of j q)).image a.1 in
    record {
      calls = (λ k. cond (eqb (x.number k) 0) (call_of (asked_by q.asked)) [] ++ rest.calls k);
      returned =
          ap₂ ◌++◌ (
          one_returned (asked_of i q) ∙ (λ k. cond (eqb (x.number k) 0) (returned_to q.asked (x.answer k)) []) ∙ sym (one_returned (asked_of j q))
          ) rest.returned;
      drained =
          ap₂ ◌++◌ (
          one_drained (asked_of i q) ∙ (λ k. cond (eqb (x.number k) 0) (drained_to q.asked (x.answer k) (x.events k)) []) ∙ sym (one_drained (asked_of j q))
          ) rest.drained;
      lost =
          ap₂ ◌+◌ (one_lost (asked_of i q) ∙ (λ k. cond (eqb (x.number k) 0) (lost_to q.asked (x.answer k)) 0) ∙ sym (one_lost (asked_of j q))) rest.lost;
    }

-- Two accepted images that hold the same device, in whatever forms.
pub same_device_read_alike : (i j : List ℕ) → Bytes i → Bytes j → image_test i ≡ accepted → image_test j ≡ accepted → decode i ≡ decode j
    → (qs : List Asking) → ReadAlike (made_on i qs) (made_on j qs)
same_device_read_alike i j b c e f s qs = read_alike qs i j (same_device_answers_alike_but_for_numbers i j b c e f s qs)

-- An image and what it is moved to.
pub converted_read_alike : (i t j : List ℕ) → Bytes i → converted i t ≡ pass j → (qs : List Asking) → ReadAlike (made_on i qs) (made_on j qs)
converted_read_alike i t j b e qs = read_alike qs i j (converted_answers_alike_but_for_numbers i t j b e qs)
