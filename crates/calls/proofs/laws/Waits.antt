-- How the call that tells who waits ends, by the test that decides it: one law for each way; and its outcome once it has ended.
use Rattle.basics.proofs.Prelude.{◌≡◌, refl, sym, ap, ◌∙◌, List, [], ◌∷◌, ◌++◌, ℕ, ◌+◌, ◌^◌, ◌<◌, arith, length, replicate, le-leb, lt-leb, ◌≤◌}
use Rattle.rules.specs.Device.{some}
use Rattle.images.specs.Image.{ImageTest, image_test, decode}
use Rattle.calls.specs.Calls.{no_room, refusal_number, pass, on_pass, image_answer, image_number, image_value, answer_length, answered, leaves, Ending}
use Rattle.calls.specs.Waiting.{waiting_in, waiting_told, waiting_ended, waiting_ending, waiting}
use Rattle.calls.proofs.laws.Computing.{computing}
use Rattle.images.specs.Image as image

-- ---- closed numbers

-- 0 to 3 and 63 are latched, 1 is masked, 2 is in service
three_wait : waiting_in (record { mask = 2; irr = 2 ^ 63 + 15; isr = 4 }) ≡ 2 ^ 63 + 9
unfolding computing
three_wait = refl

-- of no image at all: room comes first, and one byte less than it wants leaves the area as it was
no_image : waiting [] (replicate 17 0xee) ≡ leaves 4 [] (4 ∷ replicate 15 0 ++ (0xee ∷ [])) []
unfolding computing waiting waiting_told
no_image = refl

no_room_lem : waiting [] (replicate 15 0xee) ≡ leaves 7 [] (replicate 15 0xee) []
unfolding computing waiting waiting_told
no_room_lem = refl

-- ---- by the image's test

module _ (i : List ℕ) where
  -- by what the image's test says
  by_test : {u : ImageTest} → image_test i ≡ u → waiting_told i ≡ on_pass (image_answer u (decode i)) (λ d. pass (waiting_in d.core.lines))
  unfolding waiting_told
  by_test e j = on_pass (image_answer (e j) (decode i)) (λ d. pass (waiting_in d.core.lines))

  -- 4, 5, 8 to 11
  pub untold : (u : ImageTest) → image_test i ≡ u → (u ≡ image.accepted → ⊥) → waiting_ending i ≡ record { number = image_number u; value = image_value u; image = i; events = [] }
  untold image.accepted e n = absurd (n refl)
  untold image.wrong_length e n = ap (waiting_ended i) (by_test e)
  untold image.wrong_contents e n = ap (waiting_ended i) (by_test e)
  untold (image.broken k p) e n = ap (waiting_ended i) (by_test e)

  -- done
  pub waiting_told_lem : image_test i ≡ image.accepted → {w : ℕ} → w ≡ waiting_in (decode i).core.lines → record { number = 0; value = some w; image = i; events = [] } ≡ waiting_ending i
  waiting_told_lem e f = ap (λ w. waiting_ended i (pass w)) f ∙ sym (ap (waiting_ended i) (by_test e))

-- ---- 7, or how it ends

module _ (i a : List ℕ) where
  pub waiting_short : length a < answer_length → waiting i a ≡ leaves (refusal_number no_room) i a []
  unfolding waiting
  waiting_short h = rw (lt-leb answer_length (length a) h)

  pub waiting_room : answer_length ≤ length a → (x : Ending) → x ≡ waiting_ending i → {b : List ℕ} → b ≡ answered x.number x.value a
      → leaves x.number x.image b x.events ≡ waiting i a
  unfolding waiting
  waiting_room roomy x e {b} f =
      (λ j. leaves x.number x.image (f j) x.events) ∙ (λ j. leaves (e j).number (e j).image (answered (e j).number (e j).value a) (e j).events)
      ∙ rw (le-leb answer_length (length a) (omega (arith, roomy)))
