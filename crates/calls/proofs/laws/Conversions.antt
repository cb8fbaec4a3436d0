-- How a conversion ends, by the test that decides it: one law for each way; and its outcome once it has ended.
use Rattle.basics.proofs.Prelude.{◌≡◌, refl, sym, ap, ◌∙◌, List, [], ◌∷◌, ℕ, ◌<◌, arith, length, replicate, le-leb, lt-leb, ◌≤◌}
use Rattle.rules.specs.Device.{none}
use Rattle.images.specs.{Form.Form, Form.Known, Form.unknown, Form.known, Form.form_of, Image.ImageTest, Image.image_test, Image.encode_as, Image.decode, Image.numbers_in}
use Rattle.calls.specs.Calls.{wrong_length, no_room, refusal_number, pass, refuse, on_pass, image_answer, image_number, image_value, answer_length, answered, leaves, Ending}
use Rattle.calls.specs.Convert.{length_test, converted, convert_ended, convert_ending, conversion}
use Rattle.images.specs.Image as image

-- 4 of the target comes before 5 of the image
target_first : converted (replicate 259 0) [] ≡ refuse wrong_length
unfolding converted image_test
target_first = refl

-- refused with 4, or with 5: the target stays, and the number alone is told
refused_stays :
    (conversion [] (9 ∷ []) (replicate 17 8) ≡ leaves 4 (9 ∷ []) (answered 4 none (replicate 17 8)) [])
    × (conversion (replicate 251 0) (replicate 259 9) (replicate 17 8) ≡ leaves 5 (replicate 259 9) (answered 5 none (replicate 17 8)) [])
unfolding conversion converted image_test
refused_stays = (refl, refl)

-- 7 leaves the answer area too
seven_silent : conversion [] (9 ∷ []) (replicate 15 8) ≡ leaves 7 (9 ∷ []) (replicate 15 8) []
unfolding conversion
seven_silent = refl

module _ (i t : List ℕ) where
  -- by what the three tests say
  by_tests : {k l : Known} {u : ImageTest} → form_of (length i) ≡ k → form_of (length t) ≡ l → image_test i ≡ u
      → converted i t ≡ on_pass (length_test k) (λ f. on_pass (length_test l) (λ g. on_pass (image_answer u (decode i)) (λ d. pass (encode_as g d (numbers_in i)))))
  unfolding converted
  by_tests a b c j = on_pass (length_test (a j)) (λ f. on_pass (length_test (b j)) (λ g. on_pass (image_answer (c j) (decode i)) (λ d. pass (encode_as g d (numbers_in i)))))

  -- 4, of the image and of the target
  pub no_image : form_of (length i) ≡ unknown → convert_ending i t ≡ convert_ended t (refuse wrong_length)
  no_image a = ap (convert_ended t) (by_tests a refl refl)

  module _ {f : Form} (a : form_of (length i) ≡ known f) where
    pub no_target : form_of (length t) ≡ unknown → convert_ending i t ≡ convert_ended t (refuse wrong_length)
    no_target b = ap (convert_ended t) (by_tests a b refl)

    module _ {g : Form} (b : form_of (length t) ≡ known g) where
      -- 5, 8 to 11
      pub not_accepted : (u : ImageTest) → image_test i ≡ u → (u ≡ image.accepted → ⊥) → convert_ending i t ≡ record { number = image_number u; value = image_value u; image = t; events = [] }
      not_accepted image.accepted c n = absurd (n refl)
      not_accepted image.wrong_length c n = ap (convert_ended t) (by_tests a b c)
      not_accepted image.wrong_contents c n = ap (convert_ended t) (by_tests a b c)
      not_accepted (image.broken k p) c n = ap (convert_ended t) (by_tests a b c)

      -- done
      pub is_converted : image_test i ≡ image.accepted → converted i t ≡ pass (encode_as g (decode i) (numbers_in i))
      is_converted c = by_tests a b c

      pub convert_done : image_test i ≡ image.accepted → {j : List ℕ} → j ≡ encode_as g (decode i) (numbers_in i) → record { number = 0; value = none; image = j; events = [] } ≡ convert_ending i t
      convert_done c e = ap (λ l. convert_ended t (pass l)) e ∙ sym (ap (convert_ended t) (is_converted c))

-- ---- 7, or how it ends

module _ (i t a : List ℕ) where
  pub conversion_short : length a < answer_length → conversion i t a ≡ leaves (refusal_number no_room) t a []
  unfolding conversion
  conversion_short h = rw (lt-leb answer_length (length a) h)

  pub conversion_room : answer_length ≤ length a → (x : Ending) → x ≡ convert_ending i t → {b : List ℕ} → b ≡ answered x.number x.value a
      → leaves x.number x.image b x.events ≡ conversion i t a
  unfolding conversion
  conversion_room roomy x e {b} f =
      (λ j. leaves x.number x.image (f j) x.events) ∙ (λ j. leaves (e j).number (e j).image (answered (e j).number (e j).value a) (e j).events)
      ∙ rw (le-leb answer_length (length a) (omega (arith, roomy)))
