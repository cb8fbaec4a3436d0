-- The numbers that a conversion and the call that tells who waits hand back, each exactly when (01, Numbers handed back; 02, C-17), by their tables in specs/Refusals.antt. And refused, they leave
-- every lent byte but the answer area's (00, demand 1).
use Rattle.basics.proofs.Prelude.{◌≡◌, refl, sym, ap, ◌∙◌, List, [], ◌∷◌, ◌⊎◌, inl, inr, ⊎_elim, ℕ, ◌<◌, arith, leb, length, le-leb, leb-true, leb-false, lt-leb, test}
use Rattle.images.specs.{Image.accepted, Image.image_test}
use Rattle.calls.specs.Calls.{image_number, image_value, answered, Ending, AnswerRoom}
use Rattle.calls.specs.Convert.{convert_ending, conversion}
use Rattle.calls.specs.Waiting.{waiting_told, waiting}
use Rattle.calls.specs.Untouched.{Left, left, left_of, Untouched, IsDone}
use Rattle.calls.specs.Reasons.{OfImage, bad_length, bad_head, bad_body, Reason, short_room, of_image, of_request, of_trace, of_profile, none_left, of_tally, test_of, refused_for, Refuses, ByNumber}
use Rattle.calls.proofs.laws.{Tables.image_told, Tables.refused_untouched, Tables.each_number, Conversions.no_image, Conversions.no_target, Conversions.not_accepted, Conversions.conversion_short, Conversions.conversion_room, Conversions.convert_done}
use Rattle.laws.specs.Wrong.{NoForm, Found}
use Rattle.laws.specs.Refusals.{WaitingGiven, Unmovable, ConvertGiven}
use Rattle.laws.proofs.demands.{Found.HasForm, Found.found_exactly, Found.no_form, Found.has_form, Found.by_image, Found.by_length, Found.a_form, Found.not_both, Found.not_accepted_by}
use Rattle.images.specs.Image as image

-- ---- who waits

module _ (i a : List ℕ) where
  -- by whether there is room, and by what is found of the image
  waits_short : length a < 16 → left_of (waiting i a) ≡ left 7 (i ∷ [] ∷ []) a
  unfolding waiting
  waits_short h = rw (lt-leb 16 (length a) h)

  waits_wrong : AnswerRoom a → (x : OfImage) → image_test i ≡ test_of x → left_of (waiting i a) ≡ left (image_number (test_of x)) (i ∷ [] ∷ []) (answered (image_number (test_of x)) (image_value (test_of x)) a)
  unfolding waiting waiting_told
  waits_wrong h bad_length e = rw (le-leb 16 (length a) h, e)
  waits_wrong h bad_head e = rw (le-leb 16 (length a) h, e)
  waits_wrong h (bad_body k p) e = rw (le-leb 16 (length a) h, e)

  waits_done : AnswerRoom a → image_test i ≡ accepted → IsDone (waiting i a).number
  unfolding waiting waiting_told
  waits_done h e = rw (le-leb 16 (length a) h, e)

  waiting_refuses : (r : Reason) → WaitingGiven i a r → left_of (waiting i a) ≡ refused_for r (i ∷ [] ∷ []) a
  waiting_refuses short_room g = waits_short g
  waiting_refuses (of_image x) g = waits_wrong g.0 x ((found_exactly i x).1 g.1) ∙ image_told (i ∷ [] ∷ []) a x
  waiting_refuses (of_request w) g = absurd g
  waiting_refuses (of_trace t) g = absurd g
  waiting_refuses (of_profile v) g = absurd g
  waiting_refuses none_left g = absurd g
  waiting_refuses (of_tally p) g = absurd g

  waiting_given : (IsDone (waiting i a).number → ⊥) → (r : Reason) × WaitingGiven i a r
  waiting_given n =
      test (leb 16 (length a))
      (λ t. let h = leb-true 16 (length a) t in by_image i (λ e. absurd (n (waits_done h e))) (λ x e. (of_image x, (h, (found_exactly i x).0 e))))
      (λ t. (short_room, leb-false 16 (length a) t))

  -- The call that tells who waits keeps to its table.
  pub refusals_of_waiting : Refuses (WaitingGiven i a) (i ∷ [] ∷ []) a (left_of (waiting i a))
  refusals_of_waiting = record { refused = waiting_refuses; given = waiting_given }

  pub waiting_by_number : ByNumber (WaitingGiven i a) (waiting i a).number
  waiting_by_number = each_number (WaitingGiven i a) (i ∷ [] ∷ []) a _ refusals_of_waiting

-- ---- a conversion

module _ (i t a : List ℕ) where
  ends : AnswerRoom a → (x : Ending) → convert_ending i t ≡ x → left_of (conversion i t a) ≡ left x.number (x.image ∷ x.events ∷ []) (answered x.number x.value a)
  ends h x e = ap left_of (sym (conversion_room i t a h x (sym e) refl))

  -- the contents and the bodies of an image are found of one that has a form
  found_has_form : (x : OfImage) → (x ≡ bad_length → ⊥) → Found i x → HasForm i
  found_has_form bad_length n g = absurd (n refl)
  found_has_form bad_head n g = (g.0, g.1)
  found_has_form (bad_body k p) n g = (g.form, g.sized)

  moved_wrong : AnswerRoom a → HasForm t → (x : OfImage) → (x ≡ bad_length → ⊥) → Found i x → left_of (conversion i t a) ≡ refused_for (of_image x) (t ∷ [] ∷ []) a
  moved_wrong h u x n g =
      let f = found_has_form x n g in
      ends h _ (not_accepted i t (has_form i f) (has_form t u) (test_of x) ((found_exactly i x).1 g) (not_accepted_by x)) ∙ image_told (t ∷ [] ∷ []) a x

  head_no_length : bad_head ≡ bad_length → ⊥
  head_no_length e = let z : ◌≡◌ {A = ℕ} 0 1 = cc in omega arith

  body_no_length : {k : image.Fault} {p : ℕ} → bad_body k p ≡ bad_length → ⊥
  body_no_length e = let z : ◌≡◌ {A = ℕ} 0 1 = cc in omega arith

  convert_refuses : (r : Reason) → ConvertGiven i t a r → left_of (conversion i t a) ≡ refused_for r (t ∷ [] ∷ []) a
  convert_refuses short_room g = ap left_of (conversion_short i t a g)
  convert_refuses (of_image bad_length) g =
      by_length i (λ n. ends g.0 _ (no_image i t (no_form i n)))
      (λ f. ⊎_elim (λ n. ends g.0 _ (no_image i t (no_form i n))) (λ n. ends g.0 _ (no_target i t (has_form i f) (no_form t n))) g.1)
  convert_refuses (of_image bad_head) g = moved_wrong g.0 (a_form t g.1.0) bad_head head_no_length g.1.1
  convert_refuses (of_image (bad_body k p)) g = moved_wrong g.0 (a_form t g.1.0) (bad_body k p) body_no_length g.1.1
  convert_refuses (of_request w) g = absurd g
  convert_refuses (of_trace y) g = absurd g
  convert_refuses (of_profile v) g = absurd g
  convert_refuses none_left g = absurd g
  convert_refuses (of_tally p) g = absurd g

  unmovable : HasForm i → HasForm t → (x : OfImage) → Found i x → Unmovable i t x
  unmovable f u bad_length n = inl n
  unmovable f u bad_head n = (λ z. not_both t z u.0 u.1, n)
  unmovable f u (bad_body k p) n = (λ z. not_both t z u.0 u.1, n)

  convert_given : (IsDone (conversion i t a).number → ⊥) → (r : Reason) × ConvertGiven i t a r
  convert_given n =
      test (leb 16 (length a))
      (λ s. let h = leb-true 16 (length a) s in
      by_length i (λ z. (of_image bad_length, (h, inl z))) (λ f.
      by_length t (λ z. (of_image bad_length, (h, inr z))) (λ u.
      by_image i (λ e. absurd (n (ap (λ (y : Left). y.number) (ends h _ (sym (convert_done i t (has_form i f) (has_form t u) e refl)))))) (λ x e. (of_image x, (h, unmovable f u x ((found_exactly i x).0 e)))))))
      (λ s. (short_room, leb-false 16 (length a) s))

  -- A conversion keeps to its table.
  pub refusals_of_conversion : Refuses (ConvertGiven i t a) (t ∷ [] ∷ []) a (left_of (conversion i t a))
  refusals_of_conversion = record { refused = convert_refuses; given = convert_given }

  pub conversion_by_number : ByNumber (ConvertGiven i t a) (conversion i t a).number
  conversion_by_number = each_number (ConvertGiven i t a) (t ∷ [] ∷ []) a _ refusals_of_conversion

  -- Refused, it leaves the target, and of the answer area the bytes past its 16; with 7 every byte.
  pub refused_moves_nothing : (IsDone (conversion i t a).number → ⊥) → Untouched (t ∷ [] ∷ []) a (left_of (conversion i t a))
  refused_moves_nothing = refused_untouched (ConvertGiven i t a) (t ∷ [] ∷ []) a _ refusals_of_conversion
