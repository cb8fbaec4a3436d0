-- What follows for a call that keeps to its table of refusals, whichever call it is: the number handed back is that of a reason exactly where the reason is given, with its value; it is 0
-- exactly where none is; and refused, the call leaves every lent byte but the answer area's (00, demand 1).
use Rattle.basics.proofs.Prelude.{◌≡◌, refl, sym, ap, subst, ◌∙◌, cond, List, [], ◌∷◌, ℕ, arith, eqb, get_or, drop, eqb-true, eqb-false, test}
use Rattle.rules.specs.Device.{Value, amount}
use Rattle.images.specs.Image.{Fault, copy_differs, many_wait, bad_flag, unused_set}
use Rattle.calls.specs.Calls.{fault_number, refusal_number, refusal_value, image_number, image_value, answer_length, answered}
use Rattle.calls.specs.Untouched.{Left, left, IsDone, Untouched}
use Rattle.calls.specs.Reasons.{OfImage, bad_length, bad_head, bad_body, OfRequest, bad_input, bad_width, bad_address, bad_contents, bad_at, not_aligned, not_fit, Reason, short_room, of_image, of_request, of_trace, of_profile, none_left, of_tally, test_of, refusal_of, reason_number, reason_value, told_in, told_for, refused_for, Refuses, Exactly, ByNumber}

-- ---- a reason is known by its number and its value

-- the reason of a number, with a value where it has one
abbrev pub reason_of : (number value : ℕ) → Reason
reason_of n v =
    cond (eqb n 1) (of_request (bad_address v)) (cond (eqb n 2) (of_request bad_width) (cond (eqb n 3) (of_request bad_input)
    (cond (eqb n 4) (of_image bad_length) (cond (eqb n 5) (of_image bad_head)
    (cond (eqb n 8) (of_image (bad_body copy_differs v)) (cond (eqb n 9) (of_image (bad_body many_wait v)) (cond (eqb n 10) (of_image (bad_body bad_flag v)) (cond (eqb n 11) (of_image (bad_body unused_set v))
    (cond (eqb n 12) (of_trace bad_contents) (cond (eqb n 13) (of_trace (bad_at v)) (cond (eqb n 14) (of_profile not_aligned) (cond (eqb n 15) (of_profile not_fit)
    (cond (eqb n 16) none_left (cond (eqb n 17) (of_tally v) short_room))))))))))))))

pub known_by_number : (r : Reason) → reason_of (reason_number r) (amount (reason_value r)) ≡ r
known_by_number short_room = refl
known_by_number (of_image bad_length) = refl
known_by_number (of_image bad_head) = refl
known_by_number (of_image (bad_body copy_differs p)) = refl
known_by_number (of_image (bad_body many_wait p)) = refl
known_by_number (of_image (bad_body bad_flag p)) = refl
known_by_number (of_image (bad_body unused_set p)) = refl
known_by_number (of_request bad_input) = refl
known_by_number (of_request bad_width) = refl
known_by_number (of_request (bad_address x)) = refl
known_by_number (of_trace bad_contents) = refl
known_by_number (of_trace (bad_at k)) = refl
known_by_number (of_profile not_aligned) = refl
known_by_number (of_profile not_fit) = refl
known_by_number none_left = refl
known_by_number (of_tally p) = refl

-- none is done
pub never_zero : (r : Reason) → IsDone (reason_number r) → ⊥
never_zero short_room e = omega (arith, e)
never_zero (of_image bad_length) e = omega (arith, e)
never_zero (of_image bad_head) e = omega (arith, e)
never_zero (of_image (bad_body copy_differs p)) e = omega (arith, e)
never_zero (of_image (bad_body many_wait p)) e = omega (arith, e)
never_zero (of_image (bad_body bad_flag p)) e = omega (arith, e)
never_zero (of_image (bad_body unused_set p)) e = omega (arith, e)
never_zero (of_request bad_input) e = omega (arith, e)
never_zero (of_request bad_width) e = omega (arith, e)
never_zero (of_request (bad_address x)) e = omega (arith, e)
never_zero (of_trace bad_contents) e = omega (arith, e)
never_zero (of_trace (bad_at k)) e = omega (arith, e)
never_zero (of_profile not_aligned) e = omega (arith, e)
never_zero (of_profile not_fit) e = omega (arith, e)
never_zero none_left e = omega (arith, e)
never_zero (of_tally p) e = omega (arith, e)

-- 7 is for want of room alone
pub seven_is_room : (r : Reason) → reason_number r ≡ 7 → r ≡ short_room
seven_is_room r e = sym (known_by_number r) ∙ ap (λ n. reason_of n (amount (reason_value r))) e

-- ---- refused for a reason, a call leaves what it was lent

module _ (lent : List (List ℕ)) (a : List ℕ) where
  -- 7 leaves the answer area, whatever its value; and any number leaves it past its 16 bytes
  seven_untold : (v : Value) → told_in 7 v a ≡ a
  seven_untold v = refl

  past_told : (n : ℕ) (v : Value) → drop answer_length (told_in n v a) ≡ drop answer_length a
  unfolding answered
  past_told n v = test (eqb n 7) (λ t. rw t) (λ t. rw t)

  -- of an image and of a request the number is never 7
  pub image_told : (x : OfImage) → left (image_number (test_of x)) lent (answered (image_number (test_of x)) (image_value (test_of x)) a) ≡ refused_for (of_image x) lent a
  image_told bad_length = refl
  image_told bad_head = refl
  image_told (bad_body copy_differs p) = refl
  image_told (bad_body many_wait p) = refl
  image_told (bad_body bad_flag p) = refl
  image_told (bad_body unused_set p) = refl

  pub request_told : (w : OfRequest) → left (refusal_number (refusal_of w)) lent (answered (refusal_number (refusal_of w)) (refusal_value (refusal_of w)) a) ≡ refused_for (of_request w) lent a
  request_told bad_input = refl
  request_told bad_width = refl
  request_told (bad_address x) = refl

  pub refused_leaves : (r : Reason) {x : Left} → x ≡ refused_for r lent a → Untouched lent a x
  refused_leaves r e = record {
    kept = ap (λ (y : Left). y.lent) e;
    past = ap (λ (y : Left). drop answer_length y.answer) e ∙ past_told (reason_number r) (reason_value r);
    seven = λ z. ap (λ (y : Left). y.answer) e ∙ ap (λ n. told_in n (reason_value r) a) (sym (ap (λ (y : Left). y.number) e) ∙ z) ∙ seven_untold (reason_value r);
  }

-- the first of what was lent, which is the image where one is
pub first_kept : {i a : List ℕ} {bs : List (List ℕ)} {x : Left} → Untouched (i ∷ bs) a x → get_or x.lent 0 [] ≡ i
first_kept u = ap (λ (l : List (List ℕ)). get_or l 0 []) u.kept

-- ---- by the number

module _ (Given : Reason → Type 0) (lent : List (List ℕ)) (a : List ℕ) (x : Left) (keeps : Refuses Given lent a x) where
  -- Refused, every lent byte but the answer area's first 16 is as it was, and with 7 these too.
  pub refused_untouched : (IsDone x.number → ⊥) → Untouched lent a x
  refused_untouched n = let g = keeps.given n in refused_leaves lent a g.0 (keeps.refused g.0 g.1)

  -- A reason that is given is the one that is told: its number is handed back, and with its value it stands in the answer area.
  pub number_of : (r : Reason) → Given r → x.number ≡ reason_number r
  number_of r g = ap (λ (y : Left). y.number) (keeps.refused r g)

  pub answer_of : (r : Reason) → Given r → x.answer ≡ told_for r a
  answer_of r g = ap (λ (y : Left). y.answer) (keeps.refused r g)

  -- A number other than 0 is handed back only where a reason with that number is given.
  pub reason_of_lem : (n : ℕ) → x.number ≡ n → (n ≡ 0 → ⊥) → (v : ℕ) × Given (reason_of n v)
  reason_of_lem n e z =
      let g = keeps.given (λ d. z (sym e ∙ d)) in
      let same : reason_number g.0 ≡ n = sym (number_of g.0 g.1) ∙ e in
      (amount (reason_value g.0), subst Given (sym (known_by_number g.0) ∙ ap (λ m. reason_of m (amount (reason_value g.0))) same) g.1)

  -- So the number handed back is that of a reason exactly where the reason is given: of one without a value, and of one with whatever value.
  exactly_when : (r : Reason) → ((v : ℕ) → reason_of (reason_number r) v ≡ r) → Exactly (x.number ≡ reason_number r) (Given r)
  exactly_when r only = (λ e. let g = reason_of_lem (reason_number r) e (never_zero r) in subst Given (only g.0) g.1, number_of r)

  exactly_with : (f : ℕ → Reason) (n : ℕ) → (n ≡ 0 → ⊥) → ((v : ℕ) → reason_number (f v) ≡ n) → ((v : ℕ) → reason_of n v ≡ f v) → Exactly (x.number ≡ n) ((v : ℕ) × Given (f v))
  exactly_with f n z has only = (
    (λ e. let g = reason_of_lem n e z in (g.0, subst Given (only g.0) g.1)),
    (λ g. number_of (f g.0) g.1 ∙ has g.0),
  )

  -- Two reasons that are given have one number.
  pub one_reason : (r s : Reason) → Given r → Given s → reason_number r ≡ reason_number s
  one_reason r s g h = sym (number_of r g) ∙ number_of s h

  -- It is done exactly where no reason is given.
  done_exactly : Exactly (IsDone x.number) ((r : Reason) → Given r → ⊥)
  done_exactly = (
    (λ d r g. never_zero r (sym (number_of r g) ∙ d)),
    (λ none. test (eqb x.number 0) (λ t. eqb-true x.number 0 t) (λ t. absurd (let g = keeps.given (eqb-false x.number 0 t) in none g.0 g.1))),
  )

  body_exactly : (k : Fault) → Exactly (x.number ≡ fault_number k) ((p : ℕ) × Given (of_image (bad_body k p)))
  body_exactly copy_differs = exactly_with (λ p. of_image (bad_body copy_differs p)) 8 (λ z. omega (arith, z)) (λ v. refl) (λ v. refl)
  body_exactly many_wait = exactly_with (λ p. of_image (bad_body many_wait p)) 9 (λ z. omega (arith, z)) (λ v. refl) (λ v. refl)
  body_exactly bad_flag = exactly_with (λ p. of_image (bad_body bad_flag p)) 10 (λ z. omega (arith, z)) (λ v. refl) (λ v. refl)
  body_exactly unused_set = exactly_with (λ p. of_image (bad_body unused_set p)) 11 (λ z. omega (arith, z)) (λ v. refl) (λ v. refl)

  -- Of whichever call: each number is handed back exactly where its row is met.
  pub each_number : ByNumber Given x.number
  each_number = record {
    zero = done_exactly;
    one = exactly_with (λ y. of_request (bad_address y)) 1 (λ z. omega (arith, z)) (λ v. refl) (λ v. refl);
    two = exactly_when (of_request bad_width) (λ v. refl);
    three = exactly_when (of_request bad_input) (λ v. refl);
    four = exactly_when (of_image bad_length) (λ v. refl);
    five = exactly_when (of_image bad_head) (λ v. refl);
    seven = exactly_when short_room (λ v. refl);
    body = body_exactly;
    twelve = exactly_when (of_trace bad_contents) (λ v. refl);
    thirteen = exactly_with (λ k. of_trace (bad_at k)) 13 (λ z. omega (arith, z)) (λ v. refl) (λ v. refl);
    fourteen = exactly_when (of_profile not_aligned) (λ v. refl);
    fifteen = exactly_when (of_profile not_fit) (λ v. refl);
    sixteen = exactly_when none_left (λ v. refl);
    seventeen = exactly_with (λ p. of_tally p) 17 (λ z. omega (arith, z)) (λ v. refl) (λ v. refl);
  }
