-- The numbers that the four calls of the hoist profile hand back, each exactly when (02, C-22), by their tables in specs/Refusals.antt; and what a refused call leaves (00, demand 1).
use Rattle.basics.proofs.Prelude.{◌≡◌, refl, sym, ap, subst, ◌∙◌, true, false, or-true, and-false, List, [], ◌∷◌, ◌⊎◌, inl, inr, ℕ, ◌-◌, ◌%◌, ◌<◌, ◌≤◌, arith, eqb, leb, length, eq-eqb, ne_eqb, eqb-true, eqb-false, le-leb, leb-true, leb-false, lt-leb, test}
use Rattle.rules.specs.Access.{byte, word, dword, qword}
use Rattle.images.specs.Image.{copy_differs, many_wait, bad_flag, unused_set, image_test, accepted, decode}
use Rattle.calls.specs.{Window.inside, Window.offset, Calls.Request, Calls.read, Calls.write, Calls.answered, Calls.Outcome, Calls.Ending, Calls.ending, Calls.outcome, Untouched.Left, Untouched.left, Untouched.left_of, Untouched.Untouched, Calls.AnswerRoom, Untouched.IsDone}
use Rattle.calls.specs.Reasons.{OfImage, bad_length, bad_head, bad_body, OfRequest, bad_width, bad_address, not_aligned, not_fit, Reason, short_room, of_image, of_request, of_trace, of_profile, none_left, of_tally, test_of, refused_for, Refuses, ByNumber}
use Rattle.calls.proofs.laws.{Tables.never_zero, Tables.refused_untouched, Tables.each_number, Outcomes.reset_refused, Outcomes.reset_done}
use Rattle.laws.specs.{Wrong.Found, Wrong.IsImage, Refusals.NoWidth, Refusals.OfAccess, Refusals.Given}
use Rattle.laws.proofs.demands.{Found.found_exactly, Found.accepted_exactly, Found.no_form, Found.has_form, Found.by_length, Found.by_image, ByNumber.outside_is, ByNumber.refusals_of_calls, ByNumber.zero_exactly}
use Rattle.hoists.specs.Profile.{running, in_start_up, any_served, forbidden, verdict, PhaseLent}
use Rattle.hoists.specs.HoistCalls.{hoist_read, hoist_write, PhaseLeft, phase_settled, hoist_reset, cannot_end, end_startup}
use Rattle.hoists.specs.Refusals.{AlignedDword, WriteGiven, ReadGiven, lent_with_phase, ResetGiven, EndGiven}
use Rattle.hoists.proofs.under_profile.demands.Answers.{write_judged, write_answers_alike, forbidden_write_was_done, allowed_is_full, read_judged, read_answers_alike, refused_read_was_done, aligned_read_is_full}
use Rattle.rules.specs.Device as device
use Rattle.calls.specs.Calls as request

-- ---- what holds where the full device would do an access

by_width : (P : ℕ → Type 0) → P 1 → P 2 → P 4 → P 8 → (w : ℕ) → (NoWidth w → ⊥) → P w
by_width P one two four eight w known =
    test (eqb w 1) (λ e. subst P (sym (eqb-true w 1 e)) one) (λ e.
    test (eqb w 2) (λ f. subst P (sym (eqb-true w 2 f)) two) (λ f.
    test (eqb w 4) (λ g. subst P (sym (eqb-true w 4 g)) four) (λ g.
    test (eqb w 8) (λ h. subst P (sym (eqb-true w 8 h)) eight) (λ h. absurd (known (eqb-false w 1 e, eqb-false w 2 f, eqb-false w 4 g, eqb-false w 8 h))))))

-- image, width and window were right
pub record WouldDo (base size address width : ℕ) (i a : List ℕ) : Type 0 where
  pub room : AnswerRoom a
  pub good : image_test i ≡ accepted
  pub known : NoWidth width → ⊥
  pub inside : inside base size address width ≡ true

would_do : (base size address width : ℕ) (i a : List ℕ) → (length a < 16 → ⊥) → ((x : OfImage) → AnswerRoom a → Found i x → ⊥)
    → ((w : OfRequest) → AnswerRoom a → IsImage i → OfAccess base size address width w → ⊥) → WouldDo base size address width i a
would_do base size address width i a r x w =
    let room : AnswerRoom a = test (leb 16 (length a)) (λ t. leb-true 16 (length a) t) (λ t. absurd (r (leb-false 16 (length a) t))) in
    let good : image_test i ≡ accepted = by_image i (λ e. e) (λ y e. absurd (x y room ((found_exactly i y).0 e))) in
    let known : NoWidth width → ⊥ = λ n. w bad_width room ((accepted_exactly i).0 good) n in
    record {
      room = room;
      good = good;
      known = known;
      inside = test (inside base size address width) (λ t. t) (λ t. absurd (w (bad_address address) room ((accepted_exactly i).0 good) (known, outside_is base size address width t, refl)));
    }

none : {n : ℕ} → 0 ≤ n
none = omega arith

-- it is an aligned Dword, or not
aligned_or : (base address width : ℕ) {A : Type 0} → ((AlignedDword base address width → ⊥) → A) → (AlignedDword base address width → A) → A
aligned_or base address width other is =
    test (eqb width 4)
    (λ t. test (eqb ((address - base) % 4) 0) (λ u. is (eqb-true width 4 t, eqb-true ((address - base) % 4) 0 u)) (λ u. other (λ m. eqb-false ((address - base) % 4) 0 u m.1)))
    (λ t. other (λ m. eqb-false width 4 t m.0))

-- ---- a write

module _ (base size address width v : ℕ) (i p a : List ℕ) where
  abbrev full : Request
  full = write base size address width v

  abbrev wrote : Outcome
  wrote = hoist_write base size address width v i p a

  abbrev lent : List (List ℕ)
  lent = i ∷ [] ∷ []

  write_would : IsDone (outcome full i a).number → WouldDo base size address width i a
  write_would d =
      let no = (zero_exactly full i a).0 d in
      would_do base size address width i a (λ h. no short_room (inl h)) (λ x r f. no (of_image x) ((r, none), f)) (λ w r g u. no (of_request w) ((r, none), g, u))

  -- by the full device's write, where that would be done: what the profile says
  module _ (l : PhaseLent p) (d : IsDone (outcome full i a).number) where
    unaligned_write : (AlignedDword base address width → ⊥) → left_of wrote ≡ left 14 lent (answered 14 device.none a)
    unfolding verdict
    unaligned_write n = let w = write_would d in by_width P (λ g b r m. ap left_of (write_judged base size address 1 v i p a byte (offset base address) g (rw b) r l))
        (λ g b r m. ap left_of (write_judged base size address 2 v i p a word (offset base address) g (rw b) r l))
        (λ g b r m. ap left_of (write_judged base size address 4 v i p a dword (offset base address) g (rw b) r l) ∙ rw (ne_eqb ((address - base) % 4) 0 (λ z. m (refl, z))))
        (λ g b r m. ap left_of (write_judged base size address 8 v i p a qword (offset base address) g (rw b) r l)) width w.known w.good w.inside w.room n
      where
        P : ℕ → Type 0
        P w = image_test i ≡ accepted → inside base size address w ≡ true → AnswerRoom a → (AlignedDword base address w → ⊥) → left_of (hoist_write base size address w v i p a) ≡ left 14 lent (answered 14 device.none a)

    -- an aligned Dword is judged by what the profile forbids
    forbidden_write : AlignedDword base address width → forbidden (running p) (decode i) (address - base) v ≡ true → left_of wrote ≡ left 15 lent (answered 15 device.none a)
    unfolding verdict
    forbidden_write n f = let w = write_would d in subst P (sym n.0) (λ b. ap left_of (write_judged base size address 4 v i p a dword (offset base address) w.good (rw b) w.room l) ∙ rw (eq-eqb ((address - base) % 4) 0 n.1, f)) w.inside
      where
        P : ℕ → Type 0
        P w = inside base size address w ≡ true → left_of (hoist_write base size address w v i p a) ≡ left 15 lent (answered 15 device.none a)

    allowed_write : AlignedDword base address width → forbidden (running p) (decode i) (address - base) v ≡ false → IsDone wrote.number
    allowed_write n f = ap (λ (o : Outcome). o.number) (subst P (sym n.0) (λ b. allowed_is_full base size address 4 v i p a dword (offset base address) (write_would d).good (rw b) (write_would d).room l (eq-eqb ((address - base) % 4) 0 n.1) f) (write_would d).inside) ∙ d
      where
        P : ℕ → Type 0
        P w = inside base size address w ≡ true → hoist_write base size address w v i p a ≡ outcome (write base size address w v) i a

  -- with a phase lent, what the full device refuses is refused so
  write_as_full : PhaseLent p → (r : Reason) → Given full i a r → left_of wrote ≡ refused_for r lent a
  write_as_full l r g =
      let e = (refusals_of_calls full i a).refused r g in
      let n : IsDone (outcome full i a).number → ⊥ = λ z. never_zero r (sym (ap (λ (y : Left). y.number) e) ∙ z) in
      ap left_of (write_answers_alike base size address width v i p a l (λ z. n (forbidden_write_was_done base size address width v i p a (inl z))) (λ z. n (forbidden_write_was_done base size address width v i p a (inr z)))) ∙ e

  write_refuses : (r : Reason) → WriteGiven base size address width v i p a r → left_of wrote ≡ refused_for r lent a
  unfolding hoist_write
  write_refuses short_room (inl h) = rw (lt-leb 16 (length a) h)
  write_refuses short_room (inr h) = rw (lt-leb 1 (length p) h, and-false (leb 16 (length a)))
  write_refuses (of_image x) g = write_as_full g.0 (of_image x) g.1
  write_refuses (of_request w) g = write_as_full g.0 (of_request w) g.1
  write_refuses (of_trace t) g = absurd g
  write_refuses (of_profile not_aligned) g = unaligned_write g.0 g.1 g.2
  write_refuses (of_profile not_fit) g = forbidden_write g.0 g.1 g.2 g.3
  write_refuses none_left g = absurd g
  write_refuses (of_tally q) g = absurd g

  abbrev WriteReason : Type 0
  WriteReason = (r : Reason) × WriteGiven base size address width v i p a r

  write_given : (IsDone wrote.number → ⊥) → WriteReason
  write_given n =
      test (leb 16 (length a))
      (λ t. test (leb 1 (length p)) (λ u. by_full (leb-true 1 (length p) u)) (λ u. (short_room, inr (leb-false 1 (length p) u))))
      (λ t. (short_room, inl (leb-false 16 (length a) t)))
    where
      -- where the full device would do it, the profile refuses it
      judged : PhaseLent p → IsDone (outcome full i a).number → WriteReason
      judged l d =
          aligned_or base address width (λ m. (of_profile not_aligned, (l, d, m))) (λ m.
          test (forbidden (running p) (decode i) (address - base) v) (λ f. (of_profile not_fit, (l, d, m, f))) (λ f. absurd (n (allowed_write l d m f))))

      carried : PhaseLent p → (r : Reason) → Given full i a r → WriteReason
      carried l short_room (inl h) = (short_room, inl h)
      carried l short_room (inr h) = absurd (omega arith)
      carried l (of_image x) g = (of_image x, (l, g))
      carried l (of_request w) g = (of_request w, (l, g))
      carried l (of_trace t) g = absurd g
      carried l (of_profile u) g = absurd g
      carried l none_left g = absurd g
      carried l (of_tally q) g = absurd g

      by_full : PhaseLent p → WriteReason
      by_full l =
          test (eqb (outcome full i a).number 0) (λ t. judged l (eqb-true (outcome full i a).number 0 t))
          (λ t. let g = (refusals_of_calls full i a).given (eqb-false (outcome full i a).number 0 t) in carried l g.0 g.1)

  -- A write under the profile keeps to its table: 14 and 15, and all else, are handed back exactly where their rows are met.
  pub refusals_of_a_write : Refuses (WriteGiven base size address width v i p a) lent a (left_of wrote)
  refusals_of_a_write = record { refused = write_refuses; given = write_given }

  pub write_by_number : ByNumber (WriteGiven base size address width v i p a) wrote.number
  write_by_number = each_number (WriteGiven base size address width v i p a) lent a _ refusals_of_a_write

  -- Refused, it changes no byte but the answer area's, and with 7 not even that.
  pub refused_write_untouched : (IsDone wrote.number → ⊥) → Untouched lent a (left_of wrote)
  refused_write_untouched = refused_untouched (WriteGiven base size address width v i p a) lent a _ refusals_of_a_write

-- ---- a read

module _ (base size address width : ℕ) (i a : List ℕ) where
  abbrev asked : Request
  asked = read base size address width

  abbrev under : Outcome
  under = hoist_read base size address width i a

  abbrev image_lent : List (List ℕ)
  image_lent = i ∷ [] ∷ []

  read_would : IsDone (outcome asked i a).number → WouldDo base size address width i a
  read_would d =
      let no = (zero_exactly asked i a).0 d in
      would_do base size address width i a (λ h. no short_room (inl h)) (λ x r f. no (of_image x) ((r, none), f)) (λ w r g u. no (of_request w) ((r, none), g, u))

  module _ (d : IsDone (outcome asked i a).number) where
    unaligned_read : (AlignedDword base address width → ⊥) → left_of under ≡ left 14 image_lent (answered 14 device.none a)
    unfolding verdict
    unaligned_read n = let w = read_would d in by_width P (λ g b r m. ap left_of (read_judged base size address 1 i a byte (offset base address) g (rw b) r))
        (λ g b r m. ap left_of (read_judged base size address 2 i a word (offset base address) g (rw b) r))
        (λ g b r m. ap left_of (read_judged base size address 4 i a dword (offset base address) g (rw b) r) ∙ rw (ne_eqb ((address - base) % 4) 0 (λ z. m (refl, z))))
        (λ g b r m. ap left_of (read_judged base size address 8 i a qword (offset base address) g (rw b) r)) width w.known w.good w.inside w.room n
      where
        P : ℕ → Type 0
        P w = image_test i ≡ accepted → inside base size address w ≡ true → AnswerRoom a → (AlignedDword base address w → ⊥) → left_of (hoist_read base size address w i a) ≡ left 14 image_lent (answered 14 device.none a)

    aligned_read : AlignedDword base address width → IsDone under.number
    aligned_read n = ap (λ (o : Outcome). o.number) (subst P (sym n.0) (λ b. aligned_read_is_full base size address 4 i a dword (offset base address) (read_would d).good (rw b) (read_would d).room (eq-eqb ((address - base) % 4) 0 n.1)) (read_would d).inside) ∙ d
      where
        P : ℕ → Type 0
        P w = inside base size address w ≡ true → hoist_read base size address w i a ≡ outcome (read base size address w) i a

  read_as_full : (r : Reason) → Given asked i a r → left_of under ≡ refused_for r image_lent a
  read_as_full r g =
      let e = (refusals_of_calls asked i a).refused r g in
      ap left_of (read_answers_alike base size address width i a (λ z. never_zero r (sym (ap (λ (y : Left). y.number) e) ∙ refused_read_was_done base size address width i a z))) ∙ e

  read_refuses : (r : Reason) → ReadGiven base size address width i a r → left_of under ≡ refused_for r image_lent a
  read_refuses short_room g = read_as_full short_room (inl g)
  read_refuses (of_image x) g = read_as_full (of_image x) g
  read_refuses (of_request w) g = read_as_full (of_request w) g
  read_refuses (of_trace t) g = absurd g
  read_refuses (of_profile not_aligned) g = unaligned_read g.0 g.1
  read_refuses (of_profile not_fit) g = absurd g
  read_refuses none_left g = absurd g
  read_refuses (of_tally q) g = absurd g

  abbrev ReadReason : Type 0
  ReadReason = (r : Reason) × ReadGiven base size address width i a r

  read_given : (IsDone under.number → ⊥) → ReadReason
  read_given n =
      test (eqb (outcome asked i a).number 0)
      (λ t. let d = eqb-true (outcome asked i a).number 0 t in aligned_or base address width (λ m. (of_profile not_aligned, (d, m))) (λ m. absurd (n (aligned_read d m))))
      (λ t. let g = (refusals_of_calls asked i a).given (eqb-false (outcome asked i a).number 0 t) in carried g.0 g.1)
    where
      carried : (r : Reason) → Given asked i a r → ReadReason
      carried short_room (inl h) = (short_room, h)
      carried short_room (inr h) = absurd (omega arith)
      carried (of_image x) g = (of_image x, g)
      carried (of_request w) g = (of_request w, g)
      carried (of_trace t) g = absurd g
      carried (of_profile u) g = absurd g
      carried none_left g = absurd g
      carried (of_tally q) g = absurd g

  -- A read under the profile keeps to its table.
  pub refusals_of_a_read : Refuses (ReadGiven base size address width i a) image_lent a (left_of under)
  refusals_of_a_read = record { refused = read_refuses; given = read_given }

  pub read_by_number : ByNumber (ReadGiven base size address width i a) under.number
  read_by_number = each_number (ReadGiven base size address width i a) image_lent a _ refusals_of_a_read

  pub refused_read_untouched : (IsDone under.number → ⊥) → Untouched image_lent a (left_of under)
  refused_read_untouched = refused_untouched (ReadGiven base size address width i a) image_lent a _ refusals_of_a_read

-- ---- the two calls that store the phase

module _ (i p a : List ℕ) where
  abbrev both : List (List ℕ)
  both = i ∷ p ∷ []

  abbrev end : PhaseLeft
  end = end_startup i p a

  end_wrong : AnswerRoom a → PhaseLent p → (x : OfImage) → image_test i ≡ test_of x → lent_with_phase end ≡ refused_for (of_image x) both a
  unfolding end_startup
  end_wrong h l bad_length e = rw (le-leb 16 (length a) h, le-leb 1 (length p) l, e)
  end_wrong h l bad_head e = rw (le-leb 16 (length a) h, le-leb 1 (length p) l, e)
  end_wrong h l (bad_body copy_differs k) e = rw (le-leb 16 (length a) h, le-leb 1 (length p) l, e)
  end_wrong h l (bad_body many_wait k) e = rw (le-leb 16 (length a) h, le-leb 1 (length p) l, e)
  end_wrong h l (bad_body bad_flag k) e = rw (le-leb 16 (length a) h, le-leb 1 (length p) l, e)
  end_wrong h l (bad_body unused_set k) e = rw (le-leb 16 (length a) h, le-leb 1 (length p) l, e)

  end_unfit : AnswerRoom a → PhaseLent p → image_test i ≡ accepted → cannot_end (running p) (decode i) ≡ true → lent_with_phase end ≡ refused_for (of_profile not_fit) both a
  unfolding end_startup
  end_unfit h l e c = rw (le-leb 16 (length a) h, le-leb 1 (length p) l, e, c)

  end_done : AnswerRoom a → PhaseLent p → image_test i ≡ accepted → cannot_end (running p) (decode i) ≡ false → IsDone end.number
  unfolding end_startup
  end_done h l e c = rw (le-leb 16 (length a) h, le-leb 1 (length p) l, e, c)

  cannot : (running p ≡ true) ⊎ (any_served (decode i) ≡ true) → cannot_end (running p) (decode i) ≡ true
  cannot (inl e) = rw e
  cannot (inr e) = rw e (or-true (running p))

  end_refuses : (r : Reason) → EndGiven i p a r → lent_with_phase end ≡ refused_for r both a
  unfolding end_startup
  end_refuses short_room (inl h) = rw (lt-leb 16 (length a) h)
  end_refuses short_room (inr h) = rw (lt-leb 1 (length p) h, and-false (leb 16 (length a)))
  end_refuses (of_image x) g = end_wrong g.0 g.1 x ((found_exactly i x).1 g.2)
  end_refuses (of_request w) g = absurd g
  end_refuses (of_trace t) g = absurd g
  end_refuses (of_profile not_aligned) g = absurd g
  end_refuses (of_profile not_fit) g = end_unfit g.0 g.1 ((accepted_exactly i).1 g.2) (cannot g.3)
  end_refuses none_left g = absurd g
  end_refuses (of_tally q) g = absurd g

  end_given : (IsDone end.number → ⊥) → (r : Reason) × EndGiven i p a r
  end_given n =
      test (leb 16 (length a))
      (λ t. test (leb 1 (length p)) (λ u. tested (leb-true 16 (length a) t) (leb-true 1 (length p) u)) (λ u. (short_room, inr (leb-false 1 (length p) u))))
      (λ t. (short_room, inl (leb-false 16 (length a) t)))
    where
      why : cannot_end (running p) (decode i) ≡ true → (running p ≡ true) ⊎ (any_served (decode i) ≡ true)
      why c = test (running p) (λ t. inl t) (λ t. inr (rw t at c))

      tested : AnswerRoom a → PhaseLent p → (r : Reason) × EndGiven i p a r
      tested h l =
          by_image i
          (λ e. test (cannot_end (running p) (decode i)) (λ c. (of_profile not_fit, (h, l, (accepted_exactly i).0 e, why c))) (λ c. absurd (n (end_done h l e c))))
          (λ x e. (of_image x, (h, l, (found_exactly i x).0 e)))

  -- The end of start-up keeps to its table.
  pub refusals_of_the_end : Refuses (EndGiven i p a) both a (lent_with_phase end)
  refusals_of_the_end = record { refused = end_refuses; given = end_given }

  pub end_by_number : ByNumber (EndGiven i p a) end.number
  end_by_number = each_number (EndGiven i p a) both a _ refusals_of_the_end

  -- Refused, no byte of image and phase changes, nor of the answer area past its 16; with 7 none at all.
  pub refused_end_untouched : (IsDone end.number → ⊥) → Untouched both a (lent_with_phase end)
  refused_end_untouched = refused_untouched (EndGiven i p a) both a _ refusals_of_the_end

  abbrev started : PhaseLeft
  started = hoist_reset i p a

  reset_with : leb 16 (length a) ≡ true → leb 1 (length p) ≡ true → (e : Ending) → ending request.reset i ≡ e → lent_with_phase started ≡ lent_with_phase (phase_settled p a (in_start_up p) e)
  unfolding hoist_reset
  reset_with t u e f = rw (t, u) (ap (λ (x : Ending). lent_with_phase (phase_settled p a (in_start_up p) x)) f)

  reset_refuses : (r : Reason) → ResetGiven i p a r → lent_with_phase started ≡ refused_for r both a
  unfolding hoist_reset
  reset_refuses short_room (inl h) = rw (lt-leb 16 (length a) h)
  reset_refuses short_room (inr h) = rw (lt-leb 1 (length p) h, and-false (leb 16 (length a)))
  reset_refuses (of_image bad_length) g = reset_with (le-leb 16 (length a) g.1.0.0) (le-leb 1 (length p) g.0) _ (reset_refused i (no_form i g.1.1))
  reset_refuses (of_image bad_head) g = absurd g.1.1
  reset_refuses (of_image (bad_body k q)) g = absurd g.1.1
  reset_refuses (of_request w) g = absurd g
  reset_refuses (of_trace t) g = absurd g
  reset_refuses (of_profile v) g = absurd g
  reset_refuses none_left g = absurd g
  reset_refuses (of_tally q) g = absurd g

  reset_given : (IsDone started.number → ⊥) → (r : Reason) × ResetGiven i p a r
  reset_given n =
      test (leb 16 (length a))
      (λ t. test (leb 1 (length p))
      (λ u. by_length i (λ f. (of_image bad_length, (leb-true 1 (length p) u, ((leb-true 16 (length a) t, none), f)))) (λ f. absurd (n (ap (λ (y : Left). y.number) (reset_with t u _ (reset_done i f.0 (has_form i f)))))))
      (λ u. (short_room, inr (leb-false 1 (length p) u))))
      (λ t. (short_room, inl (leb-false 16 (length a) t)))

  -- A reset keeps to its table; and refused, it leaves image and phase.
  pub refusals_of_a_reset : Refuses (ResetGiven i p a) both a (lent_with_phase started)
  refusals_of_a_reset = record { refused = reset_refuses; given = reset_given }

  pub reset_by_number : ByNumber (ResetGiven i p a) started.number
  reset_by_number = each_number (ResetGiven i p a) both a _ refusals_of_a_reset

  pub refused_reset_untouched : (IsDone started.number → ⊥) → Untouched both a (lent_with_phase started)
  refused_reset_untouched = refused_untouched (ResetGiven i p a) both a _ refusals_of_a_reset
