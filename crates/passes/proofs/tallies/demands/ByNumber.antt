-- The numbers that the three calls of a tally hand back, each exactly when, by their tables in specs/tallies/Refusals.antt. And what a refused one leaves (00, demand 1): the tally or the sheet that it was lent, and
-- of the answer area the bytes past its 16; with 7 every byte.
use Rattle.basics.proofs.Prelude.{◌≡◌, refl, sym, ap, ◌∙◌, true, false, cond, and-false, true≢false, List, [], ◌∷◌, ◌⊎◌, inl, inr, ℕ, zero, suc, ◌+◌, ◌*◌, ◌<◌, ◌≤◌, arith, leb, ltb, length, le-leb, leb-true, leb-false, lt-leb, ltb-true, ltb-false, test}
use Rattle.images.specs.Image.{ImageTest, image_test}
use Rattle.calls.specs.{Untouched.Left, Untouched.Untouched, Untouched.IsDone}
use Rattle.calls.specs.Reasons.{bad_length, bad_head, bad_body, bad_contents, bad_at, Reason, short_room, of_image, of_request, of_trace, of_profile, none_left, of_tally, refused_for, Refuses, Exactly, ByNumber}
use Rattle.laws.proofs.demands.Found.{found_exactly, accepted_exactly, by_image}
use Rattle.traces.{specs.Trace.TraceTest, specs.Trace.trace_test, proofs.demands.Told.trace_exactly, proofs.demands.Told.is_good_lem, proofs.demands.Told.by_trace}
use Rattle.passes.specs.tallies.Tally.{tally_length, unsound, TallyTest, sound, wrong_at, first_unsound, tally_test}
use Rattle.passes.specs.tallies.Tallying.{TallyLeft, beginning, unless_tally, unless_trace, unless_image, add_ends, adding, sum_ends, summing}
use Rattle.passes.specs.tallies.Refusals.{FirstUnsound, tally_left, TallyRoom, BeginGiven, AddGiven, SumGiven}
use Rattle.passes.proofs.tallies.laws.Sound.{not_wrong, all_sound}
use Rattle.calls.proofs.laws.Tables as tables

-- ---- which bytes are a tally

-- every number is sound
abbrev pub IsTally : List ℕ → Type 0
IsTally t = (j : ℕ) → j < 650 → unsound t j ≡ false

-- what is found from place k on
pub record FoundFrom (t : List ℕ) (m k p : ℕ) : Type 0 where
  pub index : ℕ
  pub place : p ≡ 8 * (k + index)
  pub listed : index < m
  pub wrong : unsound t (k + index) ≡ true
  pub before : (j : ℕ) → j < index → unsound t (k + j) ≡ false

found_from : (t : List ℕ) (m k p : ℕ) → first_unsound t m k ≡ wrong_at p → FoundFrom t m k p
unfolding first_unsound
found_from t zero k p e = absurd (not_wrong p (sym e))
found_from t (suc m) k p e = test (unsound t k)
    (λ u. let at : wrong_at (8 * k) ≡ wrong_at p = ap (λ b. cond b (wrong_at (8 * k)) (first_unsound t m (suc k))) (sym u) ∙ e in
    let same : 8 * k ≡ p = cc in
    let zero_on : k + 0 ≡ k = omega arith in
    record { index = 0; place = omega (arith, same); listed = omega arith; wrong = ap (unsound t) zero_on ∙ u; before = λ j h. absurd (omega arith) })
    (λ u. let f = found_from t m (suc k) p (ap (λ b. cond b (wrong_at (8 * k)) (first_unsound t m (suc k))) (sym u) ∙ e) in
    let on : k + suc f.index ≡ suc k + f.index = omega arith in
    record {
      index = suc f.index;
      place = omega (arith, f.place);
      listed = omega (arith, f.listed);
      wrong = ap (unsound t) on ∙ f.wrong;
      before = λ j h. earlier u f.index f.before j h;
    })
  where
    earlier : unsound t k ≡ false → (n : ℕ) → ((j : ℕ) → j < n → unsound t (suc k + j) ≡ false) → (j : ℕ) → j < suc n → unsound t (k + j) ≡ false
    earlier u n b zero h = let z : k + 0 ≡ k = omega arith in ap (unsound t) z ∙ u
    earlier u n b (suc j) h = let z : k + suc j ≡ suc k + j = omega arith in ap (unsound t) z ∙ b j (omega arith)

module _ (t : List ℕ) where
  from_zero_lem : (j : ℕ) → unsound t j ≡ unsound t (0 + j)
  from_zero_lem j = let z : j ≡ 0 + j = omega arith in ap (unsound t) z

  found_first : (p : ℕ) → tally_test t ≡ wrong_at p → FirstUnsound t p
  found_first p e =
      let f = found_from t 650 0 p e in
      record {
        number = f.index;
        place = omega (arith, f.place);
        listed = f.listed;
        wrong = from_zero_lem f.index ∙ f.wrong;
        before = λ j h. from_zero_lem j ∙ f.before j (omega (arith, h));
      }

  two_first : {p q : ℕ} → FirstUnsound t p → FirstUnsound t q → p ≡ q
  two_first x y =
      test (ltb x.number y.number) (λ u. absurd (true≢false (sym x.wrong ∙ y.before x.number (ltb-true x.number y.number u))))
      (λ u. test (ltb y.number x.number) (λ w. absurd (true≢false (sym y.wrong ∙ x.before y.number (ltb-true y.number x.number w))))
      (λ w. let e = ltb-false x.number y.number u in let g = ltb-false y.number x.number w in omega (arith, e, g, x.place, y.place)))

  -- 17 is found exactly where it is so, with its place; and nothing exactly where every number is sound
  pub tally_exactly : (p : ℕ) → Exactly (tally_test t ≡ wrong_at p) (FirstUnsound t p)
  tally_exactly p = (found_first p, λ x. go x (tally_test t) refl)
    where
      go : FirstUnsound t p → (u : TallyTest) → tally_test t ≡ u → tally_test t ≡ wrong_at p
      go x sound e = absurd (true≢false (sym x.wrong ∙ from_zero_lem x.number ∙ all_sound t 650 0 e x.number x.listed))
      go x (wrong_at q) e = e ∙ ap wrong_at (two_first (found_first q e) x)

  pub sound_exactly : Exactly (tally_test t ≡ sound) (IsTally t)
  sound_exactly = (λ e j h. from_zero_lem j ∙ all_sound t 650 0 e j h, λ s. go s (tally_test t) refl)
    where
      go : IsTally t → (u : TallyTest) → tally_test t ≡ u → tally_test t ≡ sound
      go s sound e = e
      go s (wrong_at q) e = let f = found_first q e in absurd (true≢false (sym f.wrong ∙ s f.number f.listed))

  by_tally : {A : Type 0} → (tally_test t ≡ sound → A) → ((p : ℕ) → tally_test t ≡ wrong_at p → A) → A
  by_tally {A} fine wrong = go (tally_test t) refl
    where
      go : (u : TallyTest) → tally_test t ≡ u → A
      go sound e = fine e
      go (wrong_at p) e = wrong p e

-- room for answer area and tally, or want of it
by_room : (a t : List ℕ) {A : Type 0} → ((length a < 16) ⊎ (length t < tally_length) → A) → (TallyRoom a t → A) → A
by_room a t none some =
    test (leb 16 (length a))
    (λ h. test (leb tally_length (length t)) (λ r. some (leb-true 16 (length a) h, leb-true tally_length (length t) r)) (λ r. none (inr (leb-false tally_length (length t) r))))
    (λ h. none (inl (leb-false 16 (length a) h)))

-- ---- a tally begun

module _ (t a : List ℕ) where
  abbrev begun : TallyLeft
  begun = beginning t a

  begin_refuses : (r : Reason) → BeginGiven t a r → tally_left begun ≡ refused_for r (t ∷ []) a
  unfolding beginning
  begin_refuses short_room (inl h) = rw (lt-leb 16 (length a) h)
  begin_refuses short_room (inr h) = rw (lt-leb tally_length (length t) h, and-false (leb 16 (length a)))
  begin_refuses (of_image x) g = absurd g
  begin_refuses (of_request w) g = absurd g
  begin_refuses (of_trace y) g = absurd g
  begin_refuses (of_profile v) g = absurd g
  begin_refuses none_left g = absurd g
  begin_refuses (of_tally p) g = absurd g

  begin_done : TallyRoom a t → IsDone begun.number
  unfolding beginning
  begin_done r = rw (le-leb 16 (length a) r.0, le-leb tally_length (length t) r.1)

  -- The call keeps to its table; and refused, it leaves what it was lent.
  pub refusals_of_a_begin : Refuses (BeginGiven t a) (t ∷ []) a (tally_left begun)
  refusals_of_a_begin = record { refused = begin_refuses; given = λ n. by_room a t (λ s. (short_room, s)) (λ r. absurd (n (begin_done r))) }

  pub begin_by_number : ByNumber (BeginGiven t a) begun.number
  begin_by_number = tables.each_number (BeginGiven t a) (t ∷ []) a _ refusals_of_a_begin

  pub refused_begin_untouched : (IsDone begun.number → ⊥) → Untouched (t ∷ []) a (tally_left begun)
  refused_begin_untouched = tables.refused_untouched (BeginGiven t a) (t ∷ []) a _ refusals_of_a_begin

-- ---- a trace added

module _ (l i t a : List ℕ) where
  abbrev added : TallyLeft
  added = adding l i t a

  -- with room, by what the three tests say
  adds_by : TallyRoom a t → {u : ImageTest} → image_test i ≡ u → {y : TraceTest} → trace_test l ≡ y → {z : TallyTest} → tally_test t ≡ z
      → added ≡ add_ends (unless_image u (unless_trace y (unless_tally z))) l i t a
  unfolding adding
  adds_by r e f g = rw (le-leb 16 (length a) r.0, le-leb tally_length (length t) r.1) (λ s. add_ends (unless_image (e s) (unless_trace (f s) (unless_tally (g s)))) l i t a)

  add_refuses : (r : Reason) → AddGiven l i t a r → tally_left added ≡ refused_for r (t ∷ []) a
  unfolding adding
  add_refuses short_room (inl h) = rw (lt-leb 16 (length a) h)
  add_refuses short_room (inr h) = rw (lt-leb tally_length (length t) h, and-false (leb 16 (length a)))
  add_refuses (of_image bad_length) g = ap tally_left (adds_by g.0 ((found_exactly i bad_length).1 g.1) refl refl)
  add_refuses (of_image bad_head) g = ap tally_left (adds_by g.0 ((found_exactly i bad_head).1 g.1) refl refl)
  add_refuses (of_image (bad_body k p)) g = ap tally_left (adds_by g.0 ((found_exactly i (bad_body k p)).1 g.1) refl refl) ∙ tables.image_told (t ∷ []) a (bad_body k p)
  add_refuses (of_request w) g = absurd g
  add_refuses (of_trace bad_contents) g = ap tally_left (adds_by g.0 ((accepted_exactly i).1 g.1) ((trace_exactly l bad_contents).1 g.2) refl)
  add_refuses (of_trace (bad_at k)) g = ap tally_left (adds_by g.0 ((accepted_exactly i).1 g.1) ((trace_exactly l (bad_at k)).1 g.2) refl)
  add_refuses (of_profile v) g = absurd g
  add_refuses none_left g = absurd g
  add_refuses (of_tally p) g = ap tally_left (adds_by g.0 ((accepted_exactly i).1 g.1) (is_good_lem l g.2) ((tally_exactly t p).1 g.3))

  add_given : (IsDone added.number → ⊥) → (r : Reason) × AddGiven l i t a r
  add_given n = by_room a t (λ s. (short_room, s)) tested
    where
      tested : TallyRoom a t → (r : Reason) × AddGiven l i t a r
      tested r =
          by_image i
          (λ e. by_trace l
          (λ f good. by_tally t (λ g. absurd (n (ap (λ (x : TallyLeft). x.number) (adds_by r e f g)))) (λ p g. (of_tally p, (r, (accepted_exactly i).0 e, good, (tally_exactly t p).0 g))))
          (λ y f. (of_trace y, (r, (accepted_exactly i).0 e, (trace_exactly l y).0 f))))
          (λ x e. (of_image x, (r, (found_exactly i x).0 e)))

  -- The call keeps to its table.
  pub refusals_of_an_add : Refuses (AddGiven l i t a) (t ∷ []) a (tally_left added)
  refusals_of_an_add = record { refused = add_refuses; given = add_given }

  pub add_by_number : ByNumber (AddGiven l i t a) added.number
  add_by_number = tables.each_number (AddGiven l i t a) (t ∷ []) a _ refusals_of_an_add

  pub refused_add_untouched : (IsDone added.number → ⊥) → Untouched (t ∷ []) a (tally_left added)
  refused_add_untouched = tables.refused_untouched (AddGiven l i t a) (t ∷ []) a _ refusals_of_an_add

-- ---- the sheet of a tally

module _ (t s a : List ℕ) where
  abbrev summed : TallyLeft
  summed = summing t s a

  sums_by : tally_length ≤ length t → TallyRoom a s → {z : TallyTest} → tally_test t ≡ z → summed ≡ sum_ends z t s a
  unfolding summing
  sums_by h r g = rw (le-leb tally_length (length t) h, le-leb 16 (length a) r.0, le-leb tally_length (length s) r.1) (ap (λ z. sum_ends z t s a) g)

  sum_refuses : (r : Reason) → SumGiven t s a r → tally_left summed ≡ refused_for r (s ∷ []) a
  unfolding summing
  sum_refuses short_room (inl h) = rw (lt-leb tally_length (length t) h)
  sum_refuses short_room (inr (inl h)) = test (leb tally_length (length t)) (λ u. rw (u, lt-leb 16 (length a) h)) (λ u. rw u)
  sum_refuses short_room (inr (inr h)) = test (leb tally_length (length t)) (λ u. rw (u, lt-leb tally_length (length s) h, and-false (leb 16 (length a)))) (λ u. rw u)
  sum_refuses (of_image x) g = absurd g
  sum_refuses (of_request w) g = absurd g
  sum_refuses (of_trace y) g = absurd g
  sum_refuses (of_profile v) g = absurd g
  sum_refuses none_left g = absurd g
  sum_refuses (of_tally p) g = ap tally_left (sums_by g.0 g.1 ((tally_exactly t p).1 g.2))

  sum_given : (IsDone summed.number → ⊥) → (r : Reason) × SumGiven t s a r
  sum_given n = test (leb tally_length (length t)) (λ u. by_room a s (λ h. (short_room, inr h)) (tested (leb-true tally_length (length t) u))) (λ u. (short_room, inl (leb-false tally_length (length t) u)))
    where
      tested : tally_length ≤ length t → TallyRoom a s → (r : Reason) × SumGiven t s a r
      tested h r = by_tally t (λ g. absurd (n (ap (λ (x : TallyLeft). x.number) (sums_by h r g)))) (λ p g. (of_tally p, (h, r, (tally_exactly t p).0 g)))

  -- The call keeps to its table.
  pub refusals_of_a_sum : Refuses (SumGiven t s a) (s ∷ []) a (tally_left summed)
  refusals_of_a_sum = record { refused = sum_refuses; given = sum_given }

  pub sum_by_number : ByNumber (SumGiven t s a) summed.number
  sum_by_number = tables.each_number (SumGiven t s a) (s ∷ []) a _ refusals_of_a_sum

  pub refused_sum_untouched : (IsDone summed.number → ⊥) → Untouched (s ∷ []) a (tally_left summed)
  refused_sum_untouched = tables.refused_untouched (SumGiven t s a) (s ∷ []) a _ refusals_of_a_sum
