-- What the test of a trace tells is so, and what is so is told (02, C-11): 12 of wrong contents, 13 of the first bad record, else a trace in which all is good.
use Rattle.basics.proofs.Prelude.{◌≡◌, refl, sym, ap, subst, ◌∙◌, true≢false, test, Bool, true, false, cond, List, ℕ, ◌<◌, arith, ltb, ltb-true, ltb-false, not-true, not-false}
use Rattle.traces.specs.Trace.{first_place, record_count, contents_good, nth, is_good, is_bad, first_bad, TraceTest, good, wrong_contents, bad_record, found_bad, trace_test}
use Rattle.calls.specs.Reasons.{OfTrace, bad_contents, bad_at, Exactly}
use Rattle.traces.specs.Refusals.{FirstBad, TraceFound, IsTrace}
use Rattle.traces.proofs.laws.Firsts.{First, first_found}

-- all is good: the contents, and every record; told with the place of the first and how many there are
pub record AllGood (l : List ℕ) (first records : ℕ) : Type 0 where
  pub contents : contents_good l ≡ true
  pub place : first ≡ first_place l
  pub count : records ≡ record_count l
  pub each : (k : ℕ) → k < record_count l → is_good (nth l k) ≡ true

-- what a test means
abbrev pub Means : List ℕ → TraceTest → Type 0
Means l (good first records) = AllGood l first records
Means l wrong_contents = contents_good l ≡ false
Means l (bad_record k) = FirstBad l k

module _ (l : List ℕ) where
  abbrev bad : ℕ → Bool
  bad k = is_bad (nth l k)

  abbrev found : ℕ
  found = first_bad bad (record_count l) 0

  looked : First bad (record_count l) 0 found
  looked = first_found bad (record_count l) 0

  found_means : contents_good l ≡ true → Means l (found_bad (first_place l) (record_count l) found)
  found_means c = go (ltb found (record_count l)) refl
    where
      go : (t : Bool) → ltb found (record_count l) ≡ t → Means l (cond t (bad_record found) (good (first_place l) (record_count l)))
      go true e =
          let h = ltb-true found (record_count l) e in
          record {
            contents = c;
            listed = h;
            bad = not-true (is_good (nth l found)) (looked.here (omega (arith, h)));
            before = λ m g. not-false (is_good (nth l m)) (looked.before m (omega arith) (omega (arith, g)));
          }
      go false e =
          let h = ltb-false found (record_count l) e in
          record { contents = c; place = refl; count = refl; each = λ k g. not-false (is_good (nth l k)) (looked.before k (omega arith) (omega arith)) }

  -- told is so
  pub test_told : Means l (trace_test l)
  unfolding trace_test
  test_told = go (contents_good l) refl
    where
      go : (t : Bool) → contents_good l ≡ t → Means l (cond t (found_bad (first_place l) (record_count l) found) wrong_contents)
      go true e = found_means e
      go false e = e

-- ---- both ways

-- what the test says then
abbrev pub test_of_trace : OfTrace → TraceTest
test_of_trace bad_contents = wrong_contents
test_of_trace (bad_at k) = bad_record k

module _ (l : List ℕ) where
  means : {t : TraceTest} → trace_test l ≡ t → Means l t
  means e = subst (Means l) e (test_told l)

  -- the first bad record is one
  two_first : {j k : ℕ} → FirstBad l j → FirstBad l k → j ≡ k
  two_first {j} {k} x y =
      test (ltb j k) (λ t. absurd (true≢false (sym (y.before j (ltb-true j k t)) ∙ x.bad)))
      (λ t. test (ltb k j) (λ u. absurd (true≢false (sym (x.before k (ltb-true k j u)) ∙ y.bad))) (λ u. let e = ltb-false j k t in let g = ltb-false k j u in omega (arith, e, g)))

  wrong_found : contents_good l ≡ false → trace_test l ≡ wrong_contents
  unfolding trace_test
  wrong_found e = rw e

  -- 12 and 13 are found exactly where they are so
  pub trace_exactly : (x : OfTrace) → Exactly (trace_test l ≡ test_of_trace x) (TraceFound l x)
  trace_exactly bad_contents = (λ e. means e, wrong_found)
  trace_exactly (bad_at k) = (λ e. means e, λ x. go x (trace_test l) refl)
    where
      go : FirstBad l k → (t : TraceTest) → trace_test l ≡ t → trace_test l ≡ bad_record k
      go x (good first n) e = absurd (true≢false (sym ((means e).each k x.listed) ∙ x.bad))
      go x wrong_contents e = absurd (true≢false (sym x.contents ∙ means e))
      go x (bad_record j) e = e ∙ ap bad_record (two_first (means e) x)

  apart : (x : OfTrace) {first n : ℕ} → test_of_trace x ≡ good first n → ⊥
  apart bad_contents e = let z : ◌≡◌ {A = ℕ} 0 1 = cc in omega arith
  apart (bad_at k) e = let z : ◌≡◌ {A = ℕ} 0 1 = cc in omega arith

  -- and nothing exactly where all is good
  pub is_good_lem : IsTrace l → trace_test l ≡ good (first_place l) (record_count l)
  is_good_lem g = go (trace_test l) refl
    where
      go : (t : TraceTest) → trace_test l ≡ t → trace_test l ≡ good (first_place l) (record_count l)
      go (good first n) e = let m = means e in e ∙ (λ s. good (m.place s) (m.count s))
      go wrong_contents e = absurd (g bad_contents (means e))
      go (bad_record j) e = absurd (g (bad_at j) (means e))

  pub good_is : {first n : ℕ} → trace_test l ≡ good first n → IsTrace l
  good_is e x f = apart x (sym ((trace_exactly x).1 f) ∙ e)

  -- one of these it is
  pub by_trace : {A : Type 0} → (trace_test l ≡ good (first_place l) (record_count l) → IsTrace l → A) → ((x : OfTrace) → trace_test l ≡ test_of_trace x → A) → A
  by_trace {A} fine wrong = go (trace_test l) refl
    where
      go : (t : TraceTest) → trace_test l ≡ t → A
      go (good first n) e = fine (is_good_lem (good_is e)) (good_is e)
      go wrong_contents e = wrong bad_contents e
      go (bad_record k) e = wrong (bad_at k) e
