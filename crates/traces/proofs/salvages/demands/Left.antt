-- What the exported call leaves (02, C-23): refused, not a byte of the two buffers changes, and 7 writes none at all; done, the new trace and the list stand in front of what was lent.
use Rattle.basics.proofs.Prelude.{◌≡◌, refl, sym, ap, subst, ◌∙◌, Bool, true, false, cond, ◌&&◌, and-eq-true_iff, List, [], ◌∷◌, ℕ, ◌+◌, ◌-◌, ◌≤◌, arith, leb, length, take, drop, take_at, drop_at, eq-eqb, ne_eqb, eqb-true, eqb-false, le-leb, leb-true, Bytes, test, number_of_bytes_of, Each}
use Rattle.rules.specs.Device.{none, some}
use Rattle.calls.{specs.Untouched.IsDone, specs.Calls.answer_length, specs.Calls.answered, specs.Calls.value_in, proofs.laws.Answers.value_read, specs.Calls.AnswerRoom}
use Rattle.traces.specs.{Trace.block_count, Trace.contents_good, Trace.good, Trace.trace_test, plays.Playing.in_front}
use Rattle.traces.specs.salvages.Kept.{bodies, all_good, kept, dropped_from, entries_in, new_trace, drop_list}
use Rattle.traces.specs.salvages.Salvaging.{SalvageTest, refused, salvages, is_empty, salvage_room, salvage_test, SalvageLeft, salvage_leaves, salvage_ends, salvage_settled, salvaging}
use Rattle.traces.proofs.{laws.Contents.contents_have, demands.Told.AllGood, demands.Told.Means, demands.Told.test_told}
use Rattle.traces.proofs.salvages.laws.{Chosen.kept_none, Chosen.kept_good, Chosen.kept_torn, Chosen.good_kept, Taken.length_bodies}
use Rattle.traces.proofs.salvages.demands.Listed.{list_read_back, all_accounted}
use Rattle.traces.proofs.salvages.demands.Blocks.{good_blocks, new_fits, comes_out_good, again_the_same, good_unchanged, good_unlisted}
use Rattle.traces.proofs.salvages.laws.Computed as computed

-- ---- no block is left exactly where each has a bad record

pub none_left : (xs : List (List ℕ)) → length (kept xs) ≡ 0 → Each (λ x. all_good x ≡ false) xs
none_left [] e = tt
none_left (x ∷ xs) e =
    test (all_good x) (λ t. absurd (omega (arith, e, ap length (kept_good x xs t)))) (λ t. (t, none_left xs (ap length (sym (kept_torn x xs t)) ∙ e)))

pub left_none : (xs : List (List ℕ)) → Each (λ x. all_good x ≡ false) xs → length (kept xs) ≡ 0
left_none [] e = ap length kept_none
left_none (x ∷ xs) e = ap length (kept_torn x xs e.0) ∙ left_none xs e.1

module _ (l ks ds : List ℕ) where
  -- ---- the tests

  pub by_tests : {c e r : Bool} → contents_good l ≡ c → is_empty l ≡ e → salvage_room l ks ds ≡ r
      → salvage_test l ks ds ≡ cond c (cond e (refused 16 none) (cond r salvages (refused 7 none))) (refused 12 none)
  unfolding salvage_test
  by_tests p q s = (λ t. cond (p t) (cond (q t) (refused 16 none) (cond (s t) salvages (refused 7 none))) (refused 12 none))

  module _ (a : List ℕ) where
    abbrev left : SalvageLeft
    left = salvaging l ks ds a

    by_test : {b : Bool} → leb answer_length (length a) ≡ b → {t : SalvageTest} → salvage_test l ks ds ≡ t
        → left ≡ cond b (salvage_settled a (salvage_ends t l ks ds)) (salvage_leaves 7 ks ds a)
    unfolding salvaging
    by_test e f = (λ s. cond (e s) (salvage_settled a (salvage_ends (f s) l ks ds)) (salvage_leaves 7 ks ds a))

    -- not done: the two buffers are as they were
    pub record Untouched : Type 0 where
      pub second : left.second ≡ ks
      pub list : left.list ≡ ds

    untouched : {n : ℕ} {x : List ℕ} → left ≡ salvage_leaves n ks ds x → Untouched
    untouched e = record { second = ap (λ (p : SalvageLeft). p.second) e; list = ap (λ (p : SalvageLeft). p.list) e }

    pub refused_untouched : (left.number ≡ 0 → ⊥) → Untouched
    refused_untouched n = test (leb answer_length (length a)) (λ e. go e (salvage_test l ks ds) refl) (λ e. untouched (by_test e refl))
      where
        go : leb answer_length (length a) ≡ true → (t : SalvageTest) → salvage_test l ks ds ≡ t → Untouched
        go e (refused m v) f = untouched (by_test e f)
        go e salvages f = absurd (n (ap (λ (p : SalvageLeft). p.number) (by_test e f)))

    -- 7: nor is the answer area
    pub seven_untouched : left.number ≡ 7 → left.answer ≡ a
    seven_untouched s = test (leb answer_length (length a)) (λ e. go e (salvage_test l ks ds) refl) (λ e. ap (λ (p : SalvageLeft). p.answer) (by_test e refl))
      where
        go : leb answer_length (length a) ≡ true → (t : SalvageTest) → salvage_test l ks ds ≡ t → left.answer ≡ a
        go e (refused m v) f =
            let is : m ≡ 7 = sym (ap (λ (p : SalvageLeft). p.number) (by_test e f)) ∙ s in
            ap (λ (p : SalvageLeft). p.answer) (by_test e f) ∙ rw (eq-eqb m 7 is)
        go e salvages f = absurd (let z : 0 ≡ 7 = sym (ap (λ (p : SalvageLeft). p.number) (by_test e f)) ∙ s in omega arith)

    -- a done call had room for its answer
    pub done_has_room : IsDone left.number → AnswerRoom a
    done_has_room n =
        test (leb answer_length (length a)) (λ t. omega (arith, leb-true answer_length (length a) t))
        (λ t. absurd (let z : 7 ≡ 0 = sym (ap (λ (x : SalvageLeft). x.number) (by_test t refl)) ∙ n in omega arith))

    -- ---- which refusal, where the answer area has its sixteen bytes

    module _ (h : answer_length ≤ length a) where
      roomy : leb answer_length (length a) ≡ true
      roomy = le-leb answer_length (length a) h

      -- the number handed back, by the three tests
      told_by : (c e r : Bool) → contents_good l ≡ c → is_empty l ≡ e → salvage_room l ks ds ≡ r → left.number ≡ cond c (cond e 16 (cond r 0 7)) 12
      told_by false e r p q s = ap (λ (x : SalvageLeft). x.number) (by_test roomy (by_tests p q s))
      told_by true true r p q s = ap (λ (x : SalvageLeft). x.number) (by_test roomy (by_tests p q s))
      told_by true false false p q s = ap (λ (x : SalvageLeft). x.number) (by_test roomy (by_tests p q s))
      told_by true false true p q s = ap (λ (x : SalvageLeft). x.number) (by_test roomy (by_tests p q s))

      -- 12 exactly where the contents are wrong
      pub twelve_left : contents_good l ≡ false → left ≡ salvage_leaves 12 ks ds (answered 12 none a)
      twelve_left p = by_test roomy (by_tests p refl refl)

      pub twelve_means : left.number ≡ 12 → contents_good l ≡ false
      twelve_means n = test (contents_good l) (λ p. absurd (go (is_empty l) (salvage_room l ks ds) (sym (told_by true (is_empty l) (salvage_room l ks ds) p refl refl) ∙ n))) (λ p. p)
        where
          go : (e r : Bool) → ◌≡◌ {A = ℕ} (cond e 16 (cond r 0 7)) 12 → ⊥
          go true r z = omega (arith, z)
          go false true z = omega (arith, z)
          go false false z = omega (arith, z)

      -- 16 exactly where the contents are good and each block has a bad record
      pub sixteen_left : contents_good l ≡ true → Each (λ x. all_good x ≡ false) (bodies l) → left ≡ salvage_leaves 16 ks ds (answered 16 none a)
      sixteen_left p e = by_test roomy (by_tests p (eq-eqb (length (kept (bodies l))) 0 (left_none (bodies l) e)) refl)

      pub sixteen_means : left.number ≡ 16 → (contents_good l ≡ true) × Each (λ x. all_good x ≡ false) (bodies l)
      sixteen_means n =
          test (contents_good l)
          (λ p. test (is_empty l) (λ q. (p, none_left (bodies l) (eqb-true (length (kept (bodies l))) 0 q)))
          (λ q. absurd (go (salvage_room l ks ds) (sym (told_by true false (salvage_room l ks ds) p q refl) ∙ n))))
          (λ p. absurd (let z : 12 ≡ 16 = sym (told_by false (is_empty l) (salvage_room l ks ds) p refl refl) ∙ n in omega arith))
        where
          go : (r : Bool) → ◌≡◌ {A = ℕ} (cond r 0 7) 16 → ⊥
          go true z = omega (arith, z)
          go false z = omega (arith, z)

      -- ---- done exactly where the contents are good, a block is good, and there is room

      pub record Salvaged : Type 0 where
        pub contents : contents_good l ≡ true
        pub some : 1 ≤ length (kept (bodies l))
        pub second : length (new_trace l) ≤ length ks
        pub list : length (drop_list l) ≤ length ds

      -- the new trace and the list in front of what was lent, and the new trace's length
      pub done_left : Salvaged → left ≡ salvage_leaves 0 (in_front (new_trace l) ks) (in_front (drop_list l) ds) (answered 0 (some (length (new_trace l))) a)
      done_left s =
          by_test roomy
          (by_tests s.contents (ne_eqb (length (kept (bodies l))) 0 (λ z. omega (arith, s.some)))
          (λ t. le-leb (length (new_trace l)) (length ks) s.second t && le-leb (length (drop_list l)) (length ds) s.list t))

      pub done_means : left.number ≡ 0 → Salvaged
      done_means n =
          test (contents_good l)
          (λ p. test (is_empty l) (λ q. absurd (let z : 16 ≡ 0 = sym (told_by true true (salvage_room l ks ds) p q refl) ∙ n in omega arith))
          (λ q. test (salvage_room l ks ds) (λ r. let b = (and-eq-true_iff _ _).0 r in
          record {
            contents = p;
            some = omega (arith, eqb-false (length (kept (bodies l))) 0 q);
            second = leb-true (length (new_trace l)) (length ks) b.0;
            list = leb-true (length (drop_list l)) (length ds) b.1;
          })
          (λ r. absurd (let z : 7 ≡ 0 = sym (told_by true false false p q r) ∙ n in omega arith))))
          (λ p. absurd (let z : 12 ≡ 0 = sym (told_by false (is_empty l) (salvage_room l ks ds) p refl refl) ∙ n in omega arith))

      -- 7, with room for the answer, just where a block is left and a buffer is too short
      pub seven_left : contents_good l ≡ true → 1 ≤ length (kept (bodies l)) → salvage_room l ks ds ≡ false → left ≡ salvage_leaves 7 ks ds a
      seven_left p q r = by_test roomy (by_tests p (ne_eqb (length (kept (bodies l))) 0 (λ z. omega (arith, q))) r)

      pub seven_means : left.number ≡ 7 → (contents_good l ≡ true) × (1 ≤ length (kept (bodies l))) × (salvage_room l ks ds ≡ false)
      seven_means n =
          test (contents_good l)
          (λ p. test (is_empty l) (λ q. absurd (let z : 16 ≡ 7 = sym (told_by true true (salvage_room l ks ds) p q refl) ∙ n in omega arith))
          (λ q. test (salvage_room l ks ds) (λ r. absurd (let z : 0 ≡ 7 = sym (told_by true false true p q r) ∙ n in omega arith))
          (λ r. (p, omega (arith, eqb-false (length (kept (bodies l))) 0 q), r))))
          (λ p. absurd (let z : 12 ≡ 7 = sym (told_by false (is_empty l) (salvage_room l ks ds) p refl refl) ∙ n in omega arith))

      -- bytes past the new trace and past the list stay
      pub past_stay : Salvaged → (drop (length (new_trace l)) left.second ≡ drop (length (new_trace l)) ks) × (drop (length (drop_list l)) left.list ≡ drop (length (drop_list l)) ds)
      past_stay s = (
        ap (λ (x : SalvageLeft). drop (length (new_trace l)) x.second) (done_left s) ∙ drop_at (new_trace l) (drop (length (new_trace l)) ks) (length (new_trace l)) refl,
        ap (λ (x : SalvageLeft). drop (length (drop_list l)) x.list) (done_left s) ∙ drop_at (drop_list l) (drop (length (drop_list l)) ds) (length (drop_list l)) refl,
      )

      -- what a host takes for the new trace, so many bytes as the value says, is it
      pub comes_out : Salvaged → take (value_in left.answer) left.second ≡ new_trace l
      comes_out s =
          ap (λ (x : SalvageLeft). take (value_in x.answer) x.second) (done_left s)
          ∙ ap (λ n. take n (in_front (new_trace l) ks)) (value_read 0 a (length (new_trace l)) (omega (arith, new_fits l s.contents)))
          ∙ take_at (new_trace l) (drop (length (new_trace l)) ks) (length (new_trace l)) refl

      -- and as many entries of the list as it has blocks less than the old one are the dropped blocks
      pub list_read : Salvaged → entries_in (block_count l - block_count left.second) left.list ≡ dropped_from 0 (bodies l)
      list_read s =
          let e = done_left s in
          let size : length (kept (bodies l)) + length (dropped_from 0 (bodies l)) ≡ block_count l = all_accounted l in
          let new : block_count (in_front (new_trace l) ks) ≡ length (kept (bodies l)) =
          number_of_bytes_of 2 (length (kept (bodies l))) (omega (arith, size, (contents_have l s.contents).few)) in
          let many : block_count l - block_count left.second ≡ length (dropped_from 0 (bodies l)) = omega (arith, size, new, ap (λ (x : SalvageLeft). block_count x.second) e) in
          (λ t. entries_in (many t) (e t).list) ∙ list_read_back l s.contents (drop (length (drop_list l)) ds)

    -- ---- what a done call leaves

    -- the same of a done call, which had room and all that a salvage asks
    module _ (n : IsDone left.number) where
      pub salvaged : Salvaged (done_has_room n)
      salvaged = done_means (done_has_room n) n

      pub rest_stays : (drop (length (new_trace l)) left.second ≡ drop (length (new_trace l)) ks) × (drop (length (drop_list l)) left.list ≡ drop (length (drop_list l)) ds)
      rest_stays = past_stay (done_has_room n) salvaged

      pub trace_comes_out : take (value_in left.answer) left.second ≡ new_trace l
      trace_comes_out = comes_out (done_has_room n) salvaged

      pub list_is_read : entries_in (block_count l - block_count left.second) left.list ≡ dropped_from 0 (bodies l)
      list_is_read = list_read (done_has_room n) salvaged

-- ---- one outcome

-- of two runs whose contract holds, the numbers handed back, the two buffers and the answer areas are the same
pub one_salvage : (l ks ds a : List ℕ) {r s : ℕ} {ks₁ ks₂ ds₁ ds₂ a₁ a₂ : List ℕ} → salvage_leaves r ks₁ ds₁ a₁ ≡ salvaging l ks ds a → salvage_leaves s ks₂ ds₂ a₂ ≡ salvaging l ks ds a
    → (r ≡ s) × (ks₁ ≡ ks₂) × (ds₁ ≡ ds₂) × (a₁ ≡ a₂)
one_salvage l ks ds a x y =
    let same = x ∙ sym y in
    (ap (λ (o : SalvageLeft). o.number) same, ap (λ (o : SalvageLeft). o.second) same, ap (λ (o : SalvageLeft). o.list) same, ap (λ (o : SalvageLeft). o.answer) same)

-- ---- what is not changed

-- a trace that is good, and salvaged is itself: it comes out so, with an empty list
unchanged : (m : List ℕ) {first n : ℕ} → trace_test m ≡ good first n → new_trace m ≡ m
    → (ks ds a : List ℕ) → answer_length ≤ length a → length m ≤ length ks → salvaging m ks ds a ≡ salvage_leaves 0 (in_front m ks) ds (answered 0 (some (length m)) a)
unchanged m e same ks ds a h r =
    let g : AllGood m _ _ = subst (Means m) e (test_told m) in
    let size : length (kept (bodies m)) ≡ block_count m = ap length (good_kept (bodies m) (good_blocks m e)) ∙ length_bodies m (block_count m) 0 in
    let unlisted = good_unlisted m e in
    done_left m ks ds a h (record {
      contents = g.contents;
      some = omega (arith, size, (contents_have m g.contents).some);
      second = omega (arith, r, ap length same);
      list = omega (arith, ap length unlisted);
    })
    ∙ (λ t. salvage_leaves 0 (in_front (same t) ks) (in_front (unlisted t) ds) (answered 0 (some (length (same t))) a))

-- a good trace comes out unchanged, with an empty list
pub good_left : (l : List ℕ) → Bytes l → {first n : ℕ} → trace_test l ≡ good first n
    → (ks ds a : List ℕ) → answer_length ≤ length a → length l ≤ length ks → salvaging l ks ds a ≡ salvage_leaves 0 (in_front l ks) ds (answered 0 (some (length l)) a)
good_left l c e = unchanged l e (good_unchanged l c e)

-- and what came out of a call, salvaged again, comes out as it is
pub again_left : (l ks ds a : List ℕ) → answer_length ≤ length a → (salvaging l ks ds a).number ≡ 0 → (m : List ℕ)
    → m ≡ take (value_in (salvaging l ks ds a).answer) (salvaging l ks ds a).second
    → (ks₂ ds₂ a₂ : List ℕ) → answer_length ≤ length a₂ → length m ≤ length ks₂ → salvaging m ks₂ ds₂ a₂ ≡ salvage_leaves 0 (in_front m ks₂) ds₂ (answered 0 (some (length m)) a₂)
again_left l ks ds a h n m e ks₂ ds₂ a₂ h₂ r =
    let s = done_means l ks ds a h n in
    let is : m ≡ new_trace l = e ∙ comes_out l ks ds a h s in
    let z = unchanged (new_trace l) (comes_out_good l s.contents s.some) (again_the_same l s.contents) ks₂ ds₂ a₂ h₂ (subst (λ (k : List ℕ). length k ≤ length ks₂) is r) in
    subst (λ (k : List ℕ). salvaging k ks₂ ds₂ a₂ ≡ salvage_leaves 0 (in_front k ks₂) ds₂ (answered 0 (some (length k)) a₂)) (sym is) z

-- whatever the room, since a done call had it
pub done_again_left : (l ks ds a : List ℕ) → IsDone (salvaging l ks ds a).number → (m : List ℕ)
    → m ≡ take (value_in (salvaging l ks ds a).answer) (salvaging l ks ds a).second
    → (ks₂ ds₂ a₂ : List ℕ) → AnswerRoom a₂ → length m ≤ length ks₂ → salvaging m ks₂ ds₂ a₂ ≡ salvage_leaves 0 (in_front m ks₂) ds₂ (answered 0 (some (length m)) a₂)
done_again_left l ks ds a n = again_left l ks ds a (done_has_room l ks ds a n) n
