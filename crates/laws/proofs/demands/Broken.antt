-- Request C-16, 'Say what is wrong with the image': the set of accepted images stays; and what is told of an image is so, at the place that is told, and nothing
-- is wrong before it.
use Rattle.basics.proofs.Prelude.{◌≡◌, refl, sym, ap, ◌∙◌, Bool, true, false, cond, not, ◌&&◌, false≢true, and-eq-true_iff, List, [], ◌∷◌, ◌⊎◌, inl, inr, ⊎_elim, ℕ, zero, suc, ◌+◌, ◌-◌, ◌*◌, ◌/◌, ◌%◌, ◌<◌, ◌≤◌, arith, eqb, leb, ltb, lit≤, length, get_or, eq-eqb, eqb-true, eqb-false, le-leb, leb-true, lt-ltb, le-ltb, ltb-true, ltb-false, part, same, test, equal_same, same_equal}
use Rattle.rules.specs.Ring.{capacity}
use Rattle.images.specs.Form.{Form, one, Field, word, copy, irr, count, pairs, numbers, has, size, place, form_length, contents_length, contents_of, read, Known, unknown, known, form_of}
use Rattle.images.specs.Image.{word_in, count_in, Fault, copy_differs, many_wait, bad_flag, unused_set, Finding, clear, found, Rule, copy_rule, count_rule, flag_rule, unused_rule, rules, search, finding, first_fault, accepted, wrong_length, wrong_contents, broken, body_test, test_as, image_test, every_byte, pair_byte, accepted_before}
use Rattle.laws.specs.Wrong.{flag_at, SetBehind, NoneBehind, Copied, Why, Broken}
use Rattle.images.proofs.laws.Layout.{has_all}
use Rattle.images.proofs.laws.Tests.{each_byte, Flags, accepted_has, accepted_if_has, known_length, test_known_lem, byte_read_lem, length_read, Told, search_told, decided, Holds, Unused, flags_hold, unused_hold, copy_holds, count_holds, count_read}

-- ---- the set of accepted images

every : (good : ℕ → ℕ → Bool) (l : List ℕ) → ((j : ℕ) → j < length l → good j (get_or l j 0) ≡ true) → every_byte good l ≡ true
every good [] h = refl
every good (x ∷ l) h = rw (h 0 (omega arith), every (λ i. good (suc i)) l (λ j k. h (suc j) (omega arith)))

of_every : (good : ℕ → ℕ → Bool) (l : List ℕ) → every_byte good l ≡ true → (j : ℕ) → j < length l → good j (get_or l j 0) ≡ true
of_every good [] e j h = absurd (omega arith)
of_every good (x ∷ l) e zero h = ((and-eq-true_iff (good 0 x) (every_byte (λ i. good (suc i)) l)).0 e).0
of_every good (x ∷ l) e (suc j) h = of_every (λ i. good (suc i)) l ((and-eq-true_iff (good 0 x) (every_byte (λ i. good (suc i)) l)).0 e).1 j (omega arith)

-- a byte of the pairs, by where it stands
module _ (n i b : ℕ) where
  pair_good : (i < 2 * n → i % 2 ≡ 1 → b ≤ 1) → (2 * n ≤ i → b ≡ 0) → pair_byte n i b ≡ true
  pair_good f u =
      test (ltb i (2 * n))
      (λ t. rw t (test (eqb (i % 2) 0) (λ e. rw e)
      (λ e. let odd : i % 2 ≡ 1 = omega (arith, eqb-false (i % 2) 0 e) in rw (e, le-leb b 1 (f (ltb-true i (2 * n) t) odd)))))
      (λ t. rw (t, eq-eqb b 0 (u (ltb-false i (2 * n) t))))

  pair_flag : pair_byte n i b ≡ true → i < 2 * n → i % 2 ≡ 1 → b ≤ 1
  pair_flag e h o =
      let no : eqb (i % 2) 0 ≡ false = rw o in
      leb-true b 1 (rw (lt-ltb i (2 * n) h, no) at e)

  pair_unused : pair_byte n i b ≡ true → 2 * n ≤ i → b ≡ 0
  pair_unused e h = eqb-true b 0 (rw (le-ltb i (2 * n) h) at e)

module _ (l : List ℕ) where
  -- of 259 bytes, which were the only ones: what is accepted was accepted
  pub accepted_was : length l ≡ form_length one → image_test l ≡ accepted → accepted_before l ≡ true
  unfolding accepted_before
  accepted_was s e =
      let a = accepted_has one l (sym (known_length one l s) ∙ e) in
      let n = count_in one l in
      rw (
        eq-eqb (length l) (form_length one) a.sized,
        equal_same (part 0 (contents_length one) l) (contents_of one) a.headed,
        eq-eqb (word_in one l copy) (word_in one l irr) (a.ruled.copied refl),
        le-leb n capacity a.ruled.counted,
      )
      (every (pair_byte n) (read one l pairs) (λ j h. pair_good n j (get_or (read one l pairs) j 0) (a.ruled.flagged j) (a.ruled.unused j)))

  -- and what was accepted is accepted
  pub was_accepted : accepted_before l ≡ true → image_test l ≡ accepted
  unfolding accepted_before
  was_accepted e =
      let n = count_in one l in
      let ps = read one l pairs in
      let last = leb n capacity && every_byte (pair_byte n) ps in
      let words = eqb (word_in one l copy) (word_in one l irr) in
      let head = same (part 0 (contents_length one) l) (contents_of one) in
      let a = (and-eq-true_iff (eqb (length l) (form_length one)) (head && (words && last))).0 e in
      let b = (and-eq-true_iff head (words && last)).0 a.1 in
      let c = (and-eq-true_iff words last).0 b.1 in
      let d = (and-eq-true_iff (leb n capacity) (every_byte (pair_byte n) ps)).0 c.1 in
      let good = of_every (pair_byte n) ps d.1 in
      let sized = eqb-true (length l) (form_length one) a.0 in
      known_length one l sized ∙ accepted_if_has one l (record {
        sized = sized;
        headed = same_equal (part 0 (contents_length one) l) (contents_of one) b.0;
        ruled = record {
          copied = λ h. eqb-true (word_in one l copy) (word_in one l irr) c.0;
          counted = leb-true n capacity d.0;
          flagged = each_byte (λ i x. i < 2 * n → i % 2 ≡ 1 → x ≤ 1) ps (λ i h o. lit≤ tt) (λ i k. pair_flag n i (get_or ps i 0) (good i k));
          unused = each_byte (λ i x. 2 * n ≤ i → x ≡ 0) ps (λ i h. refl) (λ i k. pair_unused n i (get_or ps i 0) (good i k));
          spare = λ h. absurd (false≢true h);
        };
      })

-- ---- what is told

module _ (f : Form) (l : List ℕ) (s : length l ≡ form_length f) (k : Fault) (a : ℕ) where
  -- every form has a count and pairs
  abbrev has_count : has f count ≡ true
  has_count = has_all f count refl

  abbrev has_pairs : has f pairs ≡ true
  has_pairs = has_all f pairs refl

  -- what a rule finds it finds in its field
  searched : (r : Rule) → finding f l r ≡ found k a → (has f r.field ≡ true) × (search r.fault r.bad (place f r.field) (read f l r.field) ≡ found k a)
  searched r e = test (has f r.field) (λ h. (h, rw h at e)) (λ h. absurd (none (rw h at e)))
    where
      apart : clear ≡ found k a → ◌≡◌ {A = ℕ} 0 1
      apart h = cc

      none : clear ≡ found k a → ⊥
      none h = omega (arith, apart h)

  paired : (i : ℕ) → i < size pairs → get_or (read f l pairs) i 0 ≡ get_or l (place f pairs + i) 0
  paired = byte_read_lem f l pairs

  -- the flags of all waiting pairs, with their places in the image
  pub flags_at : (n : ℕ) → n ≤ capacity → Flags n (read f l pairs) → (m : ℕ) → m < n → get_or l (flag_at f m) 0 ≤ 1
  flags_at n c g m h = rw (paired (2 * m + 1) (omega arith)) at (g (2 * m + 1) (omega arith) (omega arith))

  why_copy : Told copy_differs k (λ i b. eqb i 0 && not (eqb (word_in f l copy) (word_in f l irr))) (read f l (word copy)) (place f (word copy)) a → has f (word copy) ≡ true → Why f k l a
  why_copy t c =
      let both = (and-eq-true_iff (eqb t.index 0) (not (eqb (word_in f l copy) (word_in f l irr)))).0 t.is_bad in
      rw t.fault (record { has = c; place = omega (arith, t.place, eqb-true t.index 0 both.0); differs = λ e. false≢true (rw (eq-eqb (word_in f l copy) (word_in f l irr) e) at both.1) })

  module _ (copied : Copied f l) where
    why_count : Told many_wait k (λ i b. ltb capacity b) (read f l count) (place f count) a → Why f k l a
    why_count t =
        let first : t.index ≡ 0 = omega (arith, t.inside, length_read f l s count has_count) in
        let at : a ≡ place f count = omega (arith, t.place, first) in
        let byte : get_or (read f l count) t.index 0 ≡ get_or l a 0 = ap (λ i. get_or (read f l count) i 0) first ∙ count_read f l ∙ ap (λ i. get_or l i 0) (sym at) in
        rw t.fault (record { copied = copied; place = at; many = rw byte at (ltb-true capacity (get_or (read f l count) t.index 0) t.is_bad) })

    module _ (counted : count_in f l ≤ capacity) where
      why_flag : Told bad_flag k (λ i b. eqb (i % 2) 1 && (ltb i (2 * count_in f l) && ltb 1 b)) (read f l pairs) (place f pairs) a → Why f k l a
      why_flag t =
          let i = t.index in
          let n = count_in f l in
          let b = get_or (read f l pairs) i 0 in
          let odd = (and-eq-true_iff (eqb (i % 2) 1) (ltb i (2 * n) && ltb 1 b)).0 t.is_bad in
          let low = (and-eq-true_iff (ltb i (2 * n)) (ltb 1 b)).0 odd.1 in
          let is_odd = eqb-true (i % 2) 1 odd.0 in
          let waits = ltb-true i (2 * n) low.0 in
          let byte : b ≡ get_or l a 0 = paired i (omega (arith, waits, counted)) ∙ ap (λ j. get_or l j 0) (sym t.place) in
          rw t.fault (record {
            copied = copied;
            counted = counted;
            pair = i / 2;
            waits = omega (arith, waits);
            place = omega (arith, t.place, is_odd);
            over = rw byte at (ltb-true 1 b low.1);
            first = λ m h.
                let j = 2 * m + 1 in
                let before : j < i = omega (arith, is_odd) in
                let j-odd : j % 2 ≡ 1 = omega arith in
                let byte-j = paired j (omega (arith, waits, counted, before)) in
                rw byte-j at (ltb-false 1 (get_or (read f l pairs) j 0) (rw (eq-eqb (j % 2) 1 j-odd, lt-ltb j (2 * n) (omega (arith, waits, before))) at (t.first j before)));
          })

      why_unused : Flags (count_in f l) (read f l pairs) → unused_set ≡ k → SetBehind f l pairs a ⊎ (NoneBehind f l pairs × SetBehind f l numbers a) → Why f k l a
      why_unused g e t = rw (sym e) (record { copied = copied; counted = counted; flagged = flags_at (count_in f l) counted g; found = t })

  -- a byte of a field of 32 bytes, judged by the rule of unused ones
  set_behind : (p : Field) → has f p ≡ true → Told unused_set k (λ i b. leb (2 * count_in f l) i && ltb 0 b) (read f l p) (place f p) a → SetBehind f l p a
  set_behind p h t =
      let i = t.index in
      let n = count_in f l in
      let b = get_or (read f l p) i 0 in
      let both = (and-eq-true_iff (leb (2 * n) i) (ltb 0 b)).0 t.is_bad in
      let late = leb-true (2 * n) i both.0 in
      let room : i < size p = omega (arith, t.inside, length_read f l s p h) in
      let byte : b ≡ get_or l a 0 = byte_read_lem f l p i room ∙ ap (λ j. get_or l j 0) (sym t.place) in
      record {
        has = h;
        behind = omega (arith, t.place, late);
        inside = omega (arith, t.place, room);
        set = rw byte at (ltb-true 0 b both.1);
        first = λ c from before.
            let j = c - place f p in
            let at : place f p + j ≡ c = omega (arith, from) in
            let early : j < i = omega (arith, from, before, t.place) in
            let zero-there : get_or (read f l p) j 0 ≤ 0 = ltb-false 0 (get_or (read f l p) j 0) (rw (le-leb (2 * n) j (omega (arith, from))) at (t.first j early)) in
            omega (arith, zero-there, byte_read_lem f l p j (omega (arith, early, room)) ∙ ap (λ m. get_or l m 0) at);
      }

  pub none_behind : (p : Field) → Unused (count_in f l) (read f l p) → NoneBehind f l p
  none_behind p u c from inside =
      let j = c - place f p in
      let at : place f p + j ≡ c = omega (arith, from) in
      ap (λ m. get_or l m 0) (sym at) ∙ sym (byte_read_lem f l p j (omega (arith, inside, from))) ∙ u j (omega (arith, from))

  few : Holds f l count_rule → count_in f l ≤ capacity
  few h = rw (count_read f l) at (count_holds (read f l count) (omega (arith, length_read f l s count has_count)) (h has_count))

  why_first : first_fault f l (rules f l) ≡ found k a → Why f k l a
  why_first e =
      let n = count_in f l in
      let copied : Holds f l (copy_rule (word_in f l copy) (word_in f l irr)) → Copied f l = λ x h.
      copy_holds (word_in f l copy) (word_in f l irr) (read f l (word copy)) (omega (arith, length_read f l s (word copy) h)) (x h)
      in
      ⊎_elim (λ t. let u = searched (copy_rule (word_in f l copy) (word_in f l irr)) t in why_copy (search_told copy_differs k _ (place f (word copy)) a (read f l (word copy)) u.1) u.0) (λ x.
      ⊎_elim (λ t. why_count (copied x.0) (search_told many_wait k _ (place f count) a (read f l count) (searched count_rule t).1)) (λ y.
      ⊎_elim (λ t. why_flag (copied x.0) (few y.0) (search_told bad_flag k _ (place f pairs) a (read f l pairs) (searched (flag_rule n) t).1)) (λ z.
      let flagged = flags_hold n (read f l pairs) (z.0 has_pairs) in
      ⊎_elim (λ t. let u = search_told unused_set k _ (place f pairs) a (read f l pairs) (searched (unused_rule pairs n) t).1 in
      why_unused (copied x.0) (few y.0) flagged (sym u.fault) (inl (set_behind pairs has_pairs u))) (λ w.
      ⊎_elim (λ t. let g = searched (unused_rule numbers n) t in
      let u = search_told unused_set k _ (place f numbers) a (read f l numbers) g.1 in
      why_unused (copied x.0) (few y.0) flagged (sym u.fault) (inr (none_behind pairs (unused_hold n (read f l pairs) pairs (w.0 has_pairs)), set_behind numbers g.0 u)))
      (λ v. absurd v.1)
      w.1) z.1) y.1) x.1) (decided f l k a (rules f l) e)

-- 8 to 11, and the place: what is told of an image is so
pub told_is_so : (l : List ℕ) (k : Fault) (a : ℕ) → image_test l ≡ broken k a → Broken l k a
told_is_so l k a e = go (form_of (length l)) refl
  where
    found_broken : (s h : Bool) (x : Finding) → cond s (cond h (body_test x) wrong_contents) wrong_length ≡ broken k a → (s ≡ true) × (h ≡ true) × (x ≡ found k a)
    found_broken true true clear e = (refl, refl, cc)
    found_broken true true (found k₁ a₁) e = (refl, refl, cc)
    found_broken true false x e = (refl, cc, cc)
    found_broken false h x e = (cc, cc, cc)

    in_form : (f : Form) → test_as f l ≡ broken k a → Broken l k a
    in_form f e =
        let t = found_broken (eqb (length l) (form_length f)) (same (part 0 (contents_length f) l) (contents_of f)) (first_fault f l (rules f l)) e in
        let sized = eqb-true (length l) (form_length f) t.0 in
        record { form = f; sized = sized; headed = same_equal (part 0 (contents_length f) l) (contents_of f) t.1; why = why_first f l sized k a t.2 }

    apart : wrong_length ≡ broken k a → ◌≡◌ {A = ℕ} 0 1
    apart h = cc

    go : (m : Known) → form_of (length l) ≡ m → Broken l k a
    go unknown h = absurd (omega (arith, apart (sym (test_known_lem l h) ∙ e)))
    go (known f) h = in_form f (sym (test_known_lem l h) ∙ e)
