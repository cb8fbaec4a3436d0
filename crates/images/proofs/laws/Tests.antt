-- The tests on an image: in their order, what each says where it finds nothing, and the place where it finds something.
use Rattle.basics.proofs.Prelude.{◌≡◌, refl, ap, ◌∙◌, Bool, true, false, cond, not, ◌&&◌, List, [], ◌∷◌, ◌⊎◌, inl, inr, ℕ, zero, suc, ◌+◌, ◌*◌, ◌%◌, ◌<◌, ◌≤◌, add-zero, arith, eqb, leb, ltb, lit≤, length, drop, get_or, List·getD-eq-default, get_or-drop, get_or-take, eq-eqb, eqb-true, ltb-false, lt-ltb, le-ltb, le-leb, leb-true, ltb-true, not-false, part, same, test, Each, length_part, equal_same, differ_same, same_equal}
use Rattle.rules.specs.Ring.{capacity}
use Rattle.images.specs.Form.{Form, one, two, numbered, Field, word, copy, irr, count, pairs, numbers, has, size, place, form_length, contents_length, contents_of, read, Known, known, form_among, form_of}
use Rattle.images.specs.Image.{word_in, count_in, Fault, Finding, clear, found, Rule, copy_rule, count_rule, flag_rule, unused_rule, rules, search, finding, or_else, first_fault, accepted, wrong_length, wrong_contents, body_test, test_as, test_known, image_test}
use Rattle.images.proofs.laws.Layout.{has_all, field_fits}

-- ---- the first bad byte

-- no byte is bad, each judged with its index
abbrev pub Clean : (ℕ → ℕ → Bool) → List ℕ → Type 0
Clean bad l = (j : ℕ) → j < length l → bad j (get_or l j 0) ≡ false

pub clean_search : (k : Fault) (bad : ℕ → ℕ → Bool) (a : ℕ) (l : List ℕ) → Clean bad l → search k bad a l ≡ clear
clean_search k bad a [] c = refl
clean_search k bad a (x ∷ l) c = rw (c 0 (omega arith)) (clean_search k (λ i. bad (suc i)) (suc a) l (λ j h. c (suc j) (omega arith)))

pub search_clean : (k : Fault) (bad : ℕ → ℕ → Bool) (a : ℕ) (l : List ℕ) → search k bad a l ≡ clear → Clean bad l
search_clean k bad a [] e j h = absurd (omega arith)
search_clean k bad a (x ∷ l) e zero h = test (bad 0 x) (λ t. cc (rw t at e)) (λ t. t)
search_clean k bad a (x ∷ l) e (suc j) h =
    test (bad 0 x) (λ t. cc (rw t at e)) (λ t. search_clean k (λ i. bad (suc i)) (suc a) l (rw t at e) j (omega arith))

-- the place that is told is that of the first bad byte
pub search_first : (k : Fault) (bad : ℕ → ℕ → Bool) (a : ℕ) (l : List ℕ) (j : ℕ) → j < length l → ((m : ℕ) → m < j → bad m (get_or l m 0) ≡ false)
    → bad j (get_or l j 0) ≡ true → search k bad a l ≡ found k (a + j)
search_first k bad a [] j h c e = absurd (omega arith)
search_first k bad a (x ∷ l) zero h c e = rw (e, add-zero)
search_first k bad a (x ∷ l) (suc j) h c e =
    let s : suc a + j ≡ a + suc j = omega arith in
    rw (c 0 (omega arith)) (search_first k (λ i. bad (suc i)) (suc a) l j (omega arith) (λ m g. c (suc m) (omega arith)) e ∙ ap (found k) s)

-- and the other way round: what stands at a place that is told
pub record Told (k k₀ : Fault) (bad : ℕ → ℕ → Bool) (l : List ℕ) (a n : ℕ) : Type 0 where
  pub fault : k₀ ≡ k
  pub index : ℕ
  pub inside : index < length l
  pub place : n ≡ a + index
  pub is_bad : bad index (get_or l index 0) ≡ true
  pub first : (m : ℕ) → m < index → bad m (get_or l m 0) ≡ false

pub search_told : (k k₀ : Fault) (bad : ℕ → ℕ → Bool) (a n : ℕ) (l : List ℕ) → search k bad a l ≡ found k₀ n → Told k k₀ bad l a n
search_told k k₀ bad a n [] e = absurd (let z : ◌≡◌ {A = ℕ} 0 1 = cc in omega arith)
search_told k k₀ bad a n (x ∷ l) e =
    test (bad 0 x)
    (λ t. let w : found k a ≡ found k₀ n = rw t at e in
    record { fault = cc; index = 0; inside = omega arith; place = (let p : n ≡ a = cc in omega arith); is_bad = t; first = λ m h. absurd (omega arith) })
    (λ t. let r = search_told k k₀ (λ i. bad (suc i)) (suc a) n l (rw t at e) in
    record {
      fault = r.fault;
      index = suc r.index;
      inside = omega (arith, r.inside);
      place = omega (arith, r.place);
      is_bad = r.is_bad;
      first = elim [ zero ↦ λ h. t | suc m ↦ λ h. r.first m (omega arith) ];
    })

-- ---- the rules in their order

-- a rule that the form has finds nothing
abbrev pub Holds : Form → List ℕ → Rule → Type 0
Holds f l r = has f r.field ≡ true → Clean r.bad (read f l r.field)

both_clear : (s t : Finding) → or_else s t ≡ clear → (s ≡ clear) × (t ≡ clear)
both_clear clear t e = (refl, e)
both_clear (found k a) t e = (e, cc)

module _ (f : Form) (l : List ℕ) where
  pub holds : (r : Rule) → finding f l r ≡ clear → Holds f l r
  holds r e h = search_clean r.fault r.bad (place f r.field) (read f l r.field) (rw h at e)

  pub finds_nothing : (r : Rule) → Holds f l r → finding f l r ≡ clear
  finds_nothing r c = test (has f r.field) (λ h. rw h (clean_search r.fault r.bad (place f r.field) (read f l r.field) (c h))) (λ h. rw h)

  all_hold : (rs : List Rule) → first_fault f l rs ≡ clear → Each (Holds f l) rs
  all_hold [] e = tt
  all_hold (r ∷ rs) e = let both = both_clear (finding f l r) (first_fault f l rs) e in (holds r both.0, all_hold rs both.1)

  no_fault : (rs : List Rule) → Each (Holds f l) rs → first_fault f l rs ≡ clear
  no_fault [] h = refl
  no_fault (r ∷ rs) h = (λ i. or_else (finds_nothing r h.0 i) (no_fault rs h.1 i))

-- what is told is what one rule finds, and those before it hold
abbrev pub Decided : Form → List ℕ → Finding → List Rule → Type 0
Decided f l x [] = ⊥
Decided f l x (r ∷ rs) = (finding f l r ≡ x) ⊎ (Holds f l r × Decided f l x rs)

pub decided : (f : Form) (l : List ℕ) (k : Fault) (a : ℕ) (rs : List Rule) → first_fault f l rs ≡ found k a → Decided f l (found k a) rs
decided f l k a [] e = let z : ◌≡◌ {A = ℕ} 0 1 = cc in omega arith
decided f l k a (r ∷ rs) e = go (finding f l r) refl (decided f l k a rs)
  where
    go : (t : Finding) → finding f l r ≡ t → (first_fault f l rs ≡ found k a → Decided f l (found k a) rs) → Decided f l (found k a) (r ∷ rs)
    go clear h next = inr (holds f l r h, next (rw h at e))
    go (found k₁ a₁) h next = inl (h ∙ (rw h at e))

-- ---- each rule as a fact, both ways

pub length_read : (f : Form) (l : List ℕ) → length l ≡ form_length f → (p : Field) → has f p ≡ true → length (read f l p) ≡ size p
length_read f l e p h = length_part l (place f p) (size p) (omega (arith, field_fits f p h))

-- a byte of a field is one of the image; the waiting count is the byte of its field
pub byte_read_lem : (f : Form) (l : List ℕ) (p : Field) (i : ℕ) → i < size p → get_or (read f l p) i 0 ≡ get_or l (place f p + i) 0
byte_read_lem f l p i h = get_or-take (size p) (drop (place f p) l) i 0 h ∙ get_or-drop (place f p) l i 0

pub count_read : (f : Form) (l : List ℕ) → get_or (read f l count) 0 0 ≡ count_in f l
count_read f l = byte_read_lem f l count 0 (omega arith) ∙ ap (λ n. get_or l n 0) (add-zero (place f count))

-- of n waiting pairs the flags are 0 or 1; behind n things of two bytes each all is zero
abbrev pub Flags : ℕ → List ℕ → Type 0
Flags n l = (i : ℕ) → i < 2 * n → i % 2 ≡ 1 → get_or l i 0 ≤ 1

abbrev pub Unused : ℕ → List ℕ → Type 0
Unused n l = (i : ℕ) → 2 * n ≤ i → get_or l i 0 ≡ 0

-- a fact of every byte is one of those that are there
pub each_byte : (P : ℕ → ℕ → Type 0) (l : List ℕ) → ((i : ℕ) → P i 0) → ((i : ℕ) → i < length l → P i (get_or l i 0)) → (i : ℕ) → P i (get_or l i 0)
each_byte P l z h i = test (ltb i (length l)) (λ t. h i (ltb-true i (length l) t)) (λ t. rw (List·getD-eq-default l 0 {n = i} (ltb-false i (length l) t)) (z i))

unless : (s t : Bool) → (s ≡ true → t ≡ false) → s && t ≡ false
unless true t h = h refl
unless false t h = refl

module _ (n : ℕ) (l : List ℕ) where
  pub flags_hold : Clean (flag_rule n).bad l → Flags n l
  flags_hold c = each_byte (λ i x. i < 2 * n → i % 2 ≡ 1 → x ≤ 1) l (λ i h o. lit≤ tt)
      (λ i k h o. ltb-false 1 (get_or l i 0) (rw (eq-eqb (i % 2) 1 o, lt-ltb i (2 * n) h) at (c i k)))

  pub hold_flags : Flags n l → Clean (flag_rule n).bad l
  hold_flags g j h =
      unless (eqb (j % 2) 1) (ltb j (2 * n) && ltb 1 (get_or l j 0)) (λ o. unless (ltb j (2 * n)) (ltb 1 (get_or l j 0)) (λ t.
      le-ltb 1 (get_or l j 0) (g j (ltb-true j (2 * n) t) (eqb-true (j % 2) 1 o))))

  module _ (p : Field) where
    pub unused_hold : Clean (unused_rule p n).bad l → Unused n l
    unused_hold c = each_byte (λ i x. 2 * n ≤ i → x ≡ 0) l (λ i h. refl)
        (λ i k h. omega (arith, ltb-false 0 (get_or l i 0) (rw (le-leb (2 * n) i h) at (c i k))))

    pub hold_unused : Unused n l → Clean (unused_rule p n).bad l
    hold_unused z j h = unless (leb (2 * n) j) (ltb 0 (get_or l j 0)) (λ t. le-ltb 0 (get_or l j 0) (omega (arith, z j (leb-true (2 * n) j t))))

pub copy_holds : (x y : ℕ) (l : List ℕ) → 0 < length l → Clean (copy_rule x y).bad l → x ≡ y
copy_holds x y l h c = eqb-true x y (not-false (eqb x y) (c 0 h))

pub hold_copy : (x y : ℕ) (l : List ℕ) → x ≡ y → Clean (copy_rule x y).bad l
hold_copy x y l e j h = unless (eqb j 0) (not (eqb x y)) (λ t. rw (eq-eqb x y e))

pub count_holds : (l : List ℕ) → 0 < length l → Clean count_rule.bad l → get_or l 0 0 ≤ capacity
count_holds l h c = ltb-false capacity (get_or l 0 0) (c 0 h)

pub hold_count : (l : List ℕ) → length l ≡ 1 → get_or l 0 0 ≤ capacity → Clean count_rule.bad l
hold_count l e h zero k = le-ltb capacity (get_or l 0 0) h
hold_count l e h (suc j) k = absurd (omega arith)

-- ---- what an accepted image has

-- each rule of the bodies as a fact
pub record Ruled (f : Form) (l : List ℕ) : Type 0 where
  pub copied : has f (word copy) ≡ true → word_in f l copy ≡ word_in f l irr
  pub counted : count_in f l ≤ capacity
  pub flagged : Flags (count_in f l) (read f l pairs)
  pub unused : Unused (count_in f l) (read f l pairs)
  pub spare : has f numbers ≡ true → Unused (count_in f l) (read f l numbers)

pub record Accepted (f : Form) (l : List ℕ) : Type 0 where
  pub sized : length l ≡ form_length f
  pub headed : part 0 (contents_length f) l ≡ contents_of f
  pub ruled : Ruled f l

module _ (f : Form) (l : List ℕ) (e : length l ≡ form_length f) where
  pub clear_ruled : first_fault f l (rules f l) ≡ clear → Ruled f l
  clear_ruled c =
      let all = all_hold f l (rules f l) c in
      let n = has_all f count refl in
      let p = has_all f pairs refl in
      record {
        copied = λ k. copy_holds (word_in f l copy) (word_in f l irr) (read f l (word copy)) (omega (arith, length_read f l e (word copy) k)) (all.0 k);
        counted = rw (count_read f l) at (count_holds (read f l count) (omega (arith, length_read f l e count n)) (all.1.0 n));
        flagged = flags_hold (count_in f l) (read f l pairs) (all.1.1.0 p);
        unused = unused_hold (count_in f l) (read f l pairs) pairs (all.1.1.1.0 p);
        spare = λ k. unused_hold (count_in f l) (read f l numbers) numbers (all.1.1.1.1.0 k);
      }

  pub ruled_clear : Ruled f l → first_fault f l (rules f l) ≡ clear
  ruled_clear r = no_fault f l (rules f l) (
    λ k. hold_copy (word_in f l copy) (word_in f l irr) (read f l (word copy)) (r.copied k),
    (
      λ k. hold_count (read f l count) (length_read f l e count k) (rw (count_read f l) r.counted),
      (
        λ k. hold_flags (count_in f l) (read f l pairs) r.flagged,
        (λ k. hold_unused (count_in f l) (read f l pairs) pairs r.unused, (λ k. hold_unused (count_in f l) (read f l numbers) numbers (r.spare k), tt)),
      ),
    ),
  )

  pub test_contents : (part 0 (contents_length f) l ≡ contents_of f → ⊥) → test_as f l ≡ wrong_contents
  test_contents h = rw (eq-eqb (length l) (form_length f) e, differ_same (part 0 (contents_length f) l) (contents_of f) h)

  pub test_body : part 0 (contents_length f) l ≡ contents_of f → test_as f l ≡ body_test (first_fault f l (rules f l))
  test_body h = rw (eq-eqb (length l) (form_length f) e, equal_same (part 0 (contents_length f) l) (contents_of f) h)

module _ (f : Form) (l : List ℕ) where
  pub accepted_has : test_as f l ≡ accepted → Accepted f l
  accepted_has e =
      let all = all_well (eqb (length l) (form_length f)) (same (part 0 (contents_length f) l) (contents_of f)) (first_fault f l (rules f l)) e in
      let size = eqb-true (length l) (form_length f) all.0 in
      record { sized = size; headed = same_equal (part 0 (contents_length f) l) (contents_of f) all.1; ruled = clear_ruled f l size all.2 }
    where
      all_well : (a b : Bool) (x : Finding) → cond a (cond b (body_test x) wrong_contents) wrong_length ≡ accepted → (a ≡ true) × (b ≡ true) × (x ≡ clear)
      all_well true true clear e = (refl, refl, refl)
      all_well true true (found k n) e = (refl, refl, cc)
      all_well true false x e = (refl, cc, cc)
      all_well false b x e = (cc, cc, cc)

  pub accepted_if_has : Accepted f l → test_as f l ≡ accepted
  accepted_if_has a = test_body f l a.sized a.headed ∙ ap body_test (ruled_clear f l a.sized a.ruled)

-- ---- the form that a length decides

pub form_known_lem : (fs : List Form) (n : ℕ) (f : Form) → form_among fs n ≡ known f → n ≡ form_length f
form_known_lem [] n f e = absurd (let z : ◌≡◌ {A = ℕ} 0 1 = cc in omega arith)
form_known_lem (g ∷ fs) n f e =
    test (eqb n (form_length g))
    (λ t. let h : known g ≡ known f = rw t at e in
    let s : g ≡ f = cc in
    eqb-true n (form_length g) t ∙ ap form_length s)
    (λ t. form_known_lem fs n f (rw t at e))

pub test_known_lem : (l : List ℕ) {k : Known} → form_of (length l) ≡ k → image_test l ≡ test_known k l
unfolding image_test
test_known_lem l e = ap (λ k. test_known k l) e

-- a form is the one of its length
pub form_found : (f : Form) → form_of (form_length f) ≡ known f
form_found one = refl
form_found two = refl
form_found numbered = refl

pub known_length : (f : Form) (l : List ℕ) → length l ≡ form_length f → image_test l ≡ test_as f l
known_length f l e = test_known_lem l (ap form_of e ∙ form_found f)
