-- Fields that stand one after another, and the image that they make: read, known by what is read, and written in part. Stated once over the form and the field.
use Rattle.basics.proofs.Prelude.{◌≡◌, refl, sym, ap, ◌∙◌, subst, Bool, true, false, not, ◌&&◌, ◌||◌, false≢true, and-eq-true_iff, or-true, or_assoc, ◌⊎◌, inl, inr, ⊎_elim, List, [], ◌∷◌, ◌++◌, append_assoc, append-nil, ℕ, ◌+◌, ◌≤◌, add-zero, arith, length, take, drop, length-append, length-drop, take-append-drop, drop_of_length-le, take_at, drop_at, drop-drop, take-append-add, drop-append-add, take-append-le, drop-append-le, not-true, put_mid, part, test, part_then, put_there, put_before, put_behind, length_put}
use Rattle.rules.specs.Core.{Plain, Plain-discrete, htmsi_en, edge, pol, auto0, auto1}
use Rattle.images.specs.Form.{Word, mask, irr, isr, copy, stored, Word-discrete, Field, word, routes, vectors, count, drops, pairs, next, numbers, Field-discrete, size, decided, is, listed, total, before, from, laid, Form, one, two, numbered, fields, has, contents_length, form_length, place, contents_of, read, image}

-- ---- fields

pub is_sound : (p q : Field) → is p q ≡ true → p ≡ q
is_sound p q = go (Field-discrete (Word-discrete Plain-discrete) p q)
  where
    go : (d : Dec (p ≡ q)) → decided d ≡ true → p ≡ q
    go (yes e) t = e
    go (no n) t = absurd (false≢true t)

pub is_self : (p : Field) → is p p ≡ true
is_self p = go (Field-discrete (Word-discrete Plain-discrete) p p)
  where
    go : (d : Dec (p ≡ p)) → decided d ≡ true
    go (yes e) = refl
    go (no n) = absurd (n refl)

-- no field is listed twice
abbrev pub distinct : List Field → Bool
distinct [] = true
distinct (p ∷ ps) = not (listed p ps) && distinct ps

-- each field has the bytes that it takes
abbrev pub Sized : (Field → List ℕ) → Type 0
Sized b = (p : Field) → length (b p) ≡ size p

pub listed_append : (q : Field) (ps rs : List Field) → listed q (ps ++ rs) ≡ (listed q ps || listed q rs)
listed_append q [] rs = refl
listed_append q (p ∷ ps) rs = ap (λ t. is q p || t) (listed_append q ps rs) ∙ sym (or_assoc (is q p) (listed q ps) (listed q rs))

-- what is listed in front is not listed again behind
apart : (q : Field) (ps rs : List Field) → distinct (ps ++ rs) ≡ true → listed q ps ≡ true → listed q rs ≡ false
apart q [] rs d h = absurd (false≢true h)
apart q (p ∷ ps) rs d h =
    let both = (and-eq-true_iff (not (listed p (ps ++ rs))) (distinct (ps ++ rs))).0 d in
    test (is q p)
    (λ t. neither (listed q ps) (listed q rs) (sym (listed_append q ps rs) ∙ ap (λ x. listed x (ps ++ rs)) (is_sound q p t) ∙ not-true (listed p (ps ++ rs)) both.0))
    (λ t. apart q ps rs both.1 (rw t at h))
  where
    neither : (s t : Bool) → (s || t) ≡ false → t ≡ false
    neither true t e = absurd (false≢true (sym e))
    neither false t e = e

distinct_rest : (ps rs : List Field) → distinct (ps ++ rs) ≡ true → distinct rs ≡ true
distinct_rest [] rs d = d
distinct_rest (p ∷ ps) rs d = distinct_rest ps rs ((and-eq-true_iff (not (listed p (ps ++ rs))) (distinct (ps ++ rs))).0 d).1

before_from : (p : Field) (ps : List Field) → before p ps ++ from p ps ≡ ps
before_from p [] = refl
before_from p (q ∷ ps) = test (is p q) (λ t. rw t) (λ t. rw t (ap (λ rs. q ∷ rs) (before_from p ps)))

-- ---- fields one after another

pub laid_cons : (b : Field → List ℕ) (p : Field) (ps : List Field) → laid b (p ∷ ps) ≡ b p ++ laid b ps
laid_cons b p [] = sym (append-nil (b p))
laid_cons b p (q ∷ ps) = refl

laid_append : (b : Field → List ℕ) (ps rs : List Field) → laid b (ps ++ rs) ≡ laid b ps ++ laid b rs
laid_append b [] rs = refl
laid_append b (p ∷ ps) rs =
    laid_cons b p (ps ++ rs) ∙ ap (λ m. b p ++ m) (laid_append b ps rs) ∙ sym (append_assoc (b p) (laid b ps) (laid b rs))
    ∙ ap (λ m. m ++ laid b rs) (sym (laid_cons b p ps))

laid_agree : (b c : Field → List ℕ) (ps : List Field) → ((p : Field) → listed p ps ≡ true → b p ≡ c p) → laid b ps ≡ laid c ps
laid_agree b c [] h = refl
laid_agree b c (p ∷ ps) h = laid_cons b p ps ∙ (λ i. h p (rw is_self) i ++ laid_agree b c ps (λ q e. h q (rw (e, or-true))) i) ∙ sym (laid_cons c p ps)

pub length_laid : (b : Field → List ℕ) → Sized b → (ps : List Field) → length (laid b ps) ≡ total ps
length_laid b s [] = refl
length_laid b s (p ∷ ps) = ap length (laid_cons b p ps) ∙ length-append (b p) (laid b ps) ∙ (λ i. s p i + length_laid b s ps i)

-- a field stands behind those before it
field_stands : (b : Field → List ℕ) → Sized b → (p : Field) (ps : List Field) → listed p ps ≡ true → part (total (before p ps)) (size p) (laid b ps) ≡ b p
field_stands b s p [] h = absurd (false≢true h)
field_stands b s p (q ∷ ps) h =
    ap (part (total (before p (q ∷ ps))) (size p)) (laid_cons b q ps)
    ∙ test (is p q)
    (λ t. rw t (ap (λ x. take (size p) (b x ++ laid b ps)) (sym (is_sound p q t)) ∙ take_at (b p) (laid b ps) (size p) (s p)))
    (λ t. rw (t, ← drop-drop (total (before p ps)) (size q), drop_at (b q) (laid b ps) (size q) (s q)) (field_stands b s p ps (rw t at h)))

-- bytes are known by their fields
known_by_fields : (c : Field → List ℕ) (l : List ℕ) (ps : List Field) (a : ℕ) → distinct ps ≡ true → length l ≡ a + total ps
    → ((p : Field) → listed p ps ≡ true → c p ≡ part (a + total (before p ps)) (size p) l) → laid c ps ≡ drop a l
known_by_fields c l [] a d e h = let all : length l ≤ a = omega arith in sym (drop_of_length-le l all)
known_by_fields c l (q ∷ ps) a d e h =
    let both = (and-eq-true_iff (not (listed q ps)) (distinct ps)).0 d in
    let other : (p : Field) → listed p ps ≡ true → is p q ≡ false = λ p k.
    test (is p q) (λ t. absurd (false≢true (sym (not-true (listed q ps) both.0) ∙ ap (λ x. listed x ps) (sym (is_sound p q t)) ∙ k))) (λ t. t)
    in
    let more : (n : ℕ) → a + size q + n ≡ a + (size q + n) = λ n. omega arith in
    let tail = known_by_fields c l ps (a + size q) both.1 (omega arith) (λ p k. rw more (rw (other p k) at (h p (rw (k, or-true))))) in
    let head : c q ≡ part a (size q) l = rw (is_self, add-zero) at (h q (rw is_self)) in
    laid_cons c q ps ∙ (λ i. head i ++ tail i) ∙ part_then l a (size q)

-- k of the bytes v, from i on, are replaced where v stands behind n others
put_inside : (u v w ys : List ℕ) (n i k : ℕ) → length u ≡ n → i + k ≤ length v → put_mid (n + i) k (u ++ (v ++ w)) ys ≡ u ++ (put_mid i k v ys ++ w)
put_inside u v w ys n i k e h =
    let front : take (length u + i) (u ++ (v ++ w)) ≡ u ++ take i v = take-append-add u (v ++ w) i ∙ ap (λ m. u ++ m) (take-append-le i v w (omega arith)) in
    let back : drop (length u + i) (u ++ (v ++ w)) ≡ drop i v ++ w = drop-append-add u (v ++ w) i ∙ drop-append-le i v w (omega arith) in
    let fits : k ≤ length (drop i v) = simp length-drop (omega arith) in
    rw (← e) ((λ j. front j ++ (ys ++ drop k (back j))) ∙ ap (λ m. (u ++ take i v) ++ (ys ++ m)) (drop-append-le k (drop i v) w fits) ∙ simp append_assoc)

-- a run of fields, written in part: the bytes of c, if b differs from c in that run alone
run_written : (b c : Field → List ℕ) → Sized b → (ps rs ts : List Field) → distinct (ps ++ (rs ++ ts)) ≡ true
    → ((q : Field) → listed q (ps ++ (rs ++ ts)) ≡ true → listed q rs ≡ false → b q ≡ c q) → (u : List ℕ) (a i k : ℕ) (ys : List ℕ) → length u ≡ a → i + k ≤ total rs → laid c rs ≡ put_mid i k (laid b rs) ys
    → put_mid (a + total ps + i) k (u ++ laid b (ps ++ (rs ++ ts))) ys ≡ u ++ laid c (ps ++ (rs ++ ts))
run_written b c s ps rs ts d same u a i k ys ue h e =
    let three : (x : Field → List ℕ) → u ++ laid x (ps ++ (rs ++ ts)) ≡ (u ++ laid x ps) ++ (laid x rs ++ laid x ts) = λ x.
    rw (laid_append, laid_append x rs) (sym (append_assoc u (laid x ps) (laid x rs ++ laid x ts)))
    in
    let front = laid_agree b c ps (λ q t. same q (rw (listed_append, t)) (neither q (apart q ps (rs ++ ts) d t))) in
    let back = laid_agree b c ts (λ q t. same q (rw (listed_append, listed_append q rs, t, or-true, or-true)) (only q t)) in
    let ahead : length (u ++ laid b ps) ≡ a + total ps = length-append u (laid b ps) ∙ (λ j. ue j + length_laid b s ps j) in
    ap (λ m. put_mid (a + total ps + i) k m ys) (three b)
    ∙ put_inside (u ++ laid b ps) (laid b rs) (laid b ts) ys (a + total ps) i k ahead (omega (arith, length_laid b s rs))
    ∙ (λ j. (u ++ front j) ++ (sym e j ++ back j)) ∙ sym (three c)
  where
    neither : (q : Field) → listed q (rs ++ ts) ≡ false → listed q rs ≡ false
    neither q t = test (listed q rs) (λ y. absurd (false≢true (sym t ∙ listed_append q rs ts ∙ rw y))) (λ n. n)

    only : (q : Field) → listed q ts ≡ true → listed q rs ≡ false
    only q t = test (listed q rs) (λ y. absurd (false≢true (sym (apart q rs ts (distinct_rest ps (rs ++ ts) d) y) ∙ t))) (λ n. n)

-- ---- an image

-- of each form by computing
distinct_fields : (f : Form) → distinct (fields f) ≡ true
distinct_fields one = refl
distinct_fields two = refl
distinct_fields numbered = refl

pub length_contents : (f : Form) → length (contents_of f) ≡ contents_length f
length_contents one = refl
length_contents two = refl
length_contents numbered = refl

-- a fact of every word, and of every field, from one for each
pub by_word : (P : Word → Type 0) → P mask → P irr → P isr → P copy → ((p : Plain) → P (stored p)) → (w : Word) → P w
by_word P m r s c ps mask = m
by_word P m r s c ps irr = r
by_word P m r s c ps isr = s
by_word P m r s c ps copy = c
by_word P m r s c ps (stored p) = ps p

pub by_plain : (P : Plain → Type 0) → P htmsi_en × P edge × P pol × P auto0 × P auto1 → (p : Plain) → P p
by_plain P ps htmsi_en = ps.0
by_plain P ps edge = ps.1
by_plain P ps pol = ps.2
by_plain P ps auto0 = ps.3
by_plain P ps auto1 = ps.4

pub by_field : (P : Field → Type 0) → ((w : Word) → P (word w)) → P routes → P vectors → P count × P drops × P pairs → P next × P numbers → (q : Field) → P q
by_field P ws rs vs ring ns (word w) = ws w
by_field P ws rs vs ring ns routes = rs
by_field P ws rs vs ring ns vectors = vs
by_field P ws rs vs ring ns count = ring.0
by_field P ws rs vs ring ns drops = ring.1
by_field P ws rs vs ring ns pairs = ring.2
by_field P ws rs vs ring ns next = ns.0
by_field P ws rs vs ring ns numbers = ns.1

pub never : {A : Type 0} → true ≡ false → A
never e = absurd (false≢true (sym e))

-- a field that every form has: all but the copy of IRR and the numbers
abbrev pub always : Field → Bool
always p = not (is p (word copy)) && (not (is p next) && not (is p numbers))

pub has_all : (f : Form) (p : Field) → always p ≡ true → has f p ≡ true
has_all one = by_field _ (by_word _ (λ h. refl) (λ h. refl) (λ h. refl) (λ h. never (sym h)) (by_plain _ (λ h. refl, λ h. refl, λ h. refl, λ h. refl, λ h. refl)))
    (λ h. refl) (λ h. refl) (λ h. refl, λ h. refl, λ h. refl) (λ h. never (sym h), λ h. never (sym h))
has_all two = by_field _ (by_word _ (λ h. refl) (λ h. refl) (λ h. refl) (λ h. never (sym h)) (by_plain _ (λ h. refl, λ h. refl, λ h. refl, λ h. refl, λ h. refl)))
    (λ h. refl) (λ h. refl) (λ h. refl, λ h. refl, λ h. refl) (λ h. never (sym h), λ h. never (sym h))
has_all numbered = by_field _ (by_word _ (λ h. refl) (λ h. refl) (λ h. refl) (λ h. never (sym h)) (by_plain _ (λ h. refl, λ h. refl, λ h. refl, λ h. refl, λ h. refl)))
    (λ h. refl) (λ h. refl) (λ h. refl, λ h. refl, λ h. refl) (λ h. never (sym h), λ h. never (sym h))

pub headed_image : (f : Form) (b : Field → List ℕ) → part 0 (contents_length f) (image f b) ≡ contents_of f
unfolding image
headed_image f b = take_at (contents_of f) (laid b (fields f)) (contents_length f) (length_contents f)

-- an image is known by its length, its contents and its fields
pub image_known : (f : Form) (l : List ℕ) (c : Field → List ℕ) → length l ≡ form_length f → part 0 (contents_length f) l ≡ contents_of f
    → ((p : Field) → has f p ≡ true → c p ≡ read f l p) → image f c ≡ l
unfolding image
image_known f l c e h r =
    (λ i. sym h i ++ known_by_fields c l (fields f) (contents_length f) (distinct_fields f) e r i) ∙ take-append-drop (contents_length f) l

-- a field of a form ends within its image
total_append : (ps rs : List Field) → total (ps ++ rs) ≡ total ps + total rs
total_append [] rs = omega arith
total_append (p ∷ ps) rs = omega (arith, total_append ps rs)

pub from_starts : (p : Field) (ps : List Field) → listed p ps ≡ true → from p ps ≡ p ∷ drop 1 (from p ps)
from_starts p [] h = absurd (false≢true h)
from_starts p (q ∷ ps) h = test (is p q) (λ t. rw t (ap (λ x. x ∷ ps) (sym (is_sound p q t)))) (λ t. rw t (from_starts p ps (rw t at h)))

pub field_fits : (f : Form) (p : Field) → has f p ≡ true → place f p + size p ≤ form_length f
field_fits f p h =
    let ps = fields f in
    omega (arith, total_append (before p ps) (from p ps), ap total (before_from p ps), ap total (from_starts p ps h))

module _ (f : Form) (b : Field → List ℕ) (s : Sized b) where
  pub length_image : length (image f b) ≡ form_length f
  unfolding image
  length_image = length-append (contents_of f) (laid b (fields f)) ∙ (λ i. length_contents f i + length_laid b s (fields f) i)

  -- a field of an image
  pub read_image : (p : Field) → has f p ≡ true → read f (image f b) p ≡ b p
  unfolding image
  read_image p h =
      ap (take (size p)) (sym (drop-drop (total (before p (fields f))) (contents_length f) (image f b))
      ∙ ap (drop (total (before p (fields f)))) (drop_at (contents_of f) (laid b (fields f)) (contents_length f) (length_contents f)))
      ∙ field_stands b s p (fields f) h

  -- n fields from p on
  abbrev pub run : Field → ℕ → List Field
  run p n = take n (from p (fields f))

  -- they stand one after another from the first one's place on
  pub read_run : (p : Field) (n : ℕ) → part (place f p) (total (run p n)) (image f b) ≡ laid b (run p n)
  unfolding image
  read_run p n =
      let ps = fields f in
      let rs = run p n in
      let ts = drop n (from p ps) in
      let split : before p ps ++ (rs ++ ts) ≡ ps = ap (λ m. before p ps ++ m) (take-append-drop n (from p ps)) ∙ before_from p ps in
      let ahead : length (contents_of f ++ laid b (before p ps)) ≡ place f p = length-append (contents_of f) (laid b (before p ps)) ∙ (λ j. length_contents f j + length_laid b s (before p ps) j) in
      ap (λ m. part (place f p) (total rs) (contents_of f ++ laid b m)) (sym split)
      ∙ ap (λ m. part (place f p) (total rs) (contents_of f ++ m)) (laid_append b (before p ps) (rs ++ ts) ∙ ap (λ m. laid b (before p ps) ++ m) (laid_append b rs ts))
      ∙ ap (part (place f p) (total rs)) (sym (append_assoc (contents_of f) (laid b (before p ps)) (laid b rs ++ laid b ts)))
      ∙ ap (take (total rs)) (drop_at (contents_of f ++ laid b (before p ps)) (laid b rs ++ laid b ts) (place f p) ahead)
      ∙ take_at (laid b rs) (laid b ts) (total rs) (length_laid b s rs)

  -- bytes that stand in n fields from p on are replaced
  pub image_written : (c : Field → List ℕ) (p : Field) (n : ℕ) → ((q : Field) → has f q ≡ true → listed q (run p n) ≡ false → b q ≡ c q)
      → (i k : ℕ) (ys : List ℕ) → i + k ≤ total (run p n) → laid c (run p n) ≡ put_mid i k (laid b (run p n)) ys
      → put_mid (place f p + i) k (image f b) ys ≡ image f c
  unfolding image
  image_written c p n same i k ys h e =
      let ps = fields f in
      let split : before p ps ++ (run p n ++ drop n (from p ps)) ≡ ps = ap (λ m. before p ps ++ m) (take-append-drop n (from p ps)) ∙ before_from p ps in
      let apart = subst (λ m. distinct m ≡ true) (sym split) (distinct_fields f) in
      subst (λ m. put_mid (place f p + i) k (contents_of f ++ laid b m) ys ≡ contents_of f ++ laid c m) split
      (run_written b c s (before p ps) (run p n) (drop n (from p ps)) apart (λ q t. same q (subst (λ m. listed q m ≡ true) split t)) (contents_of f) (contents_length f) i k ys (length_contents f) h e)

-- ---- a field written over bytes of the form's length

-- of two fields one ends before the other begins
places_apart : (p q : Field) (ps : List Field) → is q p ≡ false → listed p ps ≡ true → listed q ps ≡ true
    → (total (before q ps) + size q ≤ total (before p ps)) ⊎ (total (before p ps) + size p ≤ total (before q ps))
places_apart p q [] d h k = absurd (false≢true h)
places_apart p q (r ∷ ps) d h k =
    test (is q r)
    (λ t. let n : is p r ≡ false = test (is p r) (λ u. absurd (false≢true (sym d ∙ ap (is q) (is_sound p r u) ∙ t))) (λ u. u) in
    let same = ap size (is_sound q r t) in
    inl (rw (t, n) (omega arith)))
    (λ t. test (is p r)
    (λ u. let same = ap size (is_sound p r u) in inr (rw (t, u) (omega arith)))
    (λ u. ⊎_elim (λ x. inl (rw (t, u) (omega (arith, x)))) (λ x. inr (rw (t, u) (omega (arith, x)))) (places_apart p q ps d (rw u at h) (rw t at k))))

module _ (f : Form) (l : List ℕ) (e : length l ≡ form_length f) (p : Field) (h : has f p ≡ true) (ys : List ℕ) (s : length ys ≡ size p) where
  abbrev pub over : List ℕ
  over = put_mid (place f p) (size p) l ys

  ends : place f p + size p ≤ length l
  ends = omega (arith, field_fits f p h)

  pub length_over : length over ≡ form_length f
  length_over = length_put l ys (place f p) (size p) ends s ∙ e

  pub read_over : read f over p ≡ ys
  read_over = put_there l ys (place f p) (size p) ends s

  pub other_over : (q : Field) → has f q ≡ true → is q p ≡ false → read f over q ≡ read f l q
  other_over q k d =
      ⊎_elim (λ x. put_before l ys (place f p) (size p) ends s (place f q) (size q) (omega (arith, x))) (λ x. put_behind l ys (place f p) (size p) ends s (place f q) (size q) (omega (arith, x)))
      (places_apart p q (fields f) d h k)

  pub head_over : part 0 (contents_length f) over ≡ part 0 (contents_length f) l
  head_over = put_before l ys (place f p) (size p) ends s 0 (contents_length f) (omega arith)
