-- What testing an image finds, exactly (01, Numbers handed back; 02, C-16, C-17, C-19): a wrong length, wrong contents, or what is wrong in a body and where, each just where it is so; and nothing
-- just where the image is accepted. Every call that is lent an image refuses it by this.
use Rattle.basics.proofs.Prelude.{◌≡◌, refl, sym, ap, subst, ◌∙◌, true, List, ⊎_elim, ℕ, ◌<◌, ◌≤◌, arith, ltb, length, get_or, ltb-true, ltb-false, part, test}
use Rattle.rules.specs.Ring.{capacity}
use Rattle.images.specs.Form.{Form, one, two, numbered, forms, Field, word, copy, irr, pairs, numbers, has, place, form_length, contents_length, contents_of, Known, unknown, known, form_of}
use Rattle.images.specs.Image.{word_in, count_in, Fault, copy_differs, many_wait, bad_flag, unused_set, rules, first_fault, ImageTest, accepted, wrong_length, wrong_contents, broken, image_test}
use Rattle.images.proofs.laws.Tests.{Ruled, Accepted, accepted_has, accepted_if_has, known_length, form_found, form_known_lem, test_known_lem, test_body}
use Rattle.calls.specs.Reasons.{OfImage, bad_length, bad_head, bad_body, test_of, Exactly}
use Rattle.laws.specs.Wrong.{NoForm, flag_at, CopyDiffers, ManyWait, BadFlag, SetBehind, NoneBehind, UnusedSet, Why, Broken, Found, IsImage}
use Rattle.laws.proofs.demands.Broken.{flags_at, none_behind, told_is_so}
use Rattle.laws.proofs.demands.FormNumbers.{body_not_contents, not_four, four_is_the_length, four_only_of_the_length, five_is_the_contents, five_only_of_the_contents}

-- a length of the three
abbrev pub HasForm : List ℕ → Type 0
HasForm l = (f : Form) × (length l ≡ form_length f)

-- what is wrong with an image is not that it is accepted
pub not_accepted_by : (x : OfImage) → test_of x ≡ accepted → ⊥
not_accepted_by bad_length e = let z : ◌≡◌ {A = ℕ} 0 1 = cc in omega arith
not_accepted_by bad_head e = let z : ◌≡◌ {A = ℕ} 0 1 = cc in omega arith
not_accepted_by (bad_body k p) e = let z : ◌≡◌ {A = ℕ} 0 1 = cc in omega arith

-- ---- of the bodies one thing is found

module _ (f : Form) (l : List ℕ) where
  copy_or : {a : ℕ} → CopyDiffers f l a → (has f (word copy) ≡ true → word_in f l copy ≡ word_in f l irr) → ⊥
  copy_or c h = c.differs (h c.has)

  count_or : {a : ℕ} → ManyWait f l a → count_in f l ≤ capacity → ⊥
  count_or m h = let at = ap (λ x. get_or l x 0) m.place in omega (arith, m.many, h, at)

  flag_or : {a : ℕ} → BadFlag f l a → ((m : ℕ) → m < count_in f l → get_or l (flag_at f m) 0 ≤ 1) → ⊥
  flag_or b h = let at = ap (λ x. get_or l x 0) b.place in let low = h b.pair b.waits in omega (arith, b.over, low, at)

  none_or : (p : Field) {a : ℕ} → NoneBehind f l p → SetBehind f l p a → ⊥
  none_or p {a} n s = let z = n a s.behind s.inside in omega (arith, z, s.set)

  -- the first of its kind is one
  earlier_flag : {a b : ℕ} (x : BadFlag f l a) (y : BadFlag f l b) → x.pair < y.pair → ⊥
  earlier_flag x y h = let low = y.first x.pair h in let at = ap (λ c. get_or l c 0) x.place in omega (arith, x.over, low, at)

  two_flags : {a b : ℕ} → BadFlag f l a → BadFlag f l b → a ≡ b
  two_flags x y =
      test (ltb x.pair y.pair) (λ t. absurd (earlier_flag x y (ltb-true x.pair y.pair t)))
      (λ t. test (ltb y.pair x.pair) (λ u. absurd (earlier_flag y x (ltb-true y.pair x.pair u)))
      (λ u. let e = ltb-false x.pair y.pair t in let g = ltb-false y.pair x.pair u in omega (arith, e, g, x.place, y.place)))

  earlier_set : (p : Field) {a b : ℕ} → SetBehind f l p a → SetBehind f l p b → a < b → ⊥
  earlier_set p {a} x y h = let z = y.first a x.behind h in omega (arith, z, x.set)

  two_set : (p : Field) {a b : ℕ} → SetBehind f l p a → SetBehind f l p b → a ≡ b
  two_set p {a} {b} x y =
      test (ltb a b) (λ t. absurd (earlier_set p x y (ltb-true a b t)))
      (λ t. test (ltb b a) (λ u. absurd (earlier_set p y x (ltb-true b a u))) (λ u. let e = ltb-false a b t in let g = ltb-false b a u in omega (arith, e, g)))

  two_unused : {a b : ℕ} → UnusedSet f l a → UnusedSet f l b → a ≡ b
  two_unused x y = ⊎_elim
      (λ s. ⊎_elim (λ t. two_set pairs s t) (λ t. absurd (none_or pairs t.0 s)) y.found)
      (λ s. ⊎_elim (λ t. absurd (none_or pairs s.0 t)) (λ t. two_set numbers s.1 t.1) y.found)
      x.found

  one_fault : (k j : Fault) {a b : ℕ} → Why f k l a → Why f j l b → broken k a ≡ broken j b
  one_fault copy_differs copy_differs x y = ap (broken copy_differs) (x.place ∙ sym y.place)
  one_fault copy_differs many_wait x y = absurd (copy_or x y.copied)
  one_fault copy_differs bad_flag x y = absurd (copy_or x y.copied)
  one_fault copy_differs unused_set x y = absurd (copy_or x y.copied)
  one_fault many_wait copy_differs x y = absurd (copy_or y x.copied)
  one_fault many_wait many_wait x y = ap (broken many_wait) (x.place ∙ sym y.place)
  one_fault many_wait bad_flag x y = absurd (count_or x y.counted)
  one_fault many_wait unused_set x y = absurd (count_or x y.counted)
  one_fault bad_flag copy_differs x y = absurd (copy_or y x.copied)
  one_fault bad_flag many_wait x y = absurd (count_or y x.counted)
  one_fault bad_flag bad_flag x y = ap (broken bad_flag) (two_flags x y)
  one_fault bad_flag unused_set x y = absurd (flag_or x y.flagged)
  one_fault unused_set copy_differs x y = absurd (copy_or y x.copied)
  one_fault unused_set many_wait x y = absurd (count_or y x.counted)
  one_fault unused_set bad_flag x y = absurd (flag_or y x.flagged)
  one_fault unused_set unused_set x y = ap (broken unused_set) (two_unused x y)

  -- and nothing where every rule holds
  no_fault : length l ≡ form_length f → (k : Fault) (a : ℕ) → Ruled f l → Why f k l a → ⊥
  no_fault s copy_differs a r w = copy_or w r.copied
  no_fault s many_wait a r w = count_or w r.counted
  no_fault s bad_flag a r w = flag_or w (flags_at f l s bad_flag a (count_in f l) r.counted r.flagged)
  no_fault s unused_set a r w = ⊎_elim
      (λ x. none_or pairs (none_behind f l s unused_set a pairs r.unused) x)
      (λ x. none_or numbers (none_behind f l s unused_set a numbers (r.spare x.1.has)) x.1)
      w.found

-- the form is the one of the length
same_form : (l : List ℕ) (f g : Form) → length l ≡ form_length f → length l ≡ form_length g → f ≡ g
same_form l f g s t = let e : known f ≡ known g = sym (form_found f) ∙ ap form_of (sym s ∙ t) ∙ form_found g in cc

-- ---- both ways

module _ (l : List ℕ) where
  -- a length is that of no form, or that of one
  pub not_both : NoForm l → (f : Form) → length l ≡ form_length f → ⊥
  not_both n one s = n.0 s
  not_both n two s = n.1 s
  not_both n numbered s = n.2 s

  pub no_form : NoForm l → form_of (length l) ≡ unknown
  no_form n = go (form_of (length l)) refl
    where
      go : (k : Known) → form_of (length l) ≡ k → form_of (length l) ≡ unknown
      go unknown h = h
      go (known f) h = absurd (not_both n f (form_known_lem forms (length l) f h))

  pub has_form : (x : HasForm l) → form_of (length l) ≡ known x.0
  has_form x = ap form_of x.1 ∙ form_found x.0

  pub by_length : {A : Type 0} → (NoForm l → A) → (HasForm l → A) → A
  by_length {A} none some = go (form_of (length l)) refl
    where
      go : (k : Known) → form_of (length l) ≡ k → A
      go unknown h = none (four_only_of_the_length l (test_known_lem l h))
      go (known f) h = some (f, form_known_lem forms (length l) f h)

  pub a_form : (NoForm l → ⊥) → HasForm l
  a_form n = by_length (λ z. absurd (n z)) (λ f. f)

  -- what is wrong in a body is told
  pub so_is_told : (k : Fault) (p : ℕ) → Broken l k p → image_test l ≡ broken k p
  so_is_told k p b = go (image_test l) refl
    where
      f : Form
      f = b.form

      go : (t : ImageTest) → image_test l ≡ t → image_test l ≡ broken k p
      go accepted e = absurd (no_fault f l b.sized k p (accepted_has f l (sym (known_length f l b.sized) ∙ e)).ruled b.why)
      go wrong_length e = absurd (not_four f l b.sized e)
      go wrong_contents e = absurd (body_not_contents (first_fault f l (rules f l)) (sym (known_length f l b.sized ∙ test_body f l b.sized b.headed) ∙ e))
      go (broken j q) e =
          let c = told_is_so l j q e in
          let same = same_form l c.form f c.sized b.sized in
          e ∙ one_fault f l j k (subst (λ g. Why g j l q) same c.why) b.why

  -- 4, 5, 8 to 11: what is found is so, and what is so is found
  pub found_exactly : (x : OfImage) → Exactly (image_test l ≡ test_of x) (Found l x)
  found_exactly bad_length = (four_only_of_the_length l, λ n. four_is_the_length l n.0 n.1 n.2)
  found_exactly bad_head = (five_only_of_the_contents l, λ n. five_is_the_contents n.0 l n.1 n.2)
  found_exactly (bad_body k p) = (told_is_so l k p, so_is_told k p)

  -- one of these it is
  pub by_image : {A : Type 0} → (image_test l ≡ accepted → A) → ((x : OfImage) → image_test l ≡ test_of x → A) → A
  by_image {A} good wrong = go (image_test l) refl
    where
      go : (t : ImageTest) → image_test l ≡ t → A
      go accepted e = good e
      go wrong_length e = wrong bad_length e
      go wrong_contents e = wrong bad_head e
      go (broken k p) e = wrong (bad_body k p) e

  -- an image is accepted just where nothing is found wrong
  pub accepted_exactly : Exactly (image_test l ≡ accepted) (IsImage l)
  accepted_exactly = (λ e x f. not_accepted_by x (sym ((found_exactly x).1 f) ∙ e), λ n. by_image (λ e. e) (λ x e. absurd (n x ((found_exactly x).0 e))))

  -- and that is where length, contents and every rule are right
  pub right_exactly : Exactly (image_test l ≡ accepted) ((f : Form) × Accepted f l)
  right_exactly = (λ e. go (form_of (length l)) refl e, λ x. known_length x.0 l x.1.sized ∙ accepted_if_has x.0 l x.1)
    where
      unlike : wrong_length ≡ accepted → ⊥
      unlike e = let z : ◌≡◌ {A = ℕ} 0 1 = cc in omega arith

      go : (k : Known) → form_of (length l) ≡ k → image_test l ≡ accepted → (f : Form) × Accepted f l
      go unknown h e = absurd (unlike (sym (test_known_lem l h) ∙ e))
      go (known f) h e = (f, accepted_has f l (sym (test_known_lem l h) ∙ e))
