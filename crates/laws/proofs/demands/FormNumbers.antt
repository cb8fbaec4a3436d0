-- Request C-17, 'Refusals: 4 now means a length that is neither 259 nor 251, 5 compares with the contents for that length, and 8 belongs to form 1 only.' Request C-19
-- has 4 and 5 admit a third length, that of form 2 with numbers. Each of 4 and 5 is told exactly then.
use Rattle.basics.proofs.Prelude.{◌≡◌, refl, sym, ◌∙◌, Bool, true, false, cond, false≢true, List, ℕ, arith, length, eq-eqb, ne_eqb, part, same}
use Rattle.images.specs.Form.{Form, one, two, numbered, forms, Known, unknown, known, form_of, form_length, contents_length, contents_of}
use Rattle.images.specs.Image.{copy_differs, Finding, clear, found, rules, first_fault, wrong_length, wrong_contents, broken, body_test, image_test}
use Rattle.images.proofs.laws.Tests.{test_known_lem, known_length, form_known_lem, test_contents, test_body}
use Rattle.laws.specs.Wrong.{Why}
use Rattle.laws.proofs.demands.Broken.{told_is_so}

-- ---- what is found is one thing

two_findings : wrong_length ≡ wrong_contents → ⊥
two_findings e = let z : ◌≡◌ {A = ℕ} 0 1 = cc in omega arith

body_not_length : (x : Finding) → body_test x ≡ wrong_length → ⊥
body_not_length clear e = let z : ◌≡◌ {A = ℕ} 0 1 = cc in omega arith
body_not_length (found k a) e = let z : ◌≡◌ {A = ℕ} 0 1 = cc in omega arith

pub body_not_contents : (x : Finding) → body_test x ≡ wrong_contents → ⊥
body_not_contents clear e = let z : ◌≡◌ {A = ℕ} 0 1 = cc in omega arith
body_not_contents (found k a) e = let z : ◌≡◌ {A = ℕ} 0 1 = cc in omega arith

-- of the length of a form, what is found is not the length
pub not_four : (f : Form) (l : List ℕ) → length l ≡ form_length f → image_test l ≡ wrong_length → ⊥
not_four f l s e = go (same (part 0 (contents_length f) l) (contents_of f)) (first_fault f l (rules f l)) (rw (eq-eqb (length l) (form_length f) s) at (sym (known_length f l s) ∙ e))
  where
    go : (b : Bool) (x : Finding) → cond b (body_test x) wrong_contents ≡ wrong_length → ⊥
    go true x h = body_not_length x h
    go false x h = two_findings (sym h)

-- ---- 4, 5 and 8

-- 4: a length that is none of them
pub four_is_the_length : (l : List ℕ) → (length l ≡ 259 → ⊥) → (length l ≡ 251 → ⊥) → (length l ≡ 290 → ⊥) → image_test l ≡ wrong_length
four_is_the_length l n m k =
    let none : form_of (length l) ≡ unknown = rw (ne_eqb (length l) 259 n, ne_eqb (length l) 251 m, ne_eqb (length l) 290 k) in
    test_known_lem l none

-- and it is told of no other length
pub four_only_of_the_length : (l : List ℕ) → image_test l ≡ wrong_length → (length l ≡ 259 → ⊥) × (length l ≡ 251 → ⊥) × (length l ≡ 290 → ⊥)
four_only_of_the_length l e = (λ s. not_four one l s e, λ s. not_four two l s e, λ s. not_four numbered l s e)

-- 5: of any of these lengths, other contents than those of that length
pub five_is_the_contents : (f : Form) (l : List ℕ) → length l ≡ form_length f → (part 0 (contents_length f) l ≡ contents_of f → ⊥) → image_test l ≡ wrong_contents
five_is_the_contents f l s n = known_length f l s ∙ test_contents f l s n

-- and it is told of nothing else: some form has that length, and the contents are not its own
pub five_only_of_the_contents : (l : List ℕ) → image_test l ≡ wrong_contents
    → (f : Form) × (length l ≡ form_length f) × (part 0 (contents_length f) l ≡ contents_of f → ⊥)
five_only_of_the_contents l e = go (form_of (length l)) refl
  where
    go : (k : Known) → form_of (length l) ≡ k → (f : Form) × (length l ≡ form_length f) × (part 0 (contents_length f) l ≡ contents_of f → ⊥)
    go unknown k = absurd (two_findings (sym (test_known_lem l k) ∙ e))
    go (known f) k =
        let s = form_known_lem forms (length l) f k in
        (f, s, λ h. body_not_contents (first_fault f l (rules f l)) (sym (known_length f l s ∙ test_body f l s h) ∙ e))

-- 8: of 259 bytes alone, at 46
pub eight_is_form_1 : (l : List ℕ) (a : ℕ) → image_test l ≡ broken copy_differs a → (length l ≡ 259) × (a ≡ 46)
eight_is_form_1 l a e = let b = told_is_so l copy_differs a e in go b.form b.sized b.why
  where
    go : (f : Form) → length l ≡ form_length f → Why f copy_differs l a → (length l ≡ 259) × (a ≡ 46)
    go one s w = (s, w.place)
    go two s w = absurd (false≢true w.has)
    go numbered s w = absurd (false≢true w.has)
