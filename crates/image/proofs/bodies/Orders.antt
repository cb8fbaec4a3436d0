-- The test of an image in the order of the definition: behind the length and the contents, the bodies.
use Rattle.basics.proofs.Prelude.{◌≡◌, refl, sym, ap, ◌∙◌, true, false, false≢true, List, ℕ, length, part, same_equal}
use Rattle.images.specs.Form.{Form, known, contents_length, contents_of, form_of}
use Rattle.images.specs.Image.{Finding, clear, found, rules, first_fault, accepted, body_test, image_test}
use Rattle.images.proofs.laws.Tests.{test_known_lem, test_body}
use Rattle.image.specs.{head.Good.is_accepted, head.Good.head_good, bodies.Good.is_clear, bodies.Good.bodies_good, bodies.Good.bodies_test}
use Rattle.image.proofs.{head.Orders.sized, bodies.Tested.is_clear_lem}

accepted_clear : (x : Finding) → is_accepted (body_test x) ≡ is_clear x
accepted_clear clear = refl
accepted_clear (found k a) = refl

-- the contents are good, and the bodies decide
module _ (l : List ℕ) (f : Form) (told : form_of (length l) ≡ known f) (good : head_good f l ≡ true) where
  pub by_bodies : bodies_test f l ≡ image_test l
  by_bodies = sym (test_known_lem l told ∙ test_body f l (sized l f told) (same_equal (part 0 (contents_length f) l) (contents_of f) good))

  pub accepts : bodies_good f l ≡ true → image_test l ≡ accepted
  accepts g = sym by_bodies ∙ ap body_test (is_clear_lem (first_fault f l (rules f l)) g)

  pub refuses : bodies_good f l ≡ false → image_test l ≡ accepted → ⊥
  refuses g e = false≢true (sym g ∙ sym (accepted_clear (first_fault f l (rules f l))) ∙ ap is_accepted (by_bodies ∙ e))
