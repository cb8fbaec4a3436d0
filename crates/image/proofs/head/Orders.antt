-- The test of an image in the order of the definition: the length, which tells the form, and the contents.
use Rattle.std.proofs.Common.{Option, None, Result, Ok, Err}
use Rattle.basics.proofs.Prelude.{◌≡◌, refl, sym, ap, ◌∙◌, false, false≢true, List, ℕ, length, part, equal_same}
use Rattle.images.specs.Form.{Form, forms, unknown, known, form_length, contents_length, contents_of, form_of}
use Rattle.images.specs.Image.{accepted, wrong_length, wrong_contents, image_test}
use Rattle.images.proofs.laws.Tests.{form_known_lem, test_known_lem, test_contents}
use Rattle.image.specs.{Shown.form_known, head.Good.head_test, head.Good.Headed, head.Good.is_accepted, head.Good.head_good}
use Rattle.image.specs.declared.head.HeadFault.{HeadFault}
use Rattle.image.specs.declared.head.HeadFault.TheVariants.{WrongLength, WrongContents}
use Rattle.image.specs.declared.form.Form as code

pub no_form : (l : List ℕ) (k : Option code.Form) → form_known k ≡ form_of (length l) → k ≡ None → wrong_length ≡ image_test l
no_form l k e h = sym (test_known_lem l {k = unknown} (sym e ∙ ap form_known h))

-- what is not a form with good contents is a fault
pub head_left : (h : Result code.Form HeadFault) → ((f : code.Form) → h ≡ Ok f → ⊥) → (e : HeadFault) × (h ≡ Err e)
head_left (Ok f) n = absurd (n f refl)
head_left (Err e) n = (e, refl)

-- a test for good contents that was not passed tells of the image, and does not accept it
module _ (l : List ℕ) where
  pub left_head : (e : HeadFault) → Headed (Err e) l → head_test (Err e) ≡ image_test l
  left_head WrongLength h = h
  left_head WrongContents h = h

  pub head_refuses : (e : HeadFault) → Headed (Err e) l → image_test l ≡ accepted → ⊥
  head_refuses WrongLength h z = false≢true (ap is_accepted (h ∙ z))
  head_refuses WrongContents h z = false≢true (ap is_accepted (h ∙ z))

module _ (l : List ℕ) (f : Form) (told : form_of (length l) ≡ known f) where
  pub sized : length l ≡ form_length f
  sized = form_known_lem forms (length l) f told

  pub bad_contents : head_good f l ≡ false → wrong_contents ≡ image_test l
  bad_contents t = sym (test_known_lem l told ∙ test_contents f l sized (λ q. false≢true (sym t ∙ equal_same (part 0 (contents_length f) l) (contents_of f) q)))
