-- What the tests of an image's length and contents look at, as the rules see it.
use Rattle.std.specs.Prelude.{◌≡◌, ℕ, Bool, true, false, List, length, Result, Ok, Err}
use Rattle.basics.specs.Numbers.{part, same}
use Rattle.images.specs.Form.{Form, contents_length, contents_of, known, form_of}
use Rattle.images.specs.Image.{ImageTest, accepted, wrong_length, wrong_contents, broken, image_test}
use Rattle.image.specs.Shown.{form_view}
use Rattle.image.specs.declared.form.Form as code
use Rattle.image.specs.declared.head.HeadFault.{HeadFault}
use Rattle.image.specs.declared.head.HeadFault.TheVariants.{WrongLength, WrongContents}

-- what an image is told to be
abbrev pub head_test : Result code.Form HeadFault → ImageTest
head_test (Err WrongLength) = wrong_length
head_test (Err WrongContents) = wrong_contents
head_test (Ok f) = accepted

abbrev pub is_accepted : ImageTest → Bool
is_accepted accepted = true
is_accepted wrong_length = false
is_accepted wrong_contents = false
is_accepted (broken k a) = false

-- the contents are those of a form
abbrev pub head_good : Form → List ℕ → Bool
head_good f l = same (part 0 (contents_length f) l) (contents_of f)

-- the length and the contents were tested: the image is refused by them, or is one of the form with good contents
abbrev pub Headed : Result code.Form HeadFault → List ℕ → Type 0
Headed (Err WrongLength) l = wrong_length ≡ image_test l
Headed (Err WrongContents) l = wrong_contents ≡ image_test l
Headed (Ok f) l = (form_of (length l) ≡ known (form_view f)) × (head_good (form_view f) l ≡ true)
