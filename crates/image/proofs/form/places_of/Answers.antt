-- `places_of`: in each form, by computing, with the contents' length in front and the copy's for what is added.
use Rattle.basics.proofs.Prelude.{◌≡◌, refl, sym, ap, ◌∙◌, subst, Bool, true, false, ◌&&◌, false≢true, and-eq-true_iff, List, [], ◌∷◌, ℕ, ◌+◌, eqb, eqb-true, test}
use Rattle.images.specs.Form.{Field, word, copy, Form, one, two, numbered, is, listed, fields, has, place, contents_length}
use Rattle.images.proofs.laws.Layout.{never, is_sound}
use Rattle.image.specs.{Shown.form_view, Shown.place_in, Shown.copy_length, Shown.PlacesOf, declared.form.Places.Places}
use Rattle.image.proofs.form.places_of.Goals as goal

-- the places behind a head of h bytes, and behind c bytes of a copy
abbrev behind : ℕ → ℕ → Places
behind h c = record {
  int_mask = h;
  htmsi_en = h + 8;
  intedge = h + 16;
  last_intirr = h + 24;
  intirr = h + c + 24;
  intisr = h + c + 32;
  int_polarity = h + c + 40;
  auto_ctrl0 = h + c + 48;
  auto_ctrl1 = h + c + 56;
  routes = h + c + 64;
  vectors = h + c + 128;
  count = h + c + 192;
  drops = h + c + 193;
  pairs = h + c + 197;
  next = h + c + 229;
  numbers = h + c + 231;
}

-- every field of a list passes a test
abbrev every : (Field → Bool) → List Field → Bool
every t [] = true
every t (p ∷ ps) = t p && every t ps

listed_so : (t : Field → Bool) (ps : List Field) → every t ps ≡ true → (q : Field) → listed q ps ≡ true → t q ≡ true
listed_so t [] e q h = absurd (false≢true h)
listed_so t (p ∷ ps) e q h =
    let both = (and-eq-true_iff (t p) (every t ps)).0 e in
    test (is q p) (λ s. ap t (is_sound q p s) ∙ both.0) (λ s. listed_so t ps both.1 q (rw s at h))

abbrev its : Form → Places
its f = behind (contents_length f) (copy_length f)

abbrev stands : Form → Field → Bool
stands f q = eqb (place_in (its f) q) (place f q)

all_stand : (f : Form) → every (stands f) (fields f) ≡ true
all_stand one = refl
all_stand two = refl
all_stand numbered = refl

no_copy : (f : Form) → has f (word copy) ≡ false → (its f).last_intirr ≡ (its f).intirr
no_copy one = never
no_copy two = λ h. refl
no_copy numbered = λ h. refl

-- as the code has them
in_code : (f : Form) (h c : ℕ) → h ≡ contents_length f → c ≡ copy_length f → PlacesOf f (behind h c)
in_code f h c e g =
    subst (PlacesOf f) (λ t. behind (sym e t) (sym g t)) (record {
      fields = λ q s. eqb-true (place_in (its f) q) (place f q) (listed_so (stands f) (fields f) (all_stand f) q s);
      copy = no_copy f;
    })

pub returns : goal.returns
returns c = in_code (form_view c.args.form) c.contents_length-head.result c.copy_length.result c.contents_length-head.ensures.0 c.copy_length.ensures.0
