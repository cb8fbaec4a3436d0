-- A form in code and in the rules.
use Rattle.std.specs.Int.{from_bool}
use Rattle.rules.specs.Ring.{flag}
use Rattle.basics.proofs.Prelude.{◌≡◌, refl, sym, Bool, true, false, List, ℕ, ◌+◌, ◌≤◌, arith, length, test}
use Rattle.images.specs.Form.{Word, Field, word, copy, irr, next, numbers, one, two, numbered, has, size, place, form_length}
use Rattle.images.specs.Image.{number_body_length}
use Rattle.images.proofs.laws.Layout.{never, always, has_all, field_fits}
use Rattle.image.specs.Shown.{form_view, place_in, PlacesOf}
use Rattle.image.specs.declared.form.{Form.Form, Form.TheVariants.One, Form.TheVariants.Two, Form.TheVariants.Numbered, Places.Places}
use Rattle.images.specs.Form as rules-form

-- a flag as `u8::from` makes it
pub byte_flag : (b : Bool) → from_bool b ≡ flag b
byte_flag true = refl
byte_flag false = refl

-- where a field stands that every form has
pub placed : {f : rules-form.Form} {p : Places} → PlacesOf f p → (q : Field) → always q ≡ true → place_in p q ≡ place f q
placed {f} o q h = o.fields q (has_all f q h)

pub always_fits : (f : rules-form.Form) (q : Field) → always q ≡ true → place f q + size q ≤ form_length f
always_fits f q h = field_fits f q (has_all f q h)

-- a test for the form with numbers, passed and not
pub has_numbers : (x : Form) → x ≡ Numbered → has (form_view x) numbers ≡ true
has_numbers x e = rw e

pub has_next : (x : Form) → x ≡ Numbered → has (form_view x) next ≡ true
has_next x e = rw e

pub no_numbers : (x : Form) → (x ≡ Numbered → ⊥) → has (form_view x) numbers ≡ false
no_numbers One h = refl
no_numbers Two h = refl
no_numbers Numbered h = absurd (h refl)

-- the numbers stand behind the next one
pub behind_next : (f : rules-form.Form) → has f numbers ≡ true → place f next + size next ≡ place f numbers
behind_next one h = never (sym h)
behind_next two h = never (sym h)
behind_next numbered h = refl

-- a field ends within the image
module _ (f : rules-form.Form) (l : List ℕ) (s : length l ≡ form_length f) (p : Places) (o : PlacesOf f p) where
  pub field_within : (q : Field) → has f q ≡ true → place_in p q + size q ≤ length l
  field_within q h = omega (arith, o.fields q h, field_fits f q h)

  -- those that every form has
  pub always_at : (q : Field) → always q ≡ true → place_in p q ≡ place f q
  always_at q h = placed o q h

  pub always_within : (q : Field) → always q ≡ true → place_in p q + size q ≤ length l
  always_within q h = field_within q (has_all f q h)

  pub copy_within : p.last_intirr + 8 ≤ length l
  copy_within = test (has f (word copy)) (field_within (word copy)) (λ h. omega (arith, o.copy h, field_within (word irr) (has_all f (word irr) refl)))

  -- and so does the body of the numbers
  pub body_within : has f next ≡ true → has f numbers ≡ true → p.next + number_body_length ≤ length l
  body_within h k = omega (arith, o.fields next h, field_within numbers k, o.fields numbers k, behind_next f k)
