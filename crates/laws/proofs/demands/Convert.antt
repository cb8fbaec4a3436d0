-- Request C-17, 'Moving form 1 to form 2 and back returns the same bytes, and the reverse too': of any two forms, the same one twice included. What is moved
-- holds the same device. Request C-19: only the numbers are lost, and only where the image has them and the target has not.
use Rattle.basics.proofs.Prelude.{◌≡◌, refl, sym, ap, subst, ◌∙◌, true, false, false≢true, List, [], ℕ, length, Bytes, test}
use Rattle.rules.specs.{Device.WellFormed, Numbering.WellNumbered, Numbering.from_zero}
use Rattle.images.specs.Form.{Form, one, two, numbered, numbers, forms, has, Known, unknown, known, form_of, form_length}
use Rattle.images.specs.Image.{ImageTest, accepted, wrong_length, wrong_contents, broken, image_test, encode_as, encode_like, decode, numbers_in}
use Rattle.images.proofs.laws.{Tests.form_known_lem, Tests.form_found, Saved.bytes_encode, Saved.length_encode, Saved.encode_without}
use Rattle.calls.{specs.Calls.pass, specs.Calls.leaves, specs.Calls.Outcome, specs.Convert.converted, specs.Convert.conversion, proofs.laws.Conversions.is_converted, proofs.demands.OneOutcome.one_left}
use Rattle.calls.proofs.laws.Requests.{never, passed}
use Rattle.laws.proofs.laws.Images.{form_of_lem, encode_as_lem, accepted_has, encode_decode, decode_well_formed, numbers_well, accepted_encode, decode_encode, numbers_encode, numbers_lost}
use Rattle.calls.specs.Calls as calls

-- what a conversion that is done has seen: an accepted image, and a target with the length of a form
pub record Converted (i t j : List ℕ) : Type 0 where
  pub form : Form
  pub target : length t ≡ form_length form
  pub accepted : image_test i ≡ accepted
  pub is : j ≡ encode_as form (decode i) (numbers_in i)

pub was_converted : (i t j : List ℕ) → converted i t ≡ pass j → Converted i t j
unfolding converted
was_converted i t j e = go (form_of (length i)) refl (form_of (length t)) refl (image_test i) refl
  where
    go : (k : Known) → form_of (length i) ≡ k → (l : Known) → form_of (length t) ≡ l → (u : ImageTest) → image_test i ≡ u → Converted i t j
    go unknown a l b u c = never calls.wrong_length j (rw a at e)
    go (known f) a unknown b u c = never calls.wrong_length j (rw (a, b) at e)
    go (known f) a (known g) b accepted c = record { form = g; target = form_known_lem forms (length t) g b; accepted = c; is = sym (passed (rw (a, b, c) at e)) }
    go (known f) a (known g) b wrong_length c = never calls.wrong_length j (rw (a, b, c) at e)
    go (known f) a (known g) b wrong_contents c = never calls.wrong_contents j (rw (a, b, c) at e)
    go (known f) a (known g) b (broken k p) c = never (calls.broken k p) j (rw (a, b, c) at e)

-- a form is known by its length; the one that has numbers
same_form : (f g : Form) → form_length f ≡ form_length g → f ≡ g
same_form f g e = known_form (sym (form_found f) ∙ ap form_of e ∙ form_found g)
  where
    known_form : known f ≡ known g → f ≡ g
    known_form h = cc

with_numbers_lem : (f : Form) → has f numbers ≡ true → f ≡ numbered
with_numbers_lem one h = absurd (false≢true h)
with_numbers_lem two h = absurd (false≢true h)
with_numbers_lem numbered h = refl

without_numbers : (f : Form) → (f ≡ numbered → ⊥) → has f numbers ≡ false
without_numbers one n = refl
without_numbers two n = refl
without_numbers numbered n = absurd (n refl)

module _ (i t j : List ℕ) (b : Bytes i) (e : converted i t ≡ pass j) where
  abbrev did : Converted i t j
  did = was_converted i t j e

  abbrev formed : WellFormed (decode i)
  formed = decode_well_formed i b did.accepted

  abbrev numbers_formed : WellNumbered (decode i) (numbers_in i)
  numbers_formed = numbers_well i b did.accepted

  -- it is bytes, has the target's length, is accepted, and holds the device that the image held
  pub converted_is_bytes : Bytes j
  converted_is_bytes = subst Bytes (sym did.is) (bytes_encode (decode i) formed (numbers_in i) numbers_formed did.form)

  pub converted_length : length j ≡ length t
  converted_length = ap length did.is ∙ length_encode (decode i) formed (numbers_in i) numbers_formed did.form ∙ sym did.target

  pub converted_is_accepted : image_test j ≡ accepted
  converted_is_accepted = ap image_test did.is ∙ accepted_encode (decode i) formed (numbers_in i) numbers_formed did.form

  pub converted_holds : decode j ≡ decode i
  converted_holds = ap decode did.is ∙ decode_encode (decode i) formed (numbers_in i) numbers_formed did.form

  -- with numbers, if the target has room for them: those with which the image loads; else they are lost, and nothing else (02, C-19)
  target_is : (f : Form) → length t ≡ form_length f → f ≡ did.form
  target_is f s = same_form f did.form (sym s ∙ did.target)

  pub numbers_moved : length t ≡ form_length numbered → numbers_in j ≡ numbers_in i
  numbers_moved s =
      ap numbers_in did.is ∙ numbers_encode (decode i) formed (numbers_in i) numbers_formed did.form (ap (λ f. has f numbers) (sym (target_is numbered s)))

  pub numbers_left_behind : (length t ≡ form_length numbered → ⊥) → numbers_in j ≡ from_zero (length (decode i).ring.waiting)
  numbers_left_behind n = ap numbers_in did.is ∙ numbers_lost (decode i) formed (numbers_in i) numbers_formed did.form (without_numbers did.form (λ e. n (did.target ∙ ap form_length e)))

  abbrev own : Form
  own = (accepted_has i did.accepted).form

  own_sized : length i ≡ form_length own
  own_sized = (accepted_has i did.accepted).has.sized

  -- back into any bytes of the length that the image had: the image of its device, with the numbers that came along
  pub back_again : (u : List ℕ) → length u ≡ length i → converted j u ≡ pass (encode_like i (decode i) (numbers_in j))
  back_again u s =
      is_converted j u (form_of_lem did.form j (converted_length ∙ did.target)) (form_of_lem own u (s ∙ own_sized)) converted_is_accepted
      ∙ ap (λ l. pass l) (ap (λ d. encode_as own d (numbers_in j)) converted_holds ∙ sym (encode_as_lem own i own_sized (decode i) (numbers_in j)))

  -- there and back: where numbers that it has have room in the target, it comes as it was
  pub there_and_back : (u : List ℕ) → length u ≡ length i → (length i ≡ form_length numbered → length t ≡ form_length numbered) → converted j u ≡ pass i
  there_and_back u s keeps =
      back_again u s ∙ ap (λ l. pass l) (test (has own numbers)
      (λ h. ap (encode_like i (decode i)) (numbers_moved (keeps (own_sized ∙ ap form_length (with_numbers_lem own h)))))
      (λ h. encode_as_lem own i own_sized (decode i) (numbers_in j) ∙ encode_without own h (decode i) (numbers_in j) (numbers_in i) ∙ sym (encode_as_lem own i own_sized (decode i) (numbers_in i)))
      ∙ encode_decode i b did.accepted)

-- an accepted image goes to bytes of the length of any form; to those of its own length as it is
pub can_be_converted : (i t : List ℕ) → image_test i ≡ accepted → (g : Form) → length t ≡ form_length g → converted i t ≡ pass (encode_as g (decode i) (numbers_in i))
can_be_converted i t e g s = let its = accepted_has i e in is_converted i t (form_of_lem its.form i its.has.sized) (form_of_lem g t s) e

pub copied_as_it_is : (i t : List ℕ) → Bytes i → image_test i ≡ accepted → length t ≡ length i → converted i t ≡ pass i
copied_as_it_is i t b e s =
    let its = accepted_has i e in
    let f = its.form in
    let sized = its.has.sized in
    can_be_converted i t e f (s ∙ sized) ∙ ap (λ l. pass l) (sym (encode_as_lem f i sized (decode i) (numbers_in i)) ∙ encode_decode i b e)

-- form 1 to form 2 and back, and form 2 to form 1 and back; and each to form 2 with numbers and back
module _ (i : List ℕ) (b : Bytes i) (e : image_test i ≡ accepted) (f g : Form) (s : length i ≡ form_length f) (t u : List ℕ) (m : length t ≡ form_length g) (n : length u ≡ form_length f) where
  pub through : (has f numbers ≡ true → has g numbers ≡ true) → converted (encode_as g (decode i) (numbers_in i)) u ≡ pass i
  through keeps =
      there_and_back i t _ b (can_be_converted i t e g m) u (n ∙ sym s)
      (λ h. m ∙ ap form_length (with_numbers_lem g (keeps (ap (λ x. has x numbers) (same_form f numbered (sym s ∙ h))))))

-- no second outcome keeps the promise of the call
pub one_conversion : (i t a : List ℕ) (x y : Outcome) → x ≡ conversion i t a → y ≡ conversion i t a → x ≡ y
one_conversion i t a x y p q = p ∙ sym q

-- in the contracts' own words: of two runs whose contract holds, the numbers handed back, the targets and the answer areas are the same
pub one_conversion_result : (i t a : List ℕ) {r s : ℕ} {t₁ t₂ a₁ a₂ : List ℕ} → leaves r t₁ a₁ [] ≡ conversion i t a → leaves s t₂ a₂ [] ≡ conversion i t a → (r ≡ s) × (t₁ ≡ t₂) × (a₁ ≡ a₂)
one_conversion_result i t a x y = let o = one_left x y in (o.0, o.1, o.2)
