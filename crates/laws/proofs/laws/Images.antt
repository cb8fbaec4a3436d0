-- The saved image as the calls have it, of the form that its length tells: each law is one of `Tests` and `Saved`, which stand over the form.
use Rattle.basics.proofs.Prelude.{◌≡◌, refl, sym, ap, ◌∙◌, subst, true, false, List, ℕ, zero, suc, ◌+◌, ◌≤◌, arith, lit<, lit≤, length, Bytes, bytes_replicate}
use Rattle.rules.specs.{Device.Device, Device.WellFormed, Device.up_from, Device.reset, Numbering.Numbers, Numbering.WellNumbered, Numbering.from_zero}
use Rattle.images.specs.Form.{Form, numbers, has, Known, unknown, known, form_of, form_length}
use Rattle.images.specs.Image.{accepted, wrong_length, image_test, encode_as, decode_as, numbers_as, decode_known, decode, numbers_known, numbers_in, encode_known, encode_like}
use Rattle.images.proofs.laws.{Layout.by_plain, Tests.Accepted, Tests.test_known_lem, Tests.form_found, Tests.known_length}
use Rattle.images.proofs.laws.Tests as tests
use Rattle.images.proofs.laws.Saved as saved

-- ---- the form that the length tells

-- bytes that have the length of a form are of that form
pub form_of_lem : (f : Form) (l : List ℕ) → length l ≡ form_length f → form_of (length l) ≡ known f
form_of_lem f l e = ap form_of e ∙ form_found f

pub decode_as_lem : (f : Form) (l : List ℕ) → length l ≡ form_length f → decode l ≡ decode_as f l
unfolding decode
decode_as_lem f l e = ap (λ k. decode_known k l) (form_of_lem f l e)

pub numbers_as_lem : (f : Form) (l : List ℕ) → length l ≡ form_length f → numbers_in l ≡ numbers_as f l
unfolding numbers_in
numbers_as_lem f l e = ap (λ k. numbers_known k l) (form_of_lem f l e)

pub encode_as_lem : (f : Form) (i : List ℕ) → length i ≡ form_length f → (d : Device) (s : Numbers) → encode_like i d s ≡ encode_as f d s
unfolding encode_like
encode_as_lem f i e d s = ap (λ k. encode_known k d s) (form_of_lem f i e)

-- images of the same length have the same form
pub encode_same : (i j : List ℕ) → length i ≡ length j → (d : Device) (s : Numbers) → encode_like i d s ≡ encode_like j d s
unfolding encode_like
encode_same i j e d s = ap (λ n. encode_known (form_of n) d s) e

-- an accepted image is one of a form
pub record HasForm (l : List ℕ) : Type 0 where
  pub form : Form
  pub has : Accepted form l

pub accepted_has : (l : List ℕ) → image_test l ≡ accepted → HasForm l
accepted_has l e = go (form_of (length l)) refl
  where
    apart : wrong_length ≡ accepted → ◌≡◌ {A = ℕ} 0 1
    apart h = cc

    go : (k : Known) → form_of (length l) ≡ k → HasForm l
    go unknown h = let z = apart (sym (test_known_lem l h) ∙ e) in absurd (omega (arith, z))
    go (known f) h = record { form = f; has = tests.accepted_has f l (sym (test_known_lem l h) ∙ e) }

-- ---- an accepted image, decoded and encoded

module _ (l : List ℕ) (b : Bytes l) (e : image_test l ≡ accepted) where
  abbrev its : HasForm l
  its = accepted_has l e

  pub encode_decode : encode_like l (decode l) (numbers_in l) ≡ l
  encode_decode =
      let f = its.form in
      let a = its.has in
      encode_as_lem f l a.sized (decode l) (numbers_in l) ∙ (λ t. encode_as f (decode_as_lem f l a.sized t) (numbers_as_lem f l a.sized t)) ∙ saved.encode_decode f l b a

  pub decode_well_formed : WellFormed (decode l)
  decode_well_formed =
      let f = its.form in
      let a = its.has in
      subst WellFormed (sym (decode_as_lem f l a.sized)) (saved.decode_well f l b a)

  pub numbers_well : WellNumbered (decode l) (numbers_in l)
  numbers_well =
      let f = its.form in
      let a = its.has in
      subst (λ d. WellNumbered d (numbers_in l)) (sym (decode_as_lem f l a.sized)) (subst (WellNumbered (decode_as f l)) (sym (numbers_as_lem f l a.sized)) (saved.numbers_well f l b a))

-- ---- a device, encoded and decoded

module _ (d : Device) (w : WellFormed d) (s : Numbers) (v : WellNumbered d s) (f : Form) where
  sized : length (encode_as f d s) ≡ form_length f
  sized = saved.length_encode d w s v f

  -- a device's image is accepted, and holds the device
  pub accepted_encode : image_test (encode_as f d s) ≡ accepted
  accepted_encode = known_length f (encode_as f d s) sized ∙ saved.accepted_encode d w s v f

  pub decode_encode : decode (encode_as f d s) ≡ d
  decode_encode = decode_as_lem f (encode_as f d s) sized ∙ saved.decode_encode d w s v f

  -- and the numbers, if the form has them; else they are those from 0 on
  pub numbers_encode : has f numbers ≡ true → numbers_in (encode_as f d s) ≡ s
  numbers_encode h = numbers_as_lem f (encode_as f d s) sized ∙ saved.numbers_encode d w s v f h

  pub numbers_lost : has f numbers ≡ false → numbers_in (encode_as f d s) ≡ from_zero (length d.ring.waiting)
  numbers_lost h = numbers_as_lem f (encode_as f d s) sized ∙ saved.numbers_lost d w s v f h

-- ---- reset

bytes_up_from : (n k : ℕ) → n + k ≤ 256 → Bytes (up_from n k)
unfolding up_from
bytes_up_from n zero h i = lit< tt
bytes_up_from n (suc k) h zero = omega arith
bytes_up_from n (suc k) h (suc i) = bytes_up_from (suc n) k (omega arith) i

pub reset_well_formed : WellFormed reset
unfolding up_from
reset_well_formed = record {
  mask = lit< tt;
  irr = lit< tt;
  isr = lit< tt;
  plains = by_plain _ (lit< tt, lit< tt, lit< tt, lit< tt, lit< tt);
  route_bytes = bytes_replicate 64 1 (lit< tt);
  routes = refl;
  vector_bytes = bytes_up_from 0 64 (lit≤ tt);
  vectors = refl;
  event_bytes = λ i. lit< tt;
  waiting = lit≤ tt;
  drops = lit≤ tt;
}

pub reset_numbered : WellNumbered reset (from_zero 0)
unfolding up_from
reset_numbered = record { next = lit< tt; each = λ i. lit< tt; waiting = refl }
