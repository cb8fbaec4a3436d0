-- `load_numbers`: the body is handed back, whose unused numbers are zero.
use Rattle.basics.proofs.Prelude.{◌≡◌, sym, ap, ◌∙◌, List, ℕ, ◌+◌, ◌-◌, ◌≤◌, arith, rules, length, part, Bytes}
use Rattle.images.specs.Form.{next, numbered, place, form_length}
use Rattle.images.specs.Image.{field_of, decode_as, numbers_as, accepted, image_test, test_as, number_body, number_body_length}
use Rattle.images.proofs.laws.Layout.{read_run}
use Rattle.images.proofs.laws.Tests.{accepted_has, known_length}
use Rattle.images.proofs.laws.Saved.{encode_decode, decode_well, numbers_well, fields_sized}
use Rattle.image.specs.Shown.{form_view, PlacesOf}
use Rattle.image.specs.declared.form.Form.{Form}
use Rattle.image.specs.declared.form.Form.TheVariants.{Numbered}
use Rattle.image.specs.declared.form.Places.{Places}
use Rattle.image.proofs.Forms.{has_numbers, has_next, body_within}
use Rattle.pch_pic_convert.proofs.load_numbers.load_numbers.Goals as goal
use Rattle.pch_pic_convert.proofs.load_numbers.load_numbers.Goals.{In-Numbered}

-- the body of an accepted image is that of its numbers
body_read : (l : List ℕ) → Bytes l → test_as numbered l ≡ accepted → part (place numbered next) number_body_length l ≡ number_body (numbers_as numbered l)
unfolding number_body
body_read l b e =
    let a = accepted_has numbered l e in
    let d = decode_as numbered l in
    let s = numbers_as numbered l in
    ap (part (place numbered next) number_body_length) (sym (encode_decode numbered l b a))
    ∙ read_run numbered (field_of d s) (fields_sized d (decode_well numbered l b a) s (numbers_well numbered l b a)) next 2

module _ (l : List ℕ) (b : Bytes l) (x : Form) (s : length l ≡ form_length (form_view x)) (p : Places) (o : PlacesOf (form_view x) p) (t : image_test l ≡ accepted) where
  there : x ≡ Numbered → (r : List ℕ) → r ≡ part p.next (p.next + number_body_length - p.next) l → r ≡ number_body (numbers_as (form_view x) l)
  there e r q =
      let f = form_view x in
      let w : p.next + number_body_length - p.next ≡ number_body_length = omega arith in
      let is : f ≡ numbered = ap form_view e in
      q ∙ (λ i. part ((o.fields next (has_next x e) ∙ ap (λ g. place g next) is) i) (w i) l)
      ∙ body_read l b (ap (λ g. test_as g l) (sym is) ∙ sym (known_length f l s) ∙ t) ∙ ap (λ g. number_body (numbers_as g l)) (sym is)

pub returns : goal.returns
returns c t = there c.args.image.now (λ j. search rules) c.args.form c.requires.0 c.places_of-p.result c.places_of-p.ensures t
    c.in-Numbered.is c.copy.new.dst c.copy.ensures

within : (c : In-Numbered) → c.places_of-p.result.next + number_body_length ≤ length c.args.image.now
within c = let told = c.in-Numbered.is in
    body_within (form_view c.args.form) c.args.image.now c.requires.0 c.places_of-p.result c.places_of-p.ensures (has_next c.args.form told) (has_numbers c.args.form told)

pub overflow_add-end : goal.overflow_add-end
overflow_add-end c = omega (arith, within c)

pub slice_bounds-copy-end-2 : goal.slice_bounds-copy-end-2
slice_bounds-copy-end-2 c = omega (arith, within (goal.at.slice_bounds-copy-end-2 c).In-Numbered)
