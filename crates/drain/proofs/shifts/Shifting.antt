-- Fields of an image replaced one after another: between them the bytes are no device's image, and after the last they are.
use Rattle.basics.proofs.Prelude.{◌≡◌, refl, sym, ap, subst, ◌∙◌, true, cond, false≢true, List, [], ◌∷◌, ◌++◌, ℕ, suc, ◌+◌, ◌-◌, ◌≤◌, add-one, arith, length, take, drop, set, length-drop, set_split, drop-drop, put_mid, part, test}
use Rattle.rules.specs.{Ring.Event, Ring.capacity, Ring.event_twos, Ring.drawn, Device.Device, Device.with_ring, Numbering.Numbers, Numbering.number_twos, Numbering.fewer}
use Rattle.rules.proofs.laws.{Numbered.fits, Numbered.fitting, Numbered.drawn_fit, Steps.drain_well}
use Rattle.images.specs.{Form.Form, Form.Field, Form.count, Form.pairs, Form.numbers, Form.is, Form.has, Form.size, Form.place, Form.form_length, Form.read, Form.image, Image.sixteen, Image.field_of}
use Rattle.images.proofs.laws.Twos.{length_sixteen}
use Rattle.images.proofs.laws.Layout.{Sized, is_sound, is_self, by_field, has_all, field_fits, headed_image, image_known, length_image, read_image}
use Rattle.images.proofs.laws.Saved.{fields_sized}
use Rattle.laws.proofs.laws.InPlace.{field_written}
use Rattle.fields.{specs.inplace.Held.Holds, proofs.inplace.Doing.holds_as, proofs.inplace.Doing.as_holds}
use Rattle.drain.specs.{move_up.Left.Unused, move_up.Left.shifted, move_up.Left.Leaves, shifts.Shifted.NumbersLeave, shifts.Shifted.Shifts}
use Rattle.drain.proofs.move_up.Moving.{sixteen_spare, sixteen_shifted}

-- ---- one field replaced

abbrev replaced : (Field → List ℕ) → Field → List ℕ → Field → List ℕ
replaced b p ys q = cond (is q p) ys (b q)

replaced_sized : (b : Field → List ℕ) → Sized b → (p : Field) (ys : List ℕ) → length ys ≡ size p → Sized (replaced b p ys)
replaced_sized b s p ys e q = test (is q p) (λ t. rw t (e ∙ ap size (sym (is_sound q p t)))) (λ t. rw t (s q))

module _ (f : Form) (b : Field → List ℕ) (s : Sized b) where
  field_replaced : (p : Field) → has f p ≡ true → (ys : List ℕ) → put_mid (place f p) (size p) (image f b) ys ≡ image f (replaced b p ys)
  field_replaced p h ys =
      let there : replaced b p ys p ≡ ys = rw is_self in
      ap (put_mid (place f p) (size p) (image f b)) (sym there) ∙ field_written f b (replaced b p ys) s p h (λ q k t. rw t)

  -- the fields of the form alone make the image
  image_agree : (c : Field → List ℕ) → ((p : Field) → has f p ≡ true → b p ≡ c p) → image f b ≡ image f c
  image_agree c o = sym (image_known f (image f b) c (length_image f b s) (headed_image f b) (λ p h. sym (o p h) ∙ sym (read_image f b s p h)))

-- a field of one byte, stored
byte_stored : (f : Form) (b : Field → List ℕ) → Sized b → (v : ℕ) → set (image f b) (place f count) v ≡ image f (replaced b count (v ∷ []))
byte_stored f b s v =
    let at = place f count in
    let inside : suc at ≤ length (image f b) = omega (arith, length_image f b s, field_fits f count (has_all f count refl)) in
    set_split (image f b) at v inside ∙ (λ t. take at (image f b) ++ (v ∷ (ap (λ k. drop k (image f b)) (sym (add-one at)) ∙ sym (drop-drop 1 at (image f b))) t))
    ∙ field_replaced f b s count (has_all f count refl) (v ∷ [])

-- ---- the pairs, the numbers and the count, as a drain leaves them

module _ (f : Form) (i : List ℕ) (long : length i ≡ form_length f) (m n : ℕ) (h : n ≤ m) (few : m ≤ capacity) where
  module _ (d : Device) (s : Numbers) (holds : Holds i d s) (c : m ≡ length d.ring.waiting) where
    abbrev es : List Event
    es = d.ring.waiting

    abbrev ws : List ℕ
    ws = s.waiting

    -- the fields once the pairs are shifted, and once the numbers are too
    abbrev fewer_pairs : Field → List ℕ
    fewer_pairs = replaced (field_of d s) pairs (sixteen event_twos (drop n es))

    abbrev fewer_numbers : Field → List ℕ
    fewer_numbers = replaced fewer_pairs numbers (sixteen number_twos (drop n ws))

    many : length ws ≡ m
    many = holds.numbered.waiting ∙ sym c

    sized : Sized (field_of d s)
    sized = fields_sized d holds.well s holds.numbered

    sized_pairs : Sized fewer_pairs
    sized_pairs = replaced_sized (field_of d s) sized pairs (sixteen event_twos (drop n es)) (length_sixteen event_twos (drop n es) (omega (arith, length-drop n es)))

    sized_numbers : Sized fewer_numbers
    sized_numbers = replaced_sized fewer_pairs sized_pairs numbers (sixteen number_twos (drop n ws)) (length_sixteen number_twos (drop n ws) (omega (arith, many, length-drop n ws)))

    pairs_left : {at : ℕ} → at ≡ place f pairs → {ps : List ℕ} → Leaves (part at (at + 32 - at) i) ps m n → put_mid at (at + 32 - at) i ps ≡ image f fewer_pairs
    pairs_left {at} e {ps} l =
        let width : at + 32 - at ≡ 32 = omega arith in
        let there : part at (at + 32 - at) i ≡ sixteen event_twos es = (λ t. part (e t) (width t) (holds_as f i long holds t)) ∙ read_image f (field_of d s) sized pairs (has_all f pairs refl) in
        let new : ps ≡ sixteen event_twos (drop n es) =
        l (subst (λ k. Unused k m) (sym there) (sixteen_spare event_twos n m es (sym c) h few)) ∙ ap (λ k. shifted k n) there ∙ sixteen_shifted event_twos n m es (sym c) h few
        in
        (λ t. put_mid (e t) (width t) (holds_as f i long holds t) (new t)) ∙ field_replaced f (field_of d s) sized pairs (has_all f pairs refl) (sixteen event_twos (drop n es))

    numbers_left : {j k : List ℕ} → j ≡ image f fewer_pairs → NumbersLeave f j k m n → k ≡ image f fewer_numbers
    numbers_left {j} {k} e l =
        test (has f numbers)
        (λ y. let there : read f j numbers ≡ sixteen number_twos ws = ap (λ u. read f u numbers) e ∙ read_image f fewer_pairs sized_pairs numbers y in
        l.there y (subst (λ u. Unused u m) (sym there) (sixteen_spare number_twos n m ws many h few)) ∙ (λ t. put_mid (place f numbers) 32 (e t) (shifted (there t) n))
        ∙ ap (put_mid (place f numbers) 32 (image f fewer_pairs)) (sixteen_shifted number_twos n m ws many h few) ∙ field_replaced f fewer_pairs sized_pairs numbers y (sixteen number_twos (drop n ws)))
        (λ y. l.without y ∙ e
        ∙ image_agree f fewer_pairs sized_pairs fewer_numbers (by_field _ (λ w t. refl) (λ t. refl) (λ t. refl) (λ t. refl, λ t. refl, λ t. refl) (λ t. refl, λ t. absurd (false≢true (sym y ∙ t)))))

    count_left : image f (replaced fewer_numbers count ((m - n) ∷ [])) ≡ image f (field_of (with_ring d (drawn d.ring n).after) (fewer s n))
    unfolding drawn
    count_left =
        let left : m - n ≡ length (drop n es) = omega (arith, length-drop n es) in
        image_agree f (replaced fewer_numbers count ((m - n) ∷ [])) (replaced_sized fewer_numbers sized_numbers count ((m - n) ∷ []) refl) (field_of (with_ring d (drawn d.ring n).after) (fewer s n))
        (by_field _ (λ w t. refl) (λ t. refl) (λ t. refl) (λ t. ap (λ x. x ∷ []) left, λ t. refl, λ t. refl) (λ t. refl, λ t. refl))

  pub shifts : {at to : ℕ} → at ≡ place f pairs → to ≡ place f count → {ps : List ℕ} → Leaves (part at (at + 32 - at) i) ps m n
      → {j : List ℕ} → NumbersLeave f (put_mid at (at + 32 - at) i ps) j m n → Shifts i (set j to (m - n)) m n
  shifts e g l k d s holds c =
      as_holds f (drain_well d n holds.well) (fitting (drawn_fit d.ring n (fits holds.numbered)))
      ((λ t. set (numbers_left d s holds c (pairs_left d s holds c e l) k t) (g t) (m - n)) ∙ byte_stored f (fewer_numbers d s holds c) (sized_numbers d s holds c) (m - n) ∙ count_left d s holds c)

-- ---- the numbers alone

module _ (f : Form) (i : List ℕ) (m n : ℕ) where
  pub numbers_leave : has f numbers ≡ true → {at : ℕ} → at ≡ place f numbers → {ys : List ℕ} → Leaves (part at (at + 32 - at) i) ys m n → NumbersLeave f i (put_mid at (at + 32 - at) i ys) m n
  numbers_leave y {at} e l =
      let width : at + 32 - at ≡ 32 = omega arith in
      let there : part at (at + 32 - at) i ≡ read f i numbers = λ t. part (e t) (width t) i in
      record {
        there = λ z u. λ t. put_mid (e t) (width t) i ((l (subst (λ k. Unused k m) (sym there) u) ∙ ap (λ k. shifted k n) there) t);
        without = λ z. absurd (false≢true (sym z ∙ y));
      }
