-- Events as they come out: which pairs and numbers an image has for them.
use Rattle.basics.proofs.Prelude.{◌≡◌, refl, sym, ap, ◌∙◌, true, false, List, [], ◌∷◌, ℕ, zero, suc, ◌+◌, ◌-◌, ◌*◌, ◌≤◌, arith, length, take, drop, replicate, take-take, take-append-le, part, Twos, written}
use Rattle.rules.specs.{Ring.Event, Ring.capacity, Ring.event_twos, Device.Device, Device.up_from, Numbering.Numbers, Numbering.with_numbers, Numbering.quads_of, Numbering.number_twos}
use Rattle.images.specs.{Form.Form, Form.Field, Form.pairs, Form.numbers, Form.has, Form.size, Form.place, Form.form_length, Image.sixteen, Image.field_of, Image.encode_as, Image.numbers_in}
use Rattle.images.proofs.laws.{Twos.length_written, Layout.has_all, Layout.read_image, Saved.fields_sized}
use Rattle.laws.proofs.laws.Images.{numbers_encode, numbers_lost}
use Rattle.fields.{specs.inplace.Held.Holds, proofs.inplace.Doing.holds_as}
use Rattle.drain.specs.{weave.Weave.woven, events_out.Out.CopiesOut}

-- ---- things of two bytes, of which the first n are taken

module _ {A : Type 0} (t : Twos A) where
  take_written : (n : ℕ) (xs : List A) → take (2 * n) (written t xs) ≡ written t (take n xs)
  take_written zero xs = refl
  take_written (suc n) [] = let s : 2 * suc n ≡ suc (suc (2 * n)) = omega arith in ap (λ k. take k (written t [])) s
  take_written (suc n) (x ∷ xs) = let s : 2 * suc n ≡ suc (suc (2 * n)) = omega arith in ap (λ k. take k (written t (x ∷ xs))) s ∙ ap (λ l. t.low x ∷ t.high x ∷ l) (take_written n xs)

  take_sixteen : (n : ℕ) (xs : List A) → n ≤ length xs → take (2 * n) (sixteen t xs) ≡ written t (take n xs)
  take_sixteen n xs h = take-append-le (2 * n) (written t xs) (replicate (2 * capacity - 2 * length xs) 0) (omega (arith, length_written t xs)) ∙ take_written n xs

take_up : (a n m : ℕ) → n ≤ m → take n (up_from a m) ≡ up_from a n
unfolding up_from
take_up a zero m h = refl
take_up a (suc n) zero h = absurd (omega arith)
take_up a (suc n) (suc m) h = ap (λ l. a ∷ l) (take_up (suc a) n m (omega arith))

-- pairs and numbers woven are events with their numbers
woven_written : (es : List Event) (ns : List ℕ) → woven (written event_twos es) (written number_twos ns) ≡ quads_of (with_numbers es ns)
woven_written [] ns = refl
woven_written (e ∷ es) [] = refl
woven_written (e ∷ es) (n ∷ ns) = ap (λ l. event_twos.low e ∷ event_twos.high e ∷ number_twos.low n ∷ number_twos.high n ∷ l) (woven_written es ns)

-- ---- copied out of an image

module _ (f : Form) (i : List ℕ) (long : length i ≡ form_length f) (n : ℕ) where
  module _ (d : Device) (s : Numbers) (h : Holds i d s) (few : n ≤ length d.ring.waiting) where
    -- the front of a field where it stands
    front_of : {at : ℕ} (p : Field) → has f p ≡ true → at ≡ place f p → 2 * n ≤ size p → part at (at + 2 * n - at) i ≡ take (2 * n) (field_of d s p)
    front_of {at} p k e small =
        let width : at + 2 * n - at ≡ 2 * n = omega arith in
        (λ t. part (e t) (width t) (holds_as f i long h t)) ∙ sym (take-take (2 * n) (size p) (drop (place f p) (encode_as f d s)) small)
        ∙ ap (take (2 * n)) (read_image f (field_of d s) (fields_sized d h.well s h.numbered) p k)

    small : 2 * n ≤ 32
    small = omega (arith, h.well.waiting)

    pairs_front : {at : ℕ} → at ≡ place f pairs → part at (at + 2 * n - at) i ≡ written event_twos (take n d.ring.waiting)
    pairs_front e = front_of pairs (has_all f pairs refl) e small ∙ take_sixteen event_twos n d.ring.waiting few

    numbers_front : {at : ℕ} → has f numbers ≡ true → at ≡ place f numbers → part at (at + 2 * n - at) i ≡ written number_twos (take n (numbers_in i).waiting)
    numbers_front k e =
        front_of numbers k e small ∙ take_sixteen number_twos n s.waiting (omega (arith, h.numbered.waiting))
        ∙ ap (λ (u : Numbers). written number_twos (take n u.waiting)) (sym (ap numbers_in (holds_as f i long h) ∙ numbers_encode d h.well s h.numbered f k))

    zero_front : has f numbers ≡ false → part 0 (2 * n - 0) (written number_twos (up_from 0 16)) ≡ written number_twos (take n (numbers_in i).waiting)
    zero_front k =
        let m = length d.ring.waiting in
        let width : 2 * n - 0 ≡ 2 * n = omega arith in
        ap (λ j. take j (written number_twos (up_from 0 16))) width ∙ take_written number_twos n (up_from 0 16) ∙ ap (written number_twos) (take_up 0 n 16 (omega (arith, small)) ∙ sym (take_up 0 n m few))
        ∙ ap (λ (u : Numbers). written number_twos (take n u.waiting)) (sym (ap numbers_in (holds_as f i long h) ∙ numbers_lost d h.well s h.numbered f k))

  -- with the numbers of the image, or with those from 0 on
  module _ {at : ℕ} (e : at ≡ place f pairs) {out : List ℕ} where
    pub with_numbers_lem : has f numbers ≡ true → {to : ℕ} → to ≡ place f numbers → out ≡ woven (part at (at + 2 * n - at) i) (part to (to + 2 * n - to) i) → CopiesOut i out n
    with_numbers_lem k g w d s h few = w ∙ (λ t. woven (pairs_front d s h few e t) (numbers_front d s h few k g t)) ∙ woven_written (take n d.ring.waiting) (take n (numbers_in i).waiting)

    pub from_zero_lem : has f numbers ≡ false → {first : List ℕ} → first ≡ written number_twos (up_from 0 16) → out ≡ woven (part at (at + 2 * n - at) i) (part 0 (2 * n - 0) first) → CopiesOut i out n
    from_zero_lem k g w d s h few =
        w ∙ (λ t. woven (pairs_front d s h few e t) (part 0 (2 * n - 0) (g t))) ∙ ap (woven (written event_twos (take n d.ring.waiting))) (zero_front d s h few k)
        ∙ woven_written (take n d.ring.waiting) (take n (numbers_in i).waiting)
