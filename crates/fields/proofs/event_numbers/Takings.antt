-- Numbers taken where they stand: the next one moves on, and a kept event's waits behind the others. An image without numbers stays as it is.
use Rattle.basics.proofs.Prelude.{◌≡◌, refl, sym, ap, ◌∙◌, true, false, List, [], ◌∷◌, ◌++◌, ℕ, ◌+◌, ◌*◌, ◌<◌, ◌≤◌, arith, length, take, get_or, drop-drop, lt-ltb, le-ltb, number_of, bytes_of, part}
use Rattle.rules.specs.{Ring.capacity, Device.Device, Numbering.Numbers, Numbering.following, Numbering.takes, Numbering.number_twos}
use Rattle.rules.proofs.laws.Numbered.{Fits, fits, fitting, takes_returned}
use Rattle.images.specs.{Form.Form, Form.count, Form.next, Form.numbers, Form.has, Form.place, Form.form_length, Image.field_of, Image.encode_as, Image.encode_like, Image.numbers_in, Image.count_in}
use Rattle.images.proofs.laws.{Twos.sixteen_snoc, Saved.has_next, Saved.numbers_there, Saved.numbers_not_there, Saved.encode_without, Saved.fields_sized, Saved.count_stands}
use Rattle.laws.proofs.laws.Images.{numbers_as_lem, encode_as_lem, numbers_encode}
use Rattle.laws.proofs.laws.InPlace.{with_next, with_waiting, next_apart, numbers_apart, field_written, bytes_written}
use Rattle.bits.specs.bytes.Put.{with_bytes}
use Rattle.fields.specs.{inplace.Held.Holds, inplace.Held.Taken, inplace.Held.NumberOffered, number_bytes.Next.NextTaken}
use Rattle.fields.proofs.inplace.Doing.{holds_as, as_holds}

module _ (f : Form) (i : List ℕ) (long : length i ≡ form_length f) where
  -- ---- an image without numbers

  module _ (without : has f numbers ≡ false) where
    any : (d : Device) (s t : Numbers) → Holds i d s → i ≡ encode_like i d t
    any d s t h = holds_as f i long h ∙ encode_without f without d s t ∙ sym (encode_as_lem f i long d t)

    pub count_taken : {at : ℕ} → at ≡ place f count → Taken i i (get_or i at 0)
    count_taken e = record {
      becomes = λ d s h. record { well = h.well; numbered = fitting (takes_returned (fits h.numbered)); image = any d s (takes s false) h };
      gives = λ d s h. ap (λ a. get_or i a 0) e ∙ sym (ap (λ (t : Numbers). t.next) (numbers_as_lem f i long ∙ numbers_not_there f i without));
    }

    pub none_offered : NumberOffered i i
    none_offered d s h = any d s (takes s true) h

  -- ---- an image with numbers

  module _ (with : has f numbers ≡ true) {at n : ℕ} (e : at ≡ place f next) {j : List ℕ} (t : NextTaken at i j n) where
    has_it : has f next ≡ true
    has_it = has_next f ∙ with

    is_next : n ≡ (numbers_in i).next
    is_next = t.taken ∙ ap (λ a. number_of (part a 2 i)) e ∙ sym (ap (λ (s : Numbers). s.next) (numbers_as_lem f i long ∙ numbers_there f i with))

    module _ (d : Device) (s : Numbers) (h : Holds i d s) where
      -- the number is the next one of the numbers held
      is_held : n ≡ s.next
      is_held = is_next ∙ ap (λ (u : Numbers). u.next) (ap numbers_in (holds_as f i long h) ∙ numbers_encode d h.well s h.numbered f with)

      abbrev moved : Numbers
      moved = with_next s (following s.next)

      moved_on : j ≡ encode_as f d moved
      moved_on =
          t.left ∙ (λ u. with_bytes (e u) 2 (following (is_held u)) (holds_as f i long h u))
          ∙ (λ u. take (place f next) (encode_as f d s) ++ (bytes_of 2 (following s.next) ++ sym (drop-drop 2 (place f next) (encode_as f d s)) u))
          ∙ field_written f (field_of d s) (field_of d moved) (fields_sized d h.well s h.numbered) next has_it (next_apart f d s (following s.next))

      after : Fits (takes s false) (length d.ring.waiting)
      after = takes_returned (fits h.numbered)

      waiting : get_or j (place f count) 0 ≡ length s.waiting
      waiting = ap (count_in f) moved_on ∙ count_stands d h.well moved (fitting after) f ∙ sym h.numbered.waiting

      -- one that finds 16 waiting leaves none there
      full : 16 ≤ get_or j (place f count) 0 → j ≡ encode_like i d (takes s true)
      full k = moved_on ∙ rw (le-ltb (length s.waiting) capacity (omega (arith, k, waiting))) (sym (encode_as_lem f i long d moved))

      -- any other's waits behind those that are there
      room : {to len : ℕ} → to ≡ place f numbers → len ≡ get_or j (place f count) 0 → len < 16 → with_bytes (to + 2 * len) 2 n j ≡ encode_like i d (takes s true)
      room {to} {len} g c k =
          let ws = s.waiting in
          let there : len ≡ length ws = c ∙ waiting in
          let few : length ws < capacity = omega (arith, k, there) in
          (λ u. with_bytes (g u + 2 * there u) 2 (is_held u) (moved_on u))
          ∙ bytes_written f (field_of d moved) (field_of d (with_waiting moved (ws ++ (s.next ∷ [])))) (fields_sized d h.well moved (fitting after)) numbers with (2 * length ws) 2 (bytes_of 2 s.next) refl
          (omega (arith, few)) (sixteen_snoc number_twos ws s.next few) (numbers_apart f d moved (ws ++ (s.next ∷ [])))
          ∙ rw (lt-ltb (length ws) capacity few) (sym (encode_as_lem f i long d (with_waiting moved (ws ++ (s.next ∷ [])))))

    pub full_offered : {place_of len : ℕ} → place_of ≡ place f count → len ≡ get_or j place_of 0 → 16 ≤ len → NumberOffered i j
    full_offered g c k d s h = full d s h (omega (arith, k, c ∙ ap (λ a. get_or j a 0) g))

    pub room_offered : {place_of to len : ℕ} → place_of ≡ place f count → to ≡ place f numbers → len ≡ get_or j place_of 0 → len < 16 → {k : List ℕ} → k ≡ with_bytes (to + 2 * len) 2 n j → NumberOffered i k
    room_offered g r c few q d s h = q ∙ room d s h r (c ∙ ap (λ a. get_or j a 0) g) few

    pub next_taken : Taken i j n
    next_taken = record { becomes = λ d s h. as_holds f h.well (fitting (after d s h)) (moved_on d s h); gives = λ d s h. is_next }
