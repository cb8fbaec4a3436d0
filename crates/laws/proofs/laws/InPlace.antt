-- A part of an image is written in place: it is then the image of the device that differs in that part alone. One law over the form and the part,
-- and then the parts that calls write.
use Rattle.basics.proofs.Prelude.{◌≡◌, refl, sym, ap, ◌∙◌, true, false, or-false, List, [], ◌∷◌, ◌++◌, append-nil, ℕ, ◌+◌, ◌≤◌, add-zero, arith, length, take, drop, drop_of_length-le, length-take-le, take_at, drop_at, drop-drop, put_mid, bytes_of, part}
use Rattle.rules.specs.{Lines.Lines, Lines.with_mask, Lines.with_irr, Lines.with_isr, Ring.Ring}
use Rattle.rules.specs.{Core.Plain, Core.htmsi_en, Core.edge, Core.pol, Core.auto0, Core.auto1, Core.Stored, Core.Core, Core.plain, Core.with_plain, Core.with_routes, Device.Device, Device.with_ring}
use Rattle.rules.specs.Numbering.{Numbers}
use Rattle.images.specs.Form.{Word, mask, irr, isr, copy, stored, Field, word, routes, vectors, count, next, numbers, ring_fields, Form, one, two, numbered, size, is, listed, total, from, fields, has, place, laid, image}
use Rattle.images.specs.Image.{word_of, field_of}
use Rattle.images.proofs.laws.Layout.{Sized, never, by_word, by_plain, by_field, length_laid, from_starts, image_written}

-- ---- a part: where it stands, how long it is, what its bytes are

-- n whole fields from p on; or k bytes of a field, from its byte i on
pub data Part : Type 0 where
  whole : Field → ℕ → Part
  within : Field → ℕ → ℕ → Part

-- the fields that it touches
abbrev pub touched : Form → Part → List Field
touched f (whole p n) = take n (from p (fields f))
touched f (within p i k) = take 1 (from p (fields f))

abbrev pub part_at : Form → Part → ℕ
part_at f (whole p n) = place f p
part_at f (within p i k) = place f p + i

abbrev pub part_length : Form → Part → ℕ
part_length f (whole p n) = total (touched f (whole p n))
part_length f (within p i k) = k

-- its bytes, where b has the bytes of each field
abbrev pub part_bytes : Form → (Field → List ℕ) → Part → List ℕ
part_bytes f b (whole p n) = laid b (touched f (whole p n))
part_bytes f b (within p i k) = part i k (b p)

-- it is a part of the form's images
abbrev pub Inside : Form → Part → Type 0
Inside f (whole p n) = has f p ≡ true
Inside f (within p i k) = (has f p ≡ true) × (i + k ≤ size p)

-- among the fields of the form b and c differ in p alone; in a part alone
abbrev pub Others : Form → (Field → List ℕ) → (Field → List ℕ) → Field → Type 0
Others f b c p = (q : Field) → has f q ≡ true → is q p ≡ false → b q ≡ c q

abbrev pub Apart : Form → (Field → List ℕ) → (Field → List ℕ) → Part → Type 0
Apart f b c (whole p n) = (q : Field) → has f q ≡ true → listed q (touched f (whole p n)) ≡ false → b q ≡ c q
Apart f b c (within p i k) = Others f b c p × (c p ≡ put_mid i k (b p) (part i k (c p)))

-- an image with a part written over
abbrev pub with_part : Form → Part → List ℕ → List ℕ → List ℕ
with_part f x l ys = put_mid (part_at f x) (part_length f x) l ys

-- ---- the law

module _ (f : Form) (b c : Field → List ℕ) (s : Sized b) where
  pub part_written : (x : Part) → Inside f x → Apart f b c x → with_part f x (image f b) (part_bytes f c x) ≡ image f c
  part_written (whole p n) h a =
      let rs = touched f (whole p n) in
      let all : laid c rs ≡ put_mid 0 (total rs) (laid b rs) (laid c rs) =
      sym (append-nil (laid c rs)) ∙ ap (λ m. laid c rs ++ m) (sym (drop_of_length-le (laid b rs) {i = total rs} (omega (arith, length_laid b s rs))))
      in
      ap (λ n. put_mid n (total rs) (image f b) (laid c rs)) (sym (add-zero (place f p))) ∙ image_written f b s c p n a 0 (total rs) (laid c rs) (omega arith) all
  part_written (within p i k) h a =
      let only : take 1 (from p (fields f)) ≡ p ∷ [] = ap (take 1) (from_starts p (fields f) h.0) in
      image_written f b s c p 1 (λ q y t. a.0 q y (sym (or-false (is q p)) ∙ (rw only at t))) i k (part i k (c p)) (rw only (omega (arith, h.1))) (rw only a.1)

  -- one whole field
  pub field_written : (p : Field) → has f p ≡ true → Others f b c p → put_mid (place f p) (size p) (image f b) (c p) ≡ image f c
  field_written p h o =
      let only : take 1 (from p (fields f)) ≡ p ∷ [] = ap (take 1) (from_starts p (fields f) h) in
      rw (only, add-zero) at (part_written (whole p 1) h (λ q y t. o q y (sym (or-false (is q p)) ∙ (rw only at t))))

-- ---- what calls write: other words, another table, another ring

-- a device with another core
abbrev pub with_core : Core → Device → Device
with_core c d = record { core = c; ring = d.ring }

-- a core with other lines, with other vector bytes, with other route bytes, with one word replaced
abbrev pub core_lines : Lines → Core → Core
core_lines l c = record { lines = l; vectors = c.vectors; stored = c.stored }

abbrev pub core_vectors : List ℕ → Core → Core
core_vectors vs c = record { lines = c.lines; vectors = vs; stored = c.stored }

abbrev pub core_routes : List ℕ → Core → Core
core_routes rs c = record { lines = c.lines; vectors = c.vectors; stored = with_routes c.stored rs }

abbrev pub core_word : Word → ℕ → Core → Core
core_word mask x c = core_lines (with_mask c.lines x) c
core_word irr x c = core_lines (with_irr c.lines x) c
core_word isr x c = core_lines (with_isr c.lines x) c
core_word copy x c = c
core_word (stored p) x c = record { lines = c.lines; vectors = c.vectors; stored = with_plain c.stored p x }

-- the ring's body
abbrev pub ring_part : Part
ring_part = whole count (length ring_fields)

-- the other words stay where one is replaced; IRR has a copy
plain_stays : (s : Stored) (x : ℕ) (p r : Plain) → is (word (stored r)) (word (stored p)) ≡ false → plain s r ≡ plain (with_plain s p x) r
plain_stays s x htmsi_en = elim [ htmsi_en ↦ never | edge ↦ λ t. refl | pol ↦ λ t. refl | auto0 ↦ λ t. refl | auto1 ↦ λ t. refl ]
plain_stays s x edge = elim [ htmsi_en ↦ λ t. refl | edge ↦ never | pol ↦ λ t. refl | auto0 ↦ λ t. refl | auto1 ↦ λ t. refl ]
plain_stays s x pol = elim [ htmsi_en ↦ λ t. refl | edge ↦ λ t. refl | pol ↦ never | auto0 ↦ λ t. refl | auto1 ↦ λ t. refl ]
plain_stays s x auto0 = elim [ htmsi_en ↦ λ t. refl | edge ↦ λ t. refl | pol ↦ λ t. refl | auto0 ↦ never | auto1 ↦ λ t. refl ]
plain_stays s x auto1 = elim [ htmsi_en ↦ λ t. refl | edge ↦ λ t. refl | pol ↦ λ t. refl | auto0 ↦ λ t. refl | auto1 ↦ never ]

word_stays : (c : Core) (x : ℕ) (w : Word) → (w ≡ irr → ⊥) → (v : Word) → is (word v) (word w) ≡ false → word_of c v ≡ word_of (core_word w x c) v
word_stays c x mask n = elim [ mask ↦ never | irr ↦ λ t. refl | isr ↦ λ t. refl | copy ↦ λ t. refl | stored r ↦ λ t. refl ]
word_stays c x irr n = absurd (n refl)
word_stays c x isr n = elim [ mask ↦ λ t. refl | irr ↦ λ t. refl | isr ↦ never | copy ↦ λ t. refl | stored r ↦ λ t. refl ]
word_stays c x copy n = λ v t. refl
word_stays c x (stored p) n = elim [ mask ↦ λ t. refl | irr ↦ λ t. refl | isr ↦ λ t. refl | copy ↦ λ t. refl | stored r ↦ plain_stays c.stored x p r ]

tables_stay : (c : Core) (x : ℕ) (w : Word) → (c.vectors ≡ (core_word w x c).vectors) × (c.stored.routes ≡ (core_word w x c).stored.routes)
tables_stay c x = by_word _ (refl, refl) (refl, refl) (refl, refl) (refl, refl)
    (λ p. (refl, elim p as (λ k. c.stored.routes ≡ (core_word (stored k) x c).stored.routes) [ htmsi_en ↦ refl | edge ↦ refl | pol ↦ refl | auto0 ↦ refl | auto1 ↦ refl ]))

-- one word but IRR
pub word_apart : (f : Form) (d : Device) (s : Numbers) (w : Word) (x : ℕ) → (w ≡ irr → ⊥) → Others f (field_of d s) (field_of (with_core (core_word w x d.core) d) s) (word w)
word_apart f d s w x n =
    let c = d.core in
    let stay = tables_stay c x w in
    by_field _ (λ v h t. ap (bytes_of 8) (word_stays c x w n v t)) (λ h t. stay.1) (λ h t. stay.0) (λ h t. refl, λ h t. refl, λ h t. refl) (λ h t. refl, λ h t. refl)

-- the ring's body, the same fields in each form
pub ring_touched : (f : Form) → touched f ring_part ≡ ring_fields
ring_touched one = refl
ring_touched two = refl
ring_touched numbered = refl

pub ring_apart : (f : Form) (d : Device) (s : Numbers) (r : Ring) → Apart f (field_of d s) (field_of (with_ring d r) s) ring_part
ring_apart f d s r q h t = by_field (λ q. listed q ring_fields ≡ false → field_of d s q ≡ field_of (with_ring d r) s q)
    (λ w t. refl) (λ t. refl) (λ t. refl) (never, never, never) (λ t. refl, λ t. refl) q (rw (ring_touched f) at t)

-- entries of a table: the words stay
same_words : (c d : Core) → c.lines ≡ d.lines → ((p : Plain) → plain c.stored p ≡ plain d.stored p) → (w : Word) → word_of c w ≡ word_of d w
same_words c d e h = by_word _ (ap (λ l. l.mask) e) (ap (λ l. l.irr) e) (ap (λ l. l.isr) e) (ap (λ l. l.irr) e) h

module _ (f : Form) (d : Device) (s : Numbers) (xs : List ℕ) (i k : ℕ) where
  pub vectors_apart : xs ≡ put_mid i k d.core.vectors (part i k xs) → Apart f (field_of d s) (field_of (with_core (core_vectors xs d.core) d) s) (within vectors i k)
  vectors_apart e =
      let same = same_words d.core (core_vectors xs d.core) refl (λ p. refl) in
      (by_field _ (λ w h t. ap (bytes_of 8) (same w)) (λ h t. refl) (λ h. never) (λ h t. refl, λ h t. refl, λ h t. refl) (λ h t. refl, λ h t. refl), e)

  pub routes_apart : xs ≡ put_mid i k d.core.stored.routes (part i k xs) → Apart f (field_of d s) (field_of (with_core (core_routes xs d.core) d) s) (within routes i k)
  routes_apart e =
      let same = same_words d.core (core_routes xs d.core) refl (by_plain _ (refl, refl, refl, refl, refl)) in
      (by_field _ (λ w h t. ap (bytes_of 8) (same w)) (λ h. never) (λ h t. refl) (λ h t. refl, λ h t. refl, λ h t. refl) (λ h t. refl, λ h t. refl), e)

-- ---- the numbers

abbrev pub with_next : Numbers → ℕ → Numbers
with_next s n = record { next = n; waiting = s.waiting }

abbrev pub with_waiting : Numbers → List ℕ → Numbers
with_waiting s ns = record { next = s.next; waiting = ns }

module _ (f : Form) (d : Device) (s : Numbers) where
  pub next_apart : (n : ℕ) → Others f (field_of d s) (field_of d (with_next s n)) next
  next_apart n = by_field _ (λ w h t. refl) (λ h t. refl) (λ h t. refl) (λ h t. refl, λ h t. refl, λ h t. refl) (λ h. never, λ h t. refl)

  pub numbers_apart : (ns : List ℕ) → Others f (field_of d s) (field_of d (with_waiting s ns)) numbers
  numbers_apart ns = by_field _ (λ w h t. refl) (λ h t. refl) (λ h t. refl) (λ h t. refl, λ h t. refl, λ h t. refl) (λ h t. refl, λ h. never)

-- ---- some bytes of a field replaced, wherever they stand in it

module _ (f : Form) (b c : Field → List ℕ) (s : Sized b) (p : Field) (h : has f p ≡ true) (at n : ℕ) (ys : List ℕ) (long : length ys ≡ n) (room : at + n ≤ size p) where
  -- put over those that stand there, and standing there after
  over : (a : ℕ) (l : List ℕ) → take a l ++ (ys ++ drop (a + n) l) ≡ put_mid a n l ys
  over a l t = take a l ++ (ys ++ sym (drop-drop n a l) t)

  there : part at n (take at (b p) ++ (ys ++ drop (at + n) (b p))) ≡ ys
  there =
      ap (take n) (drop_at (take at (b p)) (ys ++ drop (at + n) (b p)) at (length-take-le at (b p) (omega (arith, s p))))
      ∙ take_at ys (drop (at + n) (b p)) n long

  pub bytes_written : c p ≡ take at (b p) ++ (ys ++ drop (at + n) (b p)) → Others f b c p
      → take (place f p + at) (image f b) ++ (ys ++ drop (place f p + at + n) (image f b)) ≡ image f c
  bytes_written e o =
      let new : part at n (c p) ≡ ys = ap (part at n) e ∙ there in
      over (place f p + at) (image f b) ∙ ap (put_mid (place f p + at) n (image f b)) (sym new)
      ∙ part_written f b c s (within p at n) (h, room) (o, e ∙ over at (b p) ∙ ap (put_mid at n (b p)) (sym new))
