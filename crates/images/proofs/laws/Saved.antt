-- What an image holds against its bytes, in both directions and in any form; and the sizes that come with it.
use Rattle.basics.proofs.Prelude.{◌≡◌, refl, sym, ap, subst, ◌∙◌, true, false, false≢true, List, [], ◌∷◌, ℕ, zero, suc, ◌+◌, ◌-◌, ◌*◌, ◌^◌, ◌<◌, ◌≤◌, arith, lit<, length, get_or, replicate, number_of, bytes_of, Bytes, spelled, test, number_of_bytes_of, bytes_known, bytes_append, bytes_part, bytes_bytes_of, part_number, part_below}
use Rattle.rules.specs.{Ring.capacity, Ring.event_twos, Core.plain, Core.htmsi_en, Core.edge, Core.pol, Core.auto0, Core.auto1, Device.Device, Device.WellFormed, Device.up_from}
use Rattle.rules.specs.Numbering.{Numbers, WellNumbered, from_zero, number_twos}
use Rattle.images.specs.Form.{Word, mask, irr, isr, copy, stored, Field, word, routes, vectors, count, drops, pairs, next, numbers, Form, one, two, numbered, fields, has, size, place, form_length, contents_of, read, laid, image}
use Rattle.images.specs.Image.{word_of, sixteen, field_of, encode_as, word_in, count_in, events_of, decode_as, numbers_as, accepted, test_as}
use Rattle.images.proofs.laws.Layout.{Sized, by_plain, by_field, always, has_all, field_fits, laid_cons, headed_image, image_known, length_image, read_image}
use Rattle.images.proofs.laws.Twos.{length_spelled, spelled_written, event_comes, events_back, events_fit, written_flags, bytes_vectors, number_comes, numbers_fit, numbers_back, numbers_small, length_sixteen, bytes_sixteen, sixteen_unused, sixteen_back}
use Rattle.images.proofs.laws.Tests.{Accepted, length_read, count_read, accepted_if_has}

-- ---- numbers

-- a form that has the next number has the others
pub has_next : (f : Form) → has f next ≡ has f numbers
has_next one = refl
has_next two = refl
has_next numbered = refl

-- numbers are those that an image has, or those from 0 on
pub numbers_there : (f : Form) (l : List ℕ) → has f numbers ≡ true → numbers_as f l ≡ record { next = number_of (read f l next); waiting = spelled number_twos (count_in f l) (read f l numbers) }
numbers_there f l h = rw h

pub numbers_not_there : (f : Form) (l : List ℕ) → has f numbers ≡ false → numbers_as f l ≡ from_zero (count_in f l)
numbers_not_there f l h = rw h

pub length_up_from : (n k : ℕ) → length (up_from n k) ≡ k
unfolding up_from
length_up_from n zero = refl
length_up_from n (suc k) = ap suc (length_up_from (suc n) k)

up_from_below : (n k i : ℕ) → n + k ≤ 2 ^ 16 → get_or (up_from n k) i 0 < 2 ^ 16
unfolding up_from
up_from_below n zero i h = lit< tt
up_from_below n (suc k) zero h = omega arith
up_from_below n (suc k) (suc i) h = up_from_below (suc n) k i (omega arith)

-- those from 0 on are numbers of any device that has as many waiting
pub from_zero_well : (d : Device) → length d.ring.waiting ≤ capacity → WellNumbered d (from_zero (length d.ring.waiting))
from_zero_well d h = let n = length d.ring.waiting in record { next = omega arith; each = λ i. up_from_below 0 n i (omega arith); waiting = length_up_from 0 n }

-- ---- an accepted image, decoded and encoded

alone : (l : List ℕ) → length l ≡ 1 → get_or l 0 0 ∷ [] ≡ l
alone [] e = absurd (omega arith)
alone (x ∷ []) e = refl
alone (x ∷ y ∷ l) e = absurd (omega arith)

module _ (f : Form) (l : List ℕ) (b : Bytes l) (a : Accepted f l) where
  in_image : (p : Field) → has f p ≡ true → place f p + size p ≤ length l
  in_image p h = omega (arith, field_fits f p h, a.sized)

  -- a field is the bytes of its number
  number_back : (p : Field) → has f p ≡ true → bytes_of (size p) (number_of (read f l p)) ≡ read f l p
  number_back p h = part_number l (place f p) (size p) b (in_image p h)

  number_small : (p : Field) → always p ≡ true → number_of (read f l p) < 256 ^ size p
  number_small p h = part_below l (place f p) (size p) b (in_image p (has_all f p h))

  word_back : (w : Word) → has f (word w) ≡ true → bytes_of 8 (word_of (decode_as f l).core w) ≡ read f l (word w)
  word_back mask h = number_back (word mask) h
  word_back irr h = number_back (word irr) h
  word_back isr h = number_back (word isr) h
  word_back copy h = ap (bytes_of 8) (sym (a.ruled.copied h)) ∙ number_back (word copy) h
  word_back (stored htmsi_en) h = number_back (word (stored htmsi_en)) h
  word_back (stored edge) h = number_back (word (stored edge)) h
  word_back (stored pol) h = number_back (word (stored pol)) h
  word_back (stored auto0) h = number_back (word (stored auto0)) h
  word_back (stored auto1) h = number_back (word (stored auto1)) h

  length_pairs : length (read f l pairs) ≡ 2 * capacity
  length_pairs = length_read f l a.sized pairs (has_all f pairs refl)

  -- as many events are spelled as wait
  many : length (events_of (count_in f l) (read f l pairs)) ≡ count_in f l
  many = length_spelled event_twos (count_in f l) (read f l pairs) (omega (arith, length_pairs, a.ruled.counted))

  -- and as many numbers
  length_numbers : has f numbers ≡ true → length (read f l numbers) ≡ 2 * capacity
  length_numbers h = length_read f l a.sized numbers h

  many_numbers : has f numbers ≡ true → length (spelled number_twos (count_in f l) (read f l numbers)) ≡ count_in f l
  many_numbers h = length_spelled number_twos (count_in f l) (read f l numbers) (omega (arith, length_numbers h, a.ruled.counted))

  field_back : (p : Field) → has f p ≡ true → field_of (decode_as f l) (numbers_as f l) p ≡ read f l p
  field_back (word w) h = word_back w h
  field_back routes h = refl
  field_back vectors h = refl
  field_back count h = ap (λ n. n ∷ []) (many ∙ sym (count_read f l)) ∙ alone (read f l count) (length_read f l a.sized count h)
  field_back drops h = number_back drops h
  field_back pairs h =
      sixteen_back event_twos (count_in f l) (read f l pairs) length_pairs a.ruled.counted
      (λ i k. event_comes (get_or (read f l pairs) (2 * i) 0) (get_or (read f l pairs) (2 * i + 1) 0) (a.ruled.flagged (2 * i + 1) (omega arith) (omega arith))) a.ruled.unused
  field_back next h = ap (λ (s : Numbers). bytes_of 2 s.next) (numbers_there f l (sym (has_next f) ∙ h)) ∙ number_back next h
  field_back numbers h =
      let b-read = bytes_part l (place f numbers) (size numbers) b in
      ap (λ (s : Numbers). sixteen number_twos s.waiting) (numbers_there f l h)
      ∙ sixteen_back number_twos (count_in f l) (read f l numbers) (length_numbers h) a.ruled.counted
      (λ i k. number_comes (get_or (read f l numbers) (2 * i) 0) (get_or (read f l numbers) (2 * i + 1) 0) (b-read (2 * i)) (b-read (2 * i + 1))) (a.ruled.spare h)

  pub encode_decode : encode_as f (decode_as f l) (numbers_as f l) ≡ l
  encode_decode = image_known f l (field_of (decode_as f l) (numbers_as f l)) a.sized a.headed field_back

  -- what is loaded has the sizes that can be saved
  word_small : (w : Word) → always (word w) ≡ true → word_in f l w < 2 ^ 64
  word_small w h = number_small (word w) h

  pub decode_well : WellFormed (decode_as f l)
  decode_well = record {
    mask = word_small mask refl;
    irr = word_small irr refl;
    isr = word_small isr refl;
    plains =
        by_plain (λ p. plain (decode_as f l).core.stored p < 2 ^ 64)
        (word_small (stored htmsi_en) refl, word_small (stored edge) refl, word_small (stored pol) refl, word_small (stored auto0) refl, word_small (stored auto1) refl);
    route_bytes = bytes_part l (place f routes) (size routes) b;
    routes = length_read f l a.sized routes (has_all f routes refl);
    vector_bytes = bytes_part l (place f vectors) (size vectors) b;
    vectors = length_read f l a.sized vectors (has_all f vectors refl);
    event_bytes = bytes_vectors (count_in f l) (read f l pairs) (bytes_part l (place f pairs) (size pairs) b);
    waiting = omega (arith, many, a.ruled.counted);
    drops = omega (arith, number_small drops refl);
  }

  pub numbers_well : WellNumbered (decode_as f l) (numbers_as f l)
  numbers_well =
      test (has f numbers)
      (λ h. subst (WellNumbered (decode_as f l)) (sym (numbers_there f l h)) (record {
        next = part_below l (place f next) (size next) b (in_image next (has_next f ∙ h));
        each = numbers_small (count_in f l) (read f l numbers) (bytes_part l (place f numbers) (size numbers) b);
        waiting = many_numbers h ∙ sym many;
      }))
      (λ h. subst (λ n. WellNumbered (decode_as f l) n) (ap from_zero many ∙ sym (numbers_not_there f l h)) (from_zero_well (decode_as f l) (omega (arith, many, a.ruled.counted))))

-- ---- a device, encoded and decoded

bytes_laid : (c : Field → List ℕ) → ((p : Field) → Bytes (c p)) → (ps : List Field) → Bytes (laid c ps)
bytes_laid c h [] i = lit< tt
bytes_laid c h (p ∷ ps) i = rw (laid_cons c p ps) (bytes_append (c p) (laid c ps) (h p) (bytes_laid c h ps) i)

pub bytes_contents : (f : Form) → Bytes (contents_of f)
bytes_contents one = bytes_known (contents_of one) refl
bytes_contents two = bytes_known (contents_of two) refl
bytes_contents numbered = bytes_known (contents_of numbered) refl

-- a field that every form has says nothing of the numbers, and neither does an image without the fifth body
pub field_same : (d : Device) (s t : Numbers) (p : Field) → always p ≡ true → field_of d s p ≡ field_of d t p
field_same d s t = by_field _ (λ w h. refl) (λ h. refl) (λ h. refl) (λ h. refl, λ h. refl, λ h. refl) (λ h. absurd (false≢true h), λ h. absurd (false≢true h))

pub encode_without : (f : Form) → has f numbers ≡ false → (d : Device) (s t : Numbers) → encode_as f d s ≡ encode_as f d t
unfolding image
encode_without one h d s t = refl
encode_without two h d s t = refl
encode_without numbered h d s t = absurd (false≢true (sym h))

-- each field has its bytes, also where as many numbers as fit wait beside another number of events
pub fields_fit : (d : Device) → WellFormed d → (s : Numbers) → length s.waiting ≤ capacity → Sized (field_of d s)
fields_fit d w s k (word x) = refl
fields_fit d w s k routes = w.routes
fields_fit d w s k vectors = w.vectors
fields_fit d w s k count = refl
fields_fit d w s k drops = refl
fields_fit d w s k pairs = length_sixteen event_twos d.ring.waiting w.waiting
fields_fit d w s k next = refl
fields_fit d w s k numbers = length_sixteen number_twos s.waiting k

module _ (d : Device) (w : WellFormed d) (s : Numbers) (v : WellNumbered d s) where
  pub few_numbers : length s.waiting ≤ capacity
  few_numbers = omega (arith, w.waiting, v.waiting)

  pub fields_sized : Sized (field_of d s)
  fields_sized = fields_fit d w s few_numbers

  fields_bytes : (p : Field) → Bytes (field_of d s p)
  fields_bytes (word x) = bytes_bytes_of 8 (word_of d.core x)
  fields_bytes routes = w.route_bytes
  fields_bytes vectors = w.vector_bytes
  fields_bytes count = elim [ zero ↦ omega (arith, w.waiting) | suc i ↦ lit< tt ]
  fields_bytes drops = bytes_bytes_of 4 d.ring.drops
  fields_bytes pairs = bytes_sixteen event_twos d.ring.waiting (events_fit d.ring.waiting w.event_bytes)
  fields_bytes next = bytes_bytes_of 2 s.next
  fields_bytes numbers = bytes_sixteen number_twos s.waiting (numbers_fit s.waiting v.each)

  module _ (f : Form) where
    pub bytes_encode : Bytes (encode_as f d s)
    unfolding image
    bytes_encode = bytes_append (contents_of f) (laid (field_of d s) (fields f)) (bytes_contents f) (bytes_laid (field_of d s) fields_bytes (fields f))

    pub length_encode : length (encode_as f d s) ≡ form_length f
    length_encode = length_image f (field_of d s) fields_sized

    -- each field stands in its place; and the fields that every form has
    stands : (p : Field) → has f p ≡ true → read f (encode_as f d s) p ≡ field_of d s p
    stands = read_image f (field_of d s) fields_sized

    pub field_stands : (p : Field) → always p ≡ true → read f (encode_as f d s) p ≡ field_of d s p
    field_stands p h = stands p (has_all f p h)

    pub count_stands : count_in f (encode_as f d s) ≡ length d.ring.waiting
    count_stands = sym (count_read f (encode_as f d s)) ∙ ap (λ m. get_or m 0 0) (field_stands count refl)

    pub word_stands : (x : Word) → always (word x) ≡ true → word_of d.core x < 2 ^ 64 → word_in f (encode_as f d s) x ≡ word_of d.core x
    word_stands x h k = ap number_of (field_stands (word x) h) ∙ number_of_bytes_of 8 (word_of d.core x) k

    pub encode_has : Accepted f (encode_as f d s)
    encode_has =
        let es = d.ring.waiting in
        record {
          sized = length_encode;
          headed = headed_image f (field_of d s);
          ruled = record {
            copied = λ h. ap number_of (stands (word copy) h) ∙ sym (ap number_of (field_stands (word irr) refl));
            counted = rw count_stands w.waiting;
            flagged = rw (count_stands, field_stands pairs refl) (written_flags es (replicate (2 * capacity - 2 * length es) 0));
            unused = rw (count_stands, field_stands pairs refl) (sixteen_unused event_twos es);
            spare = λ h. rw (count_stands, stands numbers h) (λ i k. sixteen_unused number_twos s.waiting i (omega (arith, v.waiting, k)));
          };
        }

    -- a device's image is accepted
    pub accepted_encode : test_as f (encode_as f d s) ≡ accepted
    accepted_encode = accepted_if_has f (encode_as f d s) encode_has

    -- and holds the device
    pub decode_encode : decode_as f (encode_as f d s) ≡ d
    decode_encode =
        let es = d.ring.waiting in
        let events = (λ j. events_of (count_stands j) (field_stands pairs refl j)) ∙ spelled_written event_twos es (replicate (2 * capacity - 2 * length es) 0) (events_back es) in
        (λ i. record {
          core = record {
            lines = record { mask = word_stands mask refl w.mask i; irr = word_stands irr refl w.irr i; isr = word_stands isr refl w.isr i };
            vectors = field_stands vectors refl i;
            stored = record {
              htmsi_en = word_stands (stored htmsi_en) refl (w.plains htmsi_en) i;
              edge = word_stands (stored edge) refl (w.plains edge) i;
              pol = word_stands (stored pol) refl (w.plains pol) i;
              auto0 = word_stands (stored auto0) refl (w.plains auto0) i;
              auto1 = word_stands (stored auto1) refl (w.plains auto1) i;
              routes = field_stands routes refl i;
            };
          };
          ring = record { waiting = events i; drops = (ap number_of (field_stands drops refl) ∙ number_of_bytes_of 4 d.ring.drops (omega (arith, w.drops))) i };
        })

    -- with the numbers, where the form has them; else with those from 0 on
    pub numbers_encode : has f numbers ≡ true → numbers_as f (encode_as f d s) ≡ s
    numbers_encode h =
        let ns = s.waiting in
        let rest : List ℕ = replicate (2 * capacity - 2 * length ns) 0 in
        numbers_there f (encode_as f d s) h
        ∙ (λ i. record {
          next = (ap number_of (stands next (has_next f ∙ h)) ∙ number_of_bytes_of 2 s.next v.next) i;
          waiting = ((λ j. spelled number_twos ((count_stands ∙ sym v.waiting) j) (stands numbers h j)) ∙ spelled_written number_twos ns rest (numbers_back ns v.each)) i;
        })

    pub numbers_lost : has f numbers ≡ false → numbers_as f (encode_as f d s) ≡ from_zero (length d.ring.waiting)
    numbers_lost h = numbers_not_there f (encode_as f d s) h ∙ ap from_zero count_stands
