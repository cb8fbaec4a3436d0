-- The words of an image, read and stored where they stand: one law over the form and the word.
use Rattle.basics.proofs.Prelude.{◌≡◌, refl, sym, ap, subst, ◌∙◌, Bool, true, false, cond, false≢true, List, ◌++◌, ℕ, ◌+◌, ◌^◌, ◌<◌, ◌≤◌, arith, length, take, drop-drop, put_mid, bytes_of, Bytes, test}
use Rattle.rules.specs.{Lines.Lines, Core.Core, Core.Stored, Core.Plain, Core.htmsi_en, Core.edge, Core.pol, Core.auto0, Core.auto1, Core.plain, Core.with_plain, Device.Device, Device.WellFormed}
use Rattle.rules.{specs.Numbering.Numbers, specs.Numbering.WellNumbered, proofs.laws.Numbered.same_ring}
use Rattle.images.specs.Form.{Word, mask, irr, isr, copy, stored, Field, word, pairs, numbers, Form, is, has, place, form_length, image}
use Rattle.images.specs.Image.{word_of, field_of, register_at, encode_as}
use Rattle.images.proofs.laws.{Layout.Sized, Layout.never, Layout.by_word, Layout.by_field, Layout.always, Layout.has_all, Layout.field_fits, Saved.fields_sized, Saved.word_stands}
use Rattle.laws.proofs.laws.InPlace.{with_core, core_word, field_written, word_apart}
use Rattle.bits.specs.bytes.Put.{with_word}
use Rattle.image.specs.{Shown.PlacesOf, declared.form.Places.Places}
use Rattle.fields.proofs.inplace.Doing.{holds_as, as_holds}
use Rattle.fields.specs.inplace.Held.{Holds, Reads, Becomes, with_lines}

-- ---- sizes

-- every word of a device has 64 bits
word_small : {d : Device} → WellFormed d → (w : Word) → word_of d.core w < 2 ^ 64
word_small w = by_word _ w.mask w.irr w.isr w.irr w.plains

module _ {d : Device} (w : WellFormed d) where
  -- a device stays well formed with other lines of 64 bits
  lines_well : (l : Lines) → l.mask < 2 ^ 64 → l.irr < 2 ^ 64 → l.isr < 2 ^ 64 → WellFormed (with_lines d l)
  lines_well l h k m = record {
    mask = h;
    irr = k;
    isr = m;
    plains = w.plains;
    route_bytes = w.route_bytes;
    routes = w.routes;
    vector_bytes = w.vector_bytes;
    vectors = w.vectors;
    event_bytes = w.event_bytes;
    waiting = w.waiting;
    drops = w.drops;
  }

  -- and with another plain register of 64 bits
  plain_well : (p : Plain) (x : ℕ) → x < 2 ^ 64 → WellFormed (with_core (core_word (stored p) x d.core) d)
  plain_well p x h = record {
    mask = w.mask;
    irr = w.irr;
    isr = w.isr;
    plains = each p;
    route_bytes = subst Bytes (same p) w.route_bytes;
    routes = ap length (sym (same p)) ∙ w.routes;
    vector_bytes = w.vector_bytes;
    vectors = w.vectors;
    event_bytes = w.event_bytes;
    waiting = w.waiting;
    drops = w.drops;
  }
    where
      same : (p : Plain) → d.core.stored.routes ≡ (with_plain d.core.stored p x).routes
      same = elim [ htmsi_en ↦ refl | edge ↦ refl | pol ↦ refl | auto0 ↦ refl | auto1 ↦ refl ]

      each : (p q : Plain) → plain (with_plain d.core.stored p x) q < 2 ^ 64
      each htmsi_en = elim [ htmsi_en ↦ h | edge ↦ w.plains edge | pol ↦ w.plains pol | auto0 ↦ w.plains auto0 | auto1 ↦ w.plains auto1 ]
      each edge = elim [ htmsi_en ↦ w.plains htmsi_en | edge ↦ h | pol ↦ w.plains pol | auto0 ↦ w.plains auto0 | auto1 ↦ w.plains auto1 ]
      each pol = elim [ htmsi_en ↦ w.plains htmsi_en | edge ↦ w.plains edge | pol ↦ h | auto0 ↦ w.plains auto0 | auto1 ↦ w.plains auto1 ]
      each auto0 = elim [ htmsi_en ↦ w.plains htmsi_en | edge ↦ w.plains edge | pol ↦ w.plains pol | auto0 ↦ h | auto1 ↦ w.plains auto1 ]
      each auto1 = elim [ htmsi_en ↦ w.plains htmsi_en | edge ↦ w.plains edge | pol ↦ w.plains pol | auto0 ↦ w.plains auto0 | auto1 ↦ h ]

-- a word ends within the image
pub word_within : (f : Form) (w : Word) {at : ℕ} → at ≡ place f (word w) → always (word w) ≡ true → at + 8 ≤ form_length f
word_within f w e h = omega (arith, e, field_fits f (word w) (has_all f (word w) h))

-- a word put over eight bytes; put twice
over : (at x : ℕ) (l : List ℕ) → with_word at x l ≡ put_mid at 8 l (bytes_of 8 x)
over at x l t = take at l ++ (bytes_of 8 x ++ sym (drop-drop 8 at l) t)

abbrev is_irr : Word → Bool
is_irr mask = false
is_irr irr = true
is_irr isr = false
is_irr copy = false
is_irr (stored p) = false

-- of an image of the form f
module _ (f : Form) (i : List ℕ) (s : length i ≡ form_length f) where
  -- ---- read

  pub word_read : (w : Word) {x at : ℕ} → at ≡ place f (word w) → always (word w) ≡ true → x ≡ register_at at i → Reads i x (λ d. word_of d.core w)
  word_read w e a g d ns h = g ∙ (λ t. register_at (e t) (holds_as f i s h t)) ∙ word_stands d h.well ns h.numbered f w a (word_small h.well w)

  -- ---- stored

  -- a word that has no copy
  word_put : (w : Word) {x at : ℕ} → at ≡ place f (word w) → {j : List ℕ} → j ≡ with_word at x i → is_irr w ≡ false → always (word w) ≡ true
      → ((c : Core) → word_of (core_word w x c) w ≡ x) → (d : Device) (ns : Numbers) → Holds i d ns → j ≡ encode_as f (with_core (core_word w x d.core) d) ns
  word_put w {x} e g n a back d ns h =
      let after = field_of (with_core (core_word w x d.core) d) ns in
      g ∙ (λ t. with_word (e t) x (holds_as f i s h t)) ∙ over (place f (word w)) x (encode_as f d ns) ∙ ap (λ y. put_mid (place f (word w)) 8 (encode_as f d ns) (bytes_of 8 y)) (sym (back d.core))
      ∙ field_written f (field_of d ns) after (fields_sized d h.well ns h.numbered) (word w) (has_all f (word w) a) (word_apart f d ns w x (λ q. false≢true (sym n ∙ ap is_irr q)))

  module _ {x at : ℕ} (below : x < 2 ^ 64) {j : List ℕ} (g : j ≡ with_word at x i) where
    pub mask_stored : at ≡ place f (word mask) → Becomes i j (λ d. with_core (core_word mask x d.core) d)
    mask_stored e d ns h = as_holds f (lines_well h.well _ below h.well.irr h.well.isr) (same_ring refl h.numbered) (word_put mask e g refl refl (λ c. refl) d ns h)

    pub isr_stored : at ≡ place f (word isr) → Becomes i j (λ d. with_core (core_word isr x d.core) d)
    isr_stored e d ns h = as_holds f (lines_well h.well _ h.well.mask h.well.irr below) (same_ring refl h.numbered) (word_put isr e g refl refl (λ c. refl) d ns h)

    pub plain_stored : (p : Plain) → at ≡ place f (word (stored p)) → Becomes i j (λ d. with_core (core_word (stored p) x d.core) d)
    plain_stored p e d ns h = as_holds f (plain_well h.well p x below) (same_ring refl h.numbered) (word_put (stored p) e g refl refl (λ c. put_back p c.stored) d ns h)
      where
        put_back : (p : Plain) (s : Stored) → plain (with_plain s p x) p ≡ x
        put_back = elim [ htmsi_en ↦ λ s. refl | edge ↦ λ s. refl | pol ↦ λ s. refl | auto0 ↦ λ s. refl | auto1 ↦ λ s. refl ]

-- ---- IRR, and then its copy; in a form that has none, IRR twice

module _ (f : Form) (d : Device) (w : WellFormed d) (ns : Numbers) (v : WellNumbered d ns) (x : ℕ) where
  abbrev after : Device
  after = with_core (core_word irr x d.core) d

  -- the fields when IRR is stored and its copy is not
  abbrev between : Field → List ℕ
  between q = cond (is q (word irr)) (bytes_of 8 x) (field_of d ns q)

  between_sized : Sized between
  between_sized = by_field _ (by_word _ refl refl refl refl (λ p. refl)) w.routes w.vectors (refl, refl, fields_sized d w ns v pairs) (refl, fields_sized d w ns v numbers)

  irr_first : put_mid (place f (word irr)) 8 (encode_as f d ns) (bytes_of 8 x) ≡ image f between
  irr_first = field_written f (field_of d ns) between (fields_sized d w ns v) (word irr) (has_all f (word irr) refl) (λ q a t. rw t)

  -- with a copy
  copied : has f (word copy) ≡ true → put_mid (place f (word copy)) 8 (image f between) (bytes_of 8 x) ≡ encode_as f after ns
  copied h =
      field_written f between (field_of after ns) between_sized (word copy) h
      (by_field _ (by_word _ (λ a t. refl) (λ a t. refl) (λ a t. refl) (λ a. never) (λ p a t. refl)) (λ a t. refl) (λ a t. refl) (λ a t. refl, λ a t. refl, λ a t. refl) (λ a t. refl, λ a t. refl))

  -- without: IRR's bytes are those that are there
  twice : has f (word copy) ≡ false → put_mid (place f (word irr)) 8 (image f between) (bytes_of 8 x) ≡ encode_as f after ns
  twice h =
      field_written f between (field_of after ns) between_sized (word irr) (has_all f (word irr) refl)
      (by_field _ (by_word _ (λ a t. refl) (λ a. never) (λ a t. refl) (λ a. absurd (false≢true (sym h ∙ a))) (λ p a t. refl)) (λ a t. refl) (λ a t. refl) (λ a t. refl, λ a t. refl, λ a t. refl) (λ a t. refl, λ a t. refl))

  irr_put : {at to : ℕ} → at ≡ place f (word irr) → (has f (word copy) ≡ true → to ≡ place f (word copy)) → (has f (word copy) ≡ false → to ≡ at)
      → with_word to x (with_word at x (encode_as f d ns)) ≡ encode_as f after ns
  irr_put {at} {to} e g k =
      over to x (with_word at x (encode_as f d ns)) ∙ ap (λ l. put_mid to 8 l (bytes_of 8 x)) (over at x (encode_as f d ns) ∙ ap (λ a. put_mid a 8 (encode_as f d ns) (bytes_of 8 x)) e ∙ irr_first)
      ∙ test (has f (word copy)) (λ h. ap (λ a. put_mid a 8 (image f between) (bytes_of 8 x)) (g h) ∙ copied h) (λ h. ap (λ a. put_mid a 8 (image f between) (bytes_of 8 x)) (k h ∙ e) ∙ twice h)

pub irr_stored : (f : Form) (i : List ℕ) → length i ≡ form_length f → {x : ℕ} → x < 2 ^ 64 → (p : Places) → PlacesOf f p → {j k : List ℕ}
    → j ≡ with_word p.intirr x i → k ≡ with_word p.last_intirr x j → Becomes i k (λ d. with_core (core_word irr x d.core) d)
irr_stored f i s {x} below p o g q d ns h =
    as_holds f (lines_well h.well _ h.well.mask below h.well.isr) (same_ring refl h.numbered)
    (q ∙ ap (λ l. with_word p.last_intirr x l) (g ∙ ap (λ l. with_word p.intirr x l) (holds_as f i s h))
    ∙ irr_put f d h.well ns h.numbered x (o.fields (word irr) (has_all f (word irr) refl)) (o.fields (word copy)) o.copy)
