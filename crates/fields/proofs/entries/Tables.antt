-- Route and vector bytes of an image, read and stored where they stand.
use Rattle.basics.proofs.Prelude.{◌≡◌, refl, sym, ap, ◌∙◌, true, List, ◌++◌, ℕ, ◌+◌, ◌-◌, ◌<◌, ◌≤◌, arith, length, take, drop, get_or, length-append, length-drop, get_or-take, get_or-drop, length-take-le, take_at, drop_at, drop-drop, put_mid, number_of, bytes_of, part, Bytes, bytes_append, bytes_take, bytes_drop, bytes_bytes_of, length_bytes_of, part_part}
use Rattle.rules.specs.{Core.with_routes, Core.htmsi_en, Core.edge, Core.pol, Core.auto0, Core.auto1, Device.Device, Device.WellFormed, Numbering.Numbers, Numbering.WellNumbered, Numbering.from_zero}
use Rattle.rules.proofs.laws.Numbered.{same_ring}
use Rattle.images.specs.{Form.Field, Form.routes, Form.vectors, Form.Form, Form.size, Form.has, Form.place, Form.form_length, Image.bytes_length, Image.field_of, Image.encode_as}
use Rattle.images.proofs.laws.{Layout.always, Layout.has_all, Saved.fields_sized, Saved.field_stands, Saved.field_same}
use Rattle.laws.proofs.laws.InPlace.{within, Apart, part_written, routes_apart, vectors_apart}
use Rattle.bits.specs.bytes.Put.{with_bytes}
use Rattle.fields.specs.inplace.Held.{Holds, Reads, Becomes, with_vectors, with_stored}
use Rattle.fields.proofs.inplace.Doing.{holds_as, as_holds}

-- ---- some of a list's bytes replaced

module _ (at n x : ℕ) (l : List ℕ) where
  with_bytes_lem : Bytes l → Bytes (with_bytes at n x l)
  with_bytes_lem b = bytes_append (take at l) _ (bytes_take l at b) (bytes_append (bytes_of n x) _ (bytes_bytes_of n x) (bytes_drop l (at + n) b))

  with_length : at + n ≤ length l → length (with_bytes at n x l) ≡ length l
  with_length h = simp (length-append, length_bytes_of, length-drop) (omega (arith, length-take-le at l (omega arith)))

  -- they are put over those that stand there, and stand there after
  over : with_bytes at n x l ≡ put_mid at n l (bytes_of n x)
  over t = take at l ++ (bytes_of n x ++ sym (drop-drop n at l) t)

  there : at + n ≤ length l → part at n (with_bytes at n x l) ≡ bytes_of n x
  there h =
      ap (take n) (drop_at (take at l) (bytes_of n x ++ drop (at + n) l) at (length-take-le at l (omega arith)))
      ∙ take_at (bytes_of n x) (drop (at + n) l) n (length_bytes_of n x)

module _ {d : Device} (w : WellFormed d) (at n x : ℕ) (h : at + n ≤ bytes_length) where
  routes_well : WellFormed (with_stored d (with_routes d.core.stored (with_bytes at n x d.core.stored.routes)))
  routes_well = record {
    mask = w.mask;
    irr = w.irr;
    isr = w.isr;
    plains = elim [ htmsi_en ↦ w.plains htmsi_en | edge ↦ w.plains edge | pol ↦ w.plains pol | auto0 ↦ w.plains auto0 | auto1 ↦ w.plains auto1 ];
    route_bytes = with_bytes_lem at n x d.core.stored.routes w.route_bytes;
    routes = with_length at n x d.core.stored.routes (omega (arith, w.routes)) ∙ w.routes;
    vector_bytes = w.vector_bytes;
    vectors = w.vectors;
    event_bytes = w.event_bytes;
    waiting = w.waiting;
    drops = w.drops;
  }

  vectors_well : WellFormed (with_vectors d (with_bytes at n x d.core.vectors))
  vectors_well = record {
    mask = w.mask;
    irr = w.irr;
    isr = w.isr;
    plains = w.plains;
    route_bytes = w.route_bytes;
    routes = w.routes;
    vector_bytes = with_bytes_lem at n x d.core.vectors w.vector_bytes;
    vectors = with_length at n x d.core.vectors (omega (arith, w.vectors)) ∙ w.vectors;
    event_bytes = w.event_bytes;
    waiting = w.waiting;
    drops = w.drops;
  }

-- ---- read

-- an element of a part
element : (l : List ℕ) (a n : ℕ) → n < 64 → get_or l (a + n) 0 ≡ get_or (part a 64 l) n 0
element l a n h = sym (get_or-drop a l n 0) ∙ sym (get_or-take 64 (drop a l) n 0 h)

-- of a field of 64 bytes that every form has: one, and some as a number
module _ (f : Form) (i : List ℕ) (long : length i ≡ form_length f) (p : Field) (a : always p ≡ true) (s : 64 ≡ size p) {at : ℕ} (e : at ≡ place f p) where
  stands : (d : Device) (ns : Numbers) → Holds i d ns → part at 64 i ≡ field_of d (from_zero 0) p
  stands d ns h = (λ t. part (e t) (s t) (holds_as f i long h t)) ∙ field_stands d h.well ns h.numbered f p a ∙ field_same d ns (from_zero 0) p a

  pub entry_read : (n : ℕ) → n < 64 → Reads i (get_or i (at + n) 0) (λ d. get_or (field_of d (from_zero 0) p) n 0)
  entry_read n k d ns h = element i at n k ∙ ap (λ l. get_or l n 0) (stands d ns h)

  pub entries_read : (n m : ℕ) → n + m ≤ 64 → {x : ℕ} → x ≡ number_of (part (at + n) (at + n + m - (at + n)) i) → Reads i x (λ d. number_of (part n m (field_of d (from_zero 0) p)))
  entries_read n m k g d ns h =
      let size : at + n + m - (at + n) ≡ m = omega arith in
      g ∙ ap (λ z. number_of (part (at + n) z i)) size ∙ ap number_of (sym (part_part i at 64 n m k)) ∙ ap (λ l. number_of (part n m l)) (stands d ns h)

-- ---- stored

-- some bytes of a field, put over the image of a device
entries_put : (f : Form) (d : Device) → WellFormed d → (ns : Numbers) → WellNumbered d ns → (c : Device) (p : Field) (at n x : ℕ) → has f p ≡ true → at + n ≤ size p → length (field_of d ns p) ≡ size p
    → field_of c ns p ≡ with_bytes at n x (field_of d ns p) → (field_of c ns p ≡ put_mid at n (field_of d ns p) (part at n (field_of c ns p)) → Apart f (field_of d ns) (field_of c ns) (within p at n))
    → with_bytes (place f p + at) n x (encode_as f d ns) ≡ encode_as f c ns
entries_put f d w ns v c p at n x a h s g apart =
    let l = field_of d ns p in
    let new : part at n (field_of c ns p) ≡ bytes_of n x = ap (part at n) g ∙ there at n x l (omega arith) in
    over (place f p + at) n x (encode_as f d ns) ∙ ap (put_mid (place f p + at) n (encode_as f d ns)) (sym new)
    ∙ part_written f (field_of d ns) (field_of c ns) (fields_sized d w ns v) (within p at n) (a, h) (apart (g ∙ over at n x l ∙ ap (put_mid at n l) (sym new)))

module _ (f : Form) (i : List ℕ) (s : length i ≡ form_length f) (n m x : ℕ) (k : n + m ≤ 64) {at : ℕ} {j : List ℕ} (g : j ≡ with_bytes (at + n) m x i) where
  pub routes_stored : at ≡ place f routes → Becomes i j (λ d. with_stored d (with_routes d.core.stored (with_bytes n m x d.core.stored.routes)))
  routes_stored e d ns h =
      let after = with_stored d (with_routes d.core.stored (with_bytes n m x d.core.stored.routes)) in
      as_holds f (routes_well h.well n m x k) (same_ring refl h.numbered)
      (g ∙ (λ t. with_bytes (e t + n) m x (holds_as f i s h t)) ∙ entries_put f d h.well ns h.numbered after routes n m x (has_all f routes refl) k h.well.routes refl (routes_apart f d ns _ n m))

  pub vectors_stored : at ≡ place f vectors → Becomes i j (λ d. with_vectors d (with_bytes n m x d.core.vectors))
  vectors_stored e d ns h =
      let after = with_vectors d (with_bytes n m x d.core.vectors) in
      as_holds f (vectors_well h.well n m x k) (same_ring refl h.numbered)
      (g ∙ (λ t. with_bytes (e t + n) m x (holds_as f i s h t)) ∙ entries_put f d h.well ns h.numbered after vectors n m x (has_all f vectors refl) k h.well.vectors refl (vectors_apart f d ns _ n m))
