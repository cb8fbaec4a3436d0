-- Body 4 as bytes: an event stored behind those that wait, or counted as lost.
use Rattle.basics.proofs.Prelude.{◌≡◌, refl, sym, ap, ◌∙◌, Bool, true, List, [], ◌∷◌, ◌++◌, map, append-nil, ℕ, zero, suc, ◌+◌, ◌-◌, ◌*◌, ◌<◌, ◌≤◌, min, arith, ltb, lit<, length, get_or, set, replicate, length-append, lt-ltb, le-ltb, ltb-true, put_mid, number_of, bytes_of, part, Bytes, number_of_bytes_of, test}
use Rattle.rules.specs.Ring.{capacity, stop, flag, pairs_of, Event, Ring, offer, offered, ring_step, ring_run, dropped_by, dropped}
use Rattle.rules.{specs.Device.Device, specs.Device.WellFormed, specs.Device.reset, specs.Numbering.Numbers, specs.Numbering.takes, proofs.laws.Rings.offered_room, proofs.laws.Rings.offered_full}
use Rattle.rules.proofs.laws.Numbered.{fits, fitting, takes_offered}
use Rattle.images.specs.{Form.Form, Form.count, Form.place, Form.form_length, Image.ring_length, Image.ring_body, Image.encode_as}
use Rattle.laws.proofs.laws.Images.{encode_as_lem}
use Rattle.bits.specs.bytes.Put.{with_bytes}
use Rattle.fields.specs.{inplace.Held.Holds, inplace.Held.Offers, inplace.Held.NumberOffered, inplace.Held.with_ring, ring.Fields.RingOffered, ring.Fields.event, ring.Fields.offering}
use Rattle.fields.proofs.inplace.{Doing.as_holds, Bodies.ring_part_lem, Bodies.ring_put}

-- a pair is stored over two bytes behind the pairs that wait
pair_stored : (es : List Event) (x y v : ℕ) (a : Bool) (l : List ℕ)
    → set (set (pairs_of es ++ (x ∷ y ∷ l)) (2 * length es) v) (suc (2 * length es)) (flag a) ≡ pairs_of (es ++ (event v a ∷ [])) ++ l
pair_stored [] x y v a l = refl
pair_stored (e ∷ es) x y v a l =
    let s : 2 * suc (length es) ≡ suc (suc (2 * length es)) = omega arith in
    rw s (ap (λ m. e.vector ∷ flag e.asserted ∷ m) (pair_stored es x y v a l))

module _ (r : Ring) (v : ℕ) (a : Bool) {i : List ℕ} (n : ℕ) (e : i ≡ ring_body (with_ring reset r)) (c : n ≡ get_or i 0 0) where
  count_is : n ≡ length r.waiting
  unfolding ring_body
  count_is = c ∙ ap (λ m. get_or m 0 0) e

  -- there is room
  pub ring_kept : {f : ℕ} → n < 16 → f ≡ flag a → (set (set (set i (5 + 2 * n) v) (5 + 2 * n + 1) f) 0 (n + 1) ≡ ring_body (with_ring reset (offered r (event v a)))) × (0 ≡ length (dropped_by r (offer (event v a))))
  unfolding ring_body
  ring_kept {f} h g =
      let es = r.waiting in
      let m = length es in
      let room : m < capacity = omega (arith, count_is) in
      let first : 5 + 2 * m ≡ suc (suc (suc (suc (suc (2 * m))))) = omega arith in
      let second : 5 + 2 * m + 1 ≡ suc (suc (suc (suc (suc (suc (2 * m)))))) = omega arith in
      let left : 32 - 2 * m ≡ suc (suc (32 - 2 * (m + 1))) = omega arith in
      let more : length (es ++ (event v a ∷ [])) ≡ m + 1 = length-append es (event v a ∷ []) in (
        (λ t. set (set (set (e t) (5 + 2 * count_is t) v) (5 + 2 * count_is t + 1) (g t)) 0 (count_is t + 1))
            ∙ (λ t. set (set (set (m ∷ (bytes_of 4 r.drops ++ (pairs_of es ++ replicate (left t) 0))) (first t) v) (second t) (flag a)) 0 (m + 1))
            ∙ ap (λ l. (m + 1) ∷ (bytes_of 4 r.drops ++ l)) (pair_stored es 0 0 v a (replicate (32 - 2 * (m + 1)) 0))
            ∙ (λ t. sym more t ∷ (bytes_of 4 r.drops ++ (pairs_of (es ++ (event v a ∷ [])) ++ replicate (32 - 2 * sym more t) 0)))
            ∙ ap (λ q. ring_body (with_ring reset q)) (sym (offered_room r (event v a) room)),
        rw (lt-ltb m capacity room) refl,
      )

  -- there is none
  pub ring_full : {x y : ℕ} {j : List ℕ} → 16 ≤ n → r.drops ≤ stop → x ≡ number_of (part 1 4 i) → j ≡ with_bytes 1 4 y i → y ≡ min (x + 1) stop
      → (j ≡ ring_body (with_ring reset (offered r (event v a)))) × (1 ≡ length (dropped_by r (offer (event v a))))
  unfolding ring_body
  ring_full {x} {y} h k f b g =
      let full : capacity ≤ length r.waiting = omega (arith, count_is) in
      let drops : x ≡ r.drops = f ∙ ap (λ m. number_of (part 1 4 m)) e ∙ number_of_bytes_of 4 r.drops (omega arith) in (
        b ∙ (λ t. with_bytes 1 4 ((g ∙ ap (λ z. min (z + 1) stop) drops) t) (e t)) ∙ ap (λ q. ring_body (with_ring reset q)) (sym (offered_full r (event v a) full)),
        rw (le-ltb (length r.waiting) capacity full) refl,
      )

-- a device stays well formed with another ring of its sizes
pub ring_well : {d : Device} → WellFormed d → (r : Ring) → Bytes (map (λ e. e.vector) r.waiting) → length r.waiting ≤ capacity → r.drops ≤ stop → WellFormed (with_ring d r)
ring_well w r h k m = record {
  mask = w.mask;
  irr = w.irr;
  isr = w.isr;
  plains = w.plains;
  route_bytes = w.route_bytes;
  routes = w.routes;
  vector_bytes = w.vector_bytes;
  vectors = w.vectors;
  event_bytes = h;
  waiting = k;
  drops = m;
}

-- ---- an event offered

bytes_snoc : (xs : List Event) (e : Event) → Bytes (map (λ x. x.vector) xs) → e.vector < 256 → Bytes (map (λ x. x.vector) (xs ++ (e ∷ [])))
bytes_snoc [] e b h zero = h
bytes_snoc [] e b h (suc i) = lit< tt
bytes_snoc (x ∷ xs) e b h zero = b 0
bytes_snoc (x ∷ xs) e b h (suc i) = bytes_snoc xs e (λ k. b (suc k)) h i

offered_well : {d : Device} (e : Event) → e.vector < 256 → WellFormed d → WellFormed (with_ring d (offered d.ring e))
unfolding offered
offered_well {d} e h w =
    let r = d.ring in
    test (ltb (length r.waiting) capacity)
    (λ t. rw t (ring_well w _ (bytes_snoc r.waiting e w.event_bytes h) (simp length-append (omega (arith, ltb-true (length r.waiting) capacity t))) w.drops))
    (λ t. rw t (ring_well w _ w.event_bytes w.waiting (omega arith)))

-- to body 4, lent from its place on
pub ring_offered : (f : Form) (i : List ℕ) → length i ≡ form_length f → {j : List ℕ} → NumberOffered i j → (ys : List ℕ) (at n v : ℕ) (a : Bool) → at ≡ place f count → v < 256
    → RingOffered (part at (at + 37 - at) j) ys n (event v a) → Offers i (put_mid at (at + 37 - at) j ys) n (λ d. offering v a)
unfolding dropped ring_run ring_step ring_body
ring_offered f i long {j} numbered ys at n v a e h g = record {
  becomes = λ d s k.
      let after = takes_offered d.ring (event v a) (fits k.numbered) in
      as_holds f (offered_well (event v a) h k.well) (fitting after)
      ((λ t. put_mid (e t) (all t) (numbers_first d s k t) ((g d.ring k.well.waiting k.well.drops (spells d s k)).0 t)) ∙ ring_put f d k.well (takes s true) (few d s k) (offered d.ring (event v a)));
  gives = λ d s k. (g d.ring k.well.waiting k.well.drops (spells d s k)).1 ∙ sym (ap length (append-nil (dropped_by d.ring (offer (event v a)))));
}
  where
    all : at + 37 - at ≡ ring_length
    all = omega arith

    numbers_first : (d : Device) (s : Numbers) → Holds i d s → j ≡ encode_as f d (takes s true)
    numbers_first d s k = numbered d s k ∙ encode_as_lem f i long d (takes s true)

    few : (d : Device) (s : Numbers) → Holds i d s → length (takes s true).waiting ≤ capacity
    few d s k =
        let w = offered_well {d = d} (event v a) h k.well in
        omega (arith, (takes_offered d.ring (event v a) (fits k.numbered)).waiting, w.waiting)

    spells : (d : Device) (s : Numbers) → Holds i d s → part at (at + 37 - at) j ≡ ring_body (with_ring reset d.ring)
    spells d s k = (λ t. part (e t) (all t) (numbers_first d s k t)) ∙ ring_part_lem f d k.well (takes s true) (few d s k)
