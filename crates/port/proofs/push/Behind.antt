-- The slots of the ring with one event more, behind the newest.
use Rattle.basics.proofs.Prelude.{◌≡◌, refl, sym, ap, ap₂, ◌∙◌, Bool, true, false, List, [], ◌∷◌, ◌++◌, ℕ, zero, suc, ◌+◌, ◌%◌, ◌≤◌, ◌<◌, min, add-zero, add-suc, suc-add, add-one, arith, length, set, get_or-set_same, get_or-set_other, ltb, lt-ltb, le-ltb}
use Rattle.rules.{specs.Ring.capacity, specs.Ring.stop, specs.Ring.Event, specs.Ring.offered, proofs.laws.Rings.offered_room, proofs.laws.Rings.offered_full}
use Rattle.device.specs.{state.View.slot, state.View.slots, state.View.ring_view, declared.state.Ring.Ring}
use Rattle.device.proofs.state.Slots.{ev, ring_of, waiting_length}

module _ (vs : List ℕ) (fs : List Bool) where
  -- the newest event is the last
  slots_last : (h n : ℕ) → slots vs fs h (suc n) ≡ slots vs fs h n ++ (slot vs fs (h + n) ∷ [])
  unfolding slots
  slots_last h zero = ap (λ (i : ℕ). slot vs fs i ∷ []) (sym (add-zero h))
  slots_last h (suc n) =
      ap (λ (l : List Event). slot vs fs h ∷ l) (slots_last (suc h) n ∙ ap (λ (i : ℕ). slots vs fs (suc h) n ++ (slot vs fs i ∷ [])) (suc-add h n ∙ sym (add-suc h n)))

-- slots that are not read may differ
slots_ext : (vs ws : List ℕ) (fs gs : List Bool) (h n : ℕ) → ((i : ℕ) → h ≤ i → i < h + n → slot vs fs i ≡ slot ws gs i) → slots vs fs h n ≡ slots ws gs h n
unfolding slots
slots_ext vs ws fs gs h zero e = refl
slots_ext vs ws fs gs h (suc n) e =
    ap₂ (λ (x : Event) (l : List Event). x ∷ l) (e h (omega arith) (omega arith)) (slots_ext vs ws fs gs (suc h) n (λ i p q. e i (omega arith) (omega arith)))

-- an event stored behind the newest is one event more
slots_push : (vs : List ℕ) (fs : List Bool) (h n v : ℕ) (a : Bool) → length vs ≡ 16 → length fs ≡ 16 → n < 16
    → slots (set vs ((h + n) % 16) v) (set fs ((h + n) % 16) a) h (n + 1) ≡ slots vs fs h n ++ (ev v a ∷ [])
slots_push vs fs h n v a lv lf l =
    let j = (h + n) % 16 in
    ap (slots (set vs j v) (set fs j a) h) (add-one n) ∙ slots_last (set vs j v) (set fs j a) h n
    ∙ ap₂ (λ (r : List Event) (x : Event). r ++ (x ∷ []))
    (slots_ext (set vs j v) vs (set fs j a) fs h n
    (λ i p q. ap₂ ev (get_or-set_other vs j (i % 16) v 0 (omega arith)) (get_or-set_other fs j (i % 16) a false (omega arith))))
    (ap₂ ev (get_or-set_same vs j v 0 (omega arith)) (get_or-set_same fs j a false (omega arith)))

-- ---- what a push comes to
module _ (r : Ring) where
  -- room: the event is stored and kept
  pub push_room : (v : ℕ) (a : Bool) → length r.output_vectors ≡ 16 → length r.output_asserted ≡ 16 → r.output_len < 16
      → ring_of (slots (set r.output_vectors ((r.output_head + r.output_len) % 16) v) (set r.output_asserted ((r.output_head + r.output_len) % 16) a) r.output_head (r.output_len + 1)) r.output_drops
      ≡ offered (ring_view r) (ev v a)
  push_room v a lv lf l =
      ap (λ (es : List Event). ring_of es r.output_drops) (slots_push r.output_vectors r.output_asserted r.output_head r.output_len v a lv lf l)
      ∙ sym (offered_room (ring_view r) (ev v a) (omega (arith, waiting_length r)))

  pub kept_room : r.output_len < 16 → true ≡ ltb (length (ring_view r).waiting) capacity
  kept_room l = sym (lt-ltb (length (ring_view r).waiting) capacity (omega (arith, waiting_length r)))

  -- no room: it is counted and not kept
  pub push_full : (e : Event) (n : ℕ) → r.output_len ≡ 16 → n ≡ min (r.output_drops + 1) stop → ring_of (ring_view r).waiting n ≡ offered (ring_view r) e
  push_full e n l p = ap (ring_of (ring_view r).waiting) p ∙ sym (offered_full (ring_view r) e (omega (arith, waiting_length r)))

  pub kept_full : r.output_len ≡ 16 → false ≡ ltb (length (ring_view r).waiting) capacity
  kept_full l = sym (le-ltb (length (ring_view r).waiting) capacity (omega (arith, waiting_length r)))
