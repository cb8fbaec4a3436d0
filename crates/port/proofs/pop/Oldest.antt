-- The slots of the ring with the oldest event taken out.
use Rattle.basics.proofs.Prelude.{◌≡◌, refl, sym, ap, ap₂, ◌∙◌, Bool, false, List, [], ◌∷◌, ℕ, zero, suc, ◌+◌, ◌-◌, ◌%◌, ◌<◌, mod-eq_of_lt, arith, get_or, take, drop}
use Rattle.rules.specs.Ring.{Event, Drawn, drawn}
use Rattle.device.{specs.state.View.slots, specs.state.View.ring_view, specs.declared.state.Ring.Ring, proofs.state.Slots.ev, proofs.state.Slots.ring_of}

module _ (vs : List ℕ) (fs : List Bool) where
  -- a head and the same head counted round are one
  slots_round : (h g n : ℕ) → h % 16 ≡ g % 16 → slots vs fs h n ≡ slots vs fs g n
  unfolding slots
  slots_round h g zero e = refl
  slots_round h g (suc n) e =
      ap₂ (λ (x : Event) (l : List Event). x ∷ l) (ap (λ (j : ℕ). ev (get_or vs j 0) (get_or fs j false)) e) (slots_round (suc h) (suc g) n (omega arith))

  -- the oldest, and the others from the next head on
  pub slots_first : (h n : ℕ) → h < 16 → (n ≡ 0 → ⊥) → slots vs fs h n ≡ ev (get_or vs h 0) (get_or fs h false) ∷ slots vs fs ((h + 1) % 16) (n - 1)
  unfolding slots
  slots_first h zero l z = absurd (z refl)
  slots_first h (suc n) l z =
      ap₂ (λ (x : Event) (r : List Event). x ∷ r) (ap (λ (j : ℕ). ev (get_or vs j 0) (get_or fs j false)) (mod-eq_of_lt l))
      (slots_round (suc h) ((h + 1) % 16) n (omega arith) ∙ ap (slots vs fs ((h + 1) % 16)) same)
    where
      same : n ≡ suc n - 1
      same = omega arith

-- ---- what a pop comes to
module _ (r : Ring) where
  -- a drain with room for one, by the events that wait
  abbrev one_of_lem : List Event → Drawn
  one_of_lem es = record { after = ring_of (drop 1 es) r.output_drops; drained = take 1 es }

  pub pop_none : r.output_len ≡ 0 → record { after = ring_view r; drained = [] } ≡ drawn (ring_view r) 1
  unfolding drawn slots
  pop_none e =
      let none = ap (slots r.output_vectors r.output_asserted r.output_head) e in
      ap (λ (es : List Event). record { after = ring_of es r.output_drops; drained = [] }) none ∙ sym (ap one_of_lem none)

  pub pop_one : r.output_head < 16 → (r.output_len ≡ 0 → ⊥)
      → record {
        after = ring_of (slots r.output_vectors r.output_asserted ((r.output_head + 1) % 16) (r.output_len - 1)) r.output_drops;
        drained = ev (get_or r.output_vectors r.output_head 0) (get_or r.output_asserted r.output_head false) ∷ [];
      }
      ≡ drawn (ring_view r) 1
  unfolding drawn
  pop_one h n = sym (ap one_of_lem (slots_first r.output_vectors r.output_asserted r.output_head r.output_len h n))
