-- The loops over the inputs of a set, lowest first: what was done so far, and then what is left, is all.
use Rattle.basics.proofs.Prelude.{Bool, one_less, ◌≡◌, refl, sym, ap, subst, ◌∙◌, true, false, List, [], ◌∷◌, ◌++◌, map, map-append, append-nil, append_assoc, ℕ, suc, ◌-◌, ◌^◌, ◌<◌, lt_of_le_of_lt, bit_and, and_le_l, count_trailing_zeros, length, on, inputs, first_input, lowest_dropped, no_input_lem}
use Rattle.rules.specs.Lines.{event}
use Rattle.passes.{specs.tallies.Marks.taken_back, specs.tallies.Following.Takes, specs.tallies.Following.Offers, proofs.tallies.laws.Taking.takes_then, proofs.tallies.laws.Taking.takes_same}
use Rattle.passes.proofs.tallies.laws.Turning.{offers_then, offers_same}

pub record Visiting (P : List ℕ → Type 0) (set left : ℕ) : Type 0 where
  pub sofar : List ℕ
  pub does : P sofar
  pub rest : sofar ++ inputs (on left) ≡ inputs (on set)
  pub below : left < 2 ^ 64

module _ (P : List ℕ → Type 0) where
  pub visiting_starts : (x : ℕ) → x < 2 ^ 64 → P [] → Visiting P x x
  visiting_starts x h p = record { sofar = []; does = p; rest = refl; below = h }

  module _ {set x : ℕ} (q : Visiting P set x) where
    pub visited : x ≡ 0 → P (inputs (on set))
    visited z = subst P (sym (append-nil q.sofar) ∙ ap (λ ns. q.sofar ++ ns) (sym (no_input_lem x z)) ∙ q.rest) q.does

    module _ (some : x ≡ 0 → ⊥) where
      abbrev lowest : ℕ
      lowest = count_trailing_zeros 64 x

      pub fewer : suc (length (inputs (on (bit_and x (x - 1))))) ≡ length (inputs (on x))
      fewer = one_less x q.below some

      pub visiting_next : (Q : List ℕ → Type 0) → Q (q.sofar ++ (lowest ∷ [])) → Visiting Q set (bit_and x (x - 1))
      visiting_next Q p = record {
        sofar = q.sofar ++ (lowest ∷ []);
        does = p;
        rest =
            append_assoc q.sofar (lowest ∷ []) (inputs (on (bit_and x (x - 1))))
            ∙ ap (λ ns. q.sofar ++ ns) (ap (λ y. lowest ∷ inputs (on y)) (lowest_dropped x q.below some) ∙ sym (first_input x q.below some)) ∙ q.rest;
        below = lt_of_le_of_lt (and_le_l x (x - 1)) q.below;
      }

-- ---- deasserts that are offered, and waits that are taken back

abbrev pub Deasserted : Bool → (before after : List ℕ) → (k w u : ℕ) → List ℕ → Type 0
Deasserted wide b a k w u ns = Offers wide b a k w u (λ vs. map (event vs true false) ns)

pub deasserts_one : {wide : Bool} {b c a : List ℕ} (k : ℕ) {w u v : ℕ} (ns : List ℕ) (n : ℕ) → Deasserted wide b c k w u ns → Offers wide c a k u v (λ vs. event vs true false n ∷ []) → Deasserted wide b a k w v (ns ++ (n ∷ []))
deasserts_one k ns n s t =
    offers_same k (λ vs. map (event vs true false) ns ++ (event vs true false n ∷ [])) (λ vs. map (event vs true false) (ns ++ (n ∷ []))) (λ vs. sym (map-append (event vs true false) ns (n ∷ [])))
    (offers_then k (λ vs. map (event vs true false) ns) (λ vs. event vs true false n ∷ []) s t)

abbrev pub Withdrawn : Bool → (before after : List ℕ) → List ℕ → Type 0
Withdrawn wide b a ns = Takes wide b a (map taken_back ns)

pub withdraws_one : {wide : Bool} {b c a : List ℕ} (ns : List ℕ) (n : ℕ) → Withdrawn wide b c ns → Takes wide c a (taken_back n ∷ []) → Withdrawn wide b a (ns ++ (n ∷ []))
withdraws_one ns n s t = takes_same (sym (map-append taken_back ns (n ∷ []))) (takes_then _ _ s t)
