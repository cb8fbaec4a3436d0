-- The loop that offers a deassert for each input of a set, lowest first.
use Rattle.basics.proofs.Prelude.{one_less, ◌≡◌, refl, sym, ap, subst, ◌∙◌, true, false, List, [], ◌++◌, map, append-nil, append_assoc, ℕ, suc, ◌+◌, ◌-◌, ◌^◌, ◌<◌, ◌≤◌, lt_of_le_of_lt, arith, bit_and, and_le_l, count_trailing_zeros, length, get_or, on, inputs, first_input, lowest_dropped, no_input_lem}
use Rattle.laws.proofs.laws.Losses.{from_few}
use Rattle.rules.specs.{Ring.RingAct, Core.Core, Device.offers}
use Rattle.fields.specs.{inplace.Held.Reads, inplace.Held.Offers, ring.Fields.offering}
use Rattle.fields.proofs.inplace.Doing.{offers_none, offers_then, offers_same}
use Rattle.lines.specs.events.Offered.{deasserts}
use Rattle.rules.specs.Lines as lines

pub inputs_few : (x : ℕ) → length (inputs (on x)) ≤ 64
inputs_few x = from_few 0 64 (on x)

-- what holds at each turn: what was offered so far, and then what is left, is all
pub record Offering (i j : List ℕ) (n set left : ℕ) : Type 0 where
  pub sofar : Core → List RingAct
  pub does : Offers i j n (λ d. sofar d.core)
  pub rest : (c : Core) → sofar c ++ deasserts c left ≡ deasserts c set
  pub below : left < 2 ^ 64
  pub few : n + length (inputs (on left)) ≤ length (inputs (on set))
  pub sized : length j ≡ length i

pub offering_starts : (i : List ℕ) (x : ℕ) → x < 2 ^ 64 → Offering i i 0 x x
offering_starts i x h = record { sofar = λ c. []; does = offers_none i; rest = λ c. refl; below = h; few = omega arith; sized = refl }

module _ {i j : List ℕ} {n set x : ℕ} (q : Offering i j n set x) where
  pub offering_done : x ≡ 0 → (n ≤ length (inputs (on set))) × Offers i j n (λ d. deasserts d.core set)
  unfolding offers
  offering_done z = (
    omega (arith, q.few),
    offers_same (λ d. q.sofar d.core) (λ d. deasserts d.core set) q.does
        (λ d s h. sym (append-nil (q.sofar d.core)) ∙ ap (λ ns. q.sofar d.core ++ offers (map (lines.event d.core.vectors true false) ns)) (sym (no_input_lem x z)) ∙ q.rest d.core),
  )

  -- with the number dropped by another name
  pub offering_told : {m : ℕ} → n ≡ m → Offering i j m set x
  offering_told e = subst (λ m. Offering i j m set x) e q

  -- the rest is offered at once
  pub offering_rest : {k : List ℕ} {m : ℕ} → (m ≤ length (inputs (on x))) × Offers j k m (λ d. deasserts d.core x) → (n + m ≤ length (inputs (on set))) × Offers i k (n + m) (λ d. deasserts d.core set)
  offering_rest o = (
    omega (arith, q.few, o.0),
    offers_same (λ d. q.sofar d.core ++ deasserts d.core x) (λ d. deasserts d.core set)
        (offers_then (λ d. q.sofar d.core) (λ d. deasserts d.core x) q.does o.1 (λ d r. refl))
        (λ d s h. q.rest d.core),
  )

  module _ (some : x ≡ 0 → ⊥) where
    abbrev lowest : ℕ
    lowest = count_trailing_zeros 64 x

    pub less : suc (length (inputs (on (bit_and x (x - 1))))) ≡ length (inputs (on x))
    less = one_less x q.below some

    abbrev one : Core → List RingAct
    one c = offering (get_or c.vectors lowest 0) false

    one_more : (c : Core) → one c ++ deasserts c (bit_and x (x - 1)) ≡ deasserts c x
    unfolding offers
    one_more c =
        ap (λ y. one c ++ deasserts c y) (lowest_dropped x q.below some)
        ∙ ap (λ ns. offers (map (lines.event c.vectors true false) ns)) (sym (first_input x q.below some))

    pub offering_next : (k : List ℕ) (m v : ℕ) → Reads j v (λ d. get_or d.core.vectors lowest 0) → m ≤ 1 → Offers j k m (λ d. offering v false) → length k ≡ length i → Offering i k (n + m) set (bit_and x (x - 1))
    offering_next k m v e h o s = record {
      sofar = λ c. q.sofar c ++ one c;
      does = offers_then (λ d. q.sofar d.core) (λ d. one d.core) q.does (offers_same (λ d. offering v false) (λ d. one d.core) o (λ d s g. ap (λ u. offering u false) (e d s g))) (λ d r. refl);
      rest = λ c. append_assoc (q.sofar c) (one c) (deasserts c (bit_and x (x - 1))) ∙ ap (λ l. q.sofar c ++ l) (one_more c) ∙ q.rest c;
      below = lt_of_le_of_lt (and_le_l x (x - 1)) q.below;
      few = omega (arith, q.few, less);
      sized = s;
    }
