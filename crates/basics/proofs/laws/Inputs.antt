-- The list of the inputs that have a property: what it depends on, its first one, when it is empty. trailing_zeros gives the first one.
use lib.{ListN.length, Bits.bit_and, Bits.and_le_l, Count.count_trailing_zeros, Count.under}
use Rattle.basics.proofs.laws.{Truth.twice, Bits.digit, Bits.test, Bits.is_number, Bits.on_zero, Bits.on_suc, Bits.on_none, Bits.on_and, Bits.on_without}
use mathlib.Core.{Path.◌≡◌, Path.refl, Path.sym, Path.ap, Path.ap₂, Path.◌∙◌, Logic.⊎_elim, Bool.Bool, Bool.true, Bool.false, Bool.cond, Bool.not, Bool.◌&&◌, Bool.and-true}
use mathlib.Core.List.{List, [], ◌∷◌}
use Prim.Native.Nat.{ℕ, zero, suc, ◌+◌, ◌-◌, ◌/◌, ◌%◌, ◌^◌, ◌≤◌, ◌<◌, suc-le-suc, zero-le}
use native.Mathlib.{Nat.eq-or-lt_of_le, Nat.le_of_suc-le-suc, Nat.lt_of_le_of_lt, Omega.arith}
use borrow.Author.Tests.{eq-eqb, ne_eqb, eqb-true, eqb-false}
use Rattle.basics.specs.Inputs.{on, from, inputs, only, without}

-- ---- lists
pub from_ext : (n k : ℕ) (f g : ℕ → Bool) → ((i : ℕ) → n ≤ i → i < n + k → f i ≡ g i) → from n k f ≡ from n k g
unfolding from
from_ext n zero f g e = refl
from_ext n (suc k) f g e =
    ap₂ (λ (b : Bool) (l : List ℕ). cond b (n ∷ l) l) (e n (omega arith) (omega arith))
    (from_ext (suc n) k f g (λ i p q. e i (omega arith) (omega arith)))

pub from_none : (n k : ℕ) (f : ℕ → Bool) → ((i : ℕ) → n ≤ i → i < n + k → f i ≡ false) → from n k f ≡ []
unfolding from
from_none n zero f e = refl
from_none n (suc k) f e = rw (e n (omega arith) (omega arith)) (from_none (suc n) k f (λ i p q. e i (omega arith) (omega arith)))

-- the first is t, and then come the others
from_here : (n k : ℕ) (f : ℕ → Bool) → f n ≡ true → from n (suc k) f ≡ n ∷ from n (suc k) (λ m. f m && not (only n m))
unfolding from
from_here n k f e =
    rw (e, eq-eqb n n refl)
    (ap (λ (l : List ℕ). n ∷ l) (from_ext (suc n) k f _ (λ i p q. sym (rw (ne_eqb i n (omega arith)) (and-true (f i))))))

pub from_first : (n k t : ℕ) (f : ℕ → Bool) → n ≤ t → t < n + k → f t ≡ true → ((i : ℕ) → i < t → f i ≡ false)
    → from n k f ≡ t ∷ from n k (λ m. f m && not (only t m))
unfolding from
from_first n zero t f p q e z = absurd (omega arith)
from_first n (suc k) t f p q e z =
    ⊎_elim (λ h. rw (← h) (from_here n k f (rw h e)))
    (λ h. rw (z n h) (from_first (suc n) k t f h (omega arith) e z)) (eq-or-lt_of_le p)

-- the first of the list has what the list is of
pub first_has : (n k : ℕ) (f : ℕ → Bool) (m : ℕ) (ms : List ℕ) → from n k f ≡ m ∷ ms → (f m ≡ true) × (m < n + k)
unfolding from
first_has n zero f m ms e = absurd (let z : ◌≡◌ {A = ℕ} 0 1 = cc in omega arith)
first_has n (suc k) f m ms e =
    test (f n) (λ t. here t (rw t at e)) (λ t. let r = first_has (suc n) k f m ms (rw t at e) in (r.0, omega arith))
  where
    here : f n ≡ true → n ∷ from (suc n) k f ≡ m ∷ ms → (f m ≡ true) × (m < n + suc k)
    here t u = let z : n ≡ m = cc in (ap f (sym z) ∙ t, omega arith)

-- ---- the inputs that have f
pub inputs_ext : (f g : ℕ → Bool) → ((i : ℕ) → i < 64 → f i ≡ g i) → inputs f ≡ inputs g
inputs_ext f g e = from_ext 0 64 f g (λ i p q. e i q)

pub no_inputs : (f : ℕ → Bool) → ((i : ℕ) → i < 64 → f i ≡ false) → inputs f ≡ []
no_inputs f e = from_none 0 64 f (λ i p q. e i q)

-- an empty mask has no input, whatever else is asked
pub no_input_lem : (x : ℕ) → x ≡ 0 → inputs (on x) ≡ []
no_input_lem x e = no_inputs (on x) (λ i l. rw e (on_none i))

-- the one input n, if it has f
pub only_input : (n : ℕ) (f : ℕ → Bool) → n < 64 → inputs (λ m. only n m && f m) ≡ cond (f n) (n ∷ []) []
only_input n f h =
    test (f n)
    (λ t. rw t
    (from_first 0 64 n _ zero-le h (rw (eq-eqb n n refl, t)) (λ i l. rw (ne_eqb i n (omega arith)))
    ∙ ap (λ (l : List ℕ). n ∷ l) (no_inputs _ (λ i l. twice (only n i) (f i)))))
    (λ t. rw t (no_inputs _ (λ i l. test (only n i) (λ e. rw (e, eqb-true i n e, t)) (λ e. rw e))))
  where
    twice : (a b : Bool) → ((a && b) && not a) ≡ false
    twice true true = refl
    twice true false = refl
    twice false b = refl

-- ---- trailing_zeros
-- t is the lowest of the bits of x below k
pub record Lowest (k x t : ℕ) : Type 0 where
  pub below : t < k
  pub has : on x t ≡ true
  pub first : (i : ℕ) → i < t → on x i ≡ false

pub lowest : (k x : ℕ) → x < 2 ^ k → (x ≡ 0 → ⊥) → Lowest k x (count_trailing_zeros k x)
unfolding count_trailing_zeros
lowest zero x h n = absurd (n (omega arith))
lowest (suc k) x h n =
    digit (λ d. x % 2 ≡ d → Lowest (suc k) x (under d (count_trailing_zeros k (x / 2))))
    (λ e. even e (lowest k (x / 2) (omega arith) (λ z. n (omega arith))))
    (λ e. record { below = omega arith; has = on_zero x ∙ rw e; first = λ i l. absurd (omega arith) }) x refl
  where
    even : {t : ℕ} → x % 2 ≡ 0 → Lowest k (x / 2) t → Lowest (suc k) x (suc t)
    even {t} e r = record {
      below = suc-le-suc r.below;
      has = on_suc x t ∙ r.has;
      first = elim [ zero ↦ λ l. on_zero x ∙ rw e | suc i ↦ λ l. on_suc x i ∙ r.first i (le_of_suc-le-suc l) ];
    }

pub first_below : (x : ℕ) → x < 2 ^ 64 → (x ≡ 0 → ⊥) → count_trailing_zeros 64 x < 64
first_below x h n = (lowest 64 x h n).below

pub first_input : (x : ℕ) → x < 2 ^ 64 → (x ≡ 0 → ⊥) → inputs (on x) ≡ count_trailing_zeros 64 x ∷ inputs (on (without x (only (count_trailing_zeros 64 x))))
first_input x h n =
    let r = lowest 64 x h n in
    let t = count_trailing_zeros 64 x in
    from_first 0 64 t (on x) zero-le r.below r.has r.first
    ∙ ap (λ (l : List ℕ). t ∷ l) (inputs_ext _ _ (λ i q. sym (on_without x (only t) i q)))

only_suc : (t i : ℕ) → only (suc t) (suc i) ≡ only t i
only_suc t i =
    test (only t i) (λ e. rw e (eq-eqb (suc i) (suc t) (ap suc (eqb-true i t e))))
    (λ e. rw e (ne_eqb (suc i) (suc t) (λ q. let z : i ≡ t = omega arith in eqb-false i t e z)))

-- x - 1 has the bits of x above its lowest, which it has not
dropped_bits : (k x : ℕ) → x < 2 ^ k → (x ≡ 0 → ⊥) → (i : ℕ) → (on x i && on (x - 1) i) ≡ (on x i && not (only (count_trailing_zeros k x) i))
unfolding count_trailing_zeros
dropped_bits zero x h n = absurd (n (omega arith))
dropped_bits (suc k) x h n =
    digit (λ d. x % 2 ≡ d → (i : ℕ) → (on x i && on (x - 1) i) ≡ (on x i && not (only (under d (count_trailing_zeros k (x / 2))) i)))
    (λ e. even (count_trailing_zeros k (x / 2)) e (dropped_bits k (x / 2) (omega arith) (λ z. n (omega arith)))) (λ e. odd e) x refl
  where
    even : (t : ℕ) → x % 2 ≡ 0 → ((i : ℕ) → (on (x / 2) i && on (x / 2 - 1) i) ≡ (on (x / 2) i && not (only t i))) → (i : ℕ) → (on x i && on (x - 1) i) ≡ (on x i && not (only (suc t) i))
    even t e r zero = rw (on_zero x, e)
    even t e r (suc i) =
        let half : (x - 1) / 2 ≡ x / 2 - 1 = omega arith in
        rw (on_suc x i, on_suc (x - 1) i, half, only_suc t i) (r i)

    odd : x % 2 ≡ 1 → (i : ℕ) → (on x i && on (x - 1) i) ≡ (on x i && not (only 0 i))
    odd e zero =
        let low : (x - 1) % 2 ≡ 0 = omega arith in
        rw (on_zero x, on_zero (x - 1), e, low)
    odd e (suc i) =
        let half : (x - 1) / 2 ≡ x / 2 = omega arith in
        rw (on_suc x i, on_suc (x - 1) i, half, ne_eqb (suc i) 0 (λ q. omega arith)) (twice (on (x / 2) i))

-- so x & (x - 1) drops the lowest input
pub lowest_dropped : (x : ℕ) → x < 2 ^ 64 → (x ≡ 0 → ⊥) → bit_and x (x - 1) ≡ without x (only (count_trailing_zeros 64 x))
unfolding without
lowest_dropped x h n = is_number 64 _ _ (lt_of_le_of_lt (and_le_l x (x - 1)) h) (λ i l. on_and x (x - 1) i ∙ dropped_bits 64 x h n i)

-- with its lowest bit dropped a set has one input less
pub one_less : (x : ℕ) → x < 2 ^ 64 → (x ≡ 0 → ⊥) → suc (length (inputs (on (bit_and x (x - 1))))) ≡ length (inputs (on x))
one_less x h s = ap (λ y. suc (length (inputs (on y)))) (lowest_dropped x h s) ∙ sym (ap length (first_input x h s))
