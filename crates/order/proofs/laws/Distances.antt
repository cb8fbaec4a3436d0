-- The difference from one event as a key (02, C-19): moved up by 32,768 it is a natural number, and of positions near that one it rises as they do.
use Rattle.basics.proofs.Prelude.{◌≡◌, sym, ◌∙◌, ℕ, suc, ◌+◌, ◌-◌, ◌%◌, ◌<◌, ◌≤◌, arith, leb, ltb-true, ltb-false, le-leb, lt-leb, leb-true, leb-false, test}
use lib.{IntN.ℤ, IntN.pos, IntN.negsuc, Signed.le_z}
use Rattle.difference.{specs.Difference.ahead, specs.Difference.is_ahead, specs.Difference.difference_of, proofs.Integers.over, proofs.Integers.under, proofs.Integers.choice, proofs.Integers.minus}
use Rattle.rules.specs.Numbering.{Numbered}
use Rattle.order.specs.{Numbered.number_at, Sorted.not_ahead}
use Rattle.order.proofs.laws.Computed as computed

leb_alike : (a b c d : ℕ) → (a ≤ b → c ≤ d) → (c ≤ d → a ≤ b) → leb a b ≡ leb c d
leb_alike a b c d f g =
    test (leb a b) (λ t. t ∙ sym (le-leb c d (f (leb-true a b t))))
    (λ t. test (leb c d) (λ u. absurd (let h = leb-false a b t in let k = g (leb-true c d u) in omega (arith, h, k))) (λ u. t ∙ sym u))

-- the order of integers by how far each is over 0 and under
order_is : (x y : ℤ) → le_z x y ≡ leb (over x + under y) (over y + under x)
order_is (pos a) (pos b) = leb_alike a b (a + 0) (b + 0) (λ h. omega (arith, h)) (λ h. omega (arith, h))
order_is (pos a) (negsuc b) = sym (lt-leb (a + suc b) (0 + 0) (omega arith))
order_is (negsuc a) (pos b) = sym (le-leb (0 + 0) (b + suc a) (omega arith))
order_is (negsuc a) (negsuc b) = leb_alike b a (0 + suc b) (0 + suc a) (λ h. omega (arith, h)) (λ h. omega (arith, h))

-- ---- the key

abbrev pub distance : (from number : ℕ) → ℕ
distance from number = (ahead number from + 32768) % 65536

distance_is : (from number : ℕ) → over (difference_of number from) + 32768 ≡ under (difference_of number from) + distance from number
distance_is from number =
    choice (is_ahead number from) (λ z. over z + 32768 ≡ under z + distance from number) (λ e. let near = ltb-true (ahead number from) _ e in omega arith)
    (λ e. let far = ltb-false (ahead number from) _ e in let less = minus (pos (ahead number from)) (pos 65536) in omega arith)

pub distance_tells : (from : ℕ) (x y : Numbered) → not_ahead from x y ≡ leb (distance from x.number) (distance from y.number)
distance_tells from x y =
    let d = difference_of x.number from in
    let e = difference_of y.number from in
    let p = distance_is from x.number in
    let q = distance_is from y.number in
    order_is d e ∙ leb_alike (over d + under e) (over e + under d) (distance from x.number) (distance from y.number) (λ h. omega (arith, p, q, h)) (λ h. omega (arith, p, q, h))

-- of the event at position p, from that at position q
pub distance_at : (start p q : ℕ) → p < q + 32768 → q < p + 32768 → distance (number_at start q) (number_at start p) ≡ p + 32768 - q
distance_at start p q l m = omega (arith, l, m)
