-- Bit i of a number: of a mask operation, of a shift, of a power of two, of a number made from a set. A number is given by its bits (on-ext),
-- so a mask expression of the code is shown to be a definition of Inputs by comparing bits (put_is, without_is).
use mathlib.Core.{Path.◌≡◌, Path.refl, Path.sym, Path.ap, Path.◌∙◌, Logic.⊎_elim, Bool.Bool, Bool.true, Bool.false, Bool.cond, Bool.not, Bool.◌&&◌, Bool.◌||◌}
use Prim.Native.Nat.{ℕ, zero, suc, ◌+◌, ◌-◌, ◌*◌, ◌/◌, ◌%◌, ◌^◌, ◌≤◌, ◌<◌, zero-le}
use native.Mathlib.Nat.{mod-lt, add-zero, one-mul, div-eq_of_lt, mul-add-mod_self_right, lt_of_lt_of_le, lt_of_le_of_lt, eq-or-lt_of_le, le_of_suc-le-suc}
use native.Mathlib.{Numerals.one-add, Omega.arith}
use lib.{Dec.eqb, Dec.eqb-suc-suc, Bits.bit_and, Bits.bit_or, Bits.and_shr, Bits.or_shr, Bits.and_mod, Bits.or_mod, Bits.and_le_l, Bits.or_lt}
use lib.Pow.{pow_pos, pow_mono, shr-shr, high, field, mod-mod-pow, shl_exact}
use borrow.Author.Tests.{ne_eqb}
use Rattle.basics.specs.Inputs.{on, number_with, register, only, put, without}

-- ---- one digit
-- a lowest digit is 0 or 1
pub digit : (P : ℕ → Type 0) → P 0 → P 1 → (x : ℕ) → P (x % 2)
digit P p q x = by (x % 2) (mod-lt x (pow_pos 1))
  where
    by : (d : ℕ) → d < 2 → P d
    by zero h = p
    by (suc zero) h = q
    by (suc (suc d)) h = absurd (omega arith)

digits : (P : ℕ → ℕ → Type 0) → P 0 0 → P 0 1 → P 1 0 → P 1 1 → (x y : ℕ) → P (x % 2) (y % 2)
digits P p q r s x y = digit (λ d. P d (y % 2)) (digit (P 0) p q y) (digit (P 1) r s y) x

-- a test is true or false, and which
pub test : {A : Type 0} (b : Bool) → (b ≡ true → A) → (b ≡ false → A) → A
test true p q = p refl
test false p q = q refl

pub on_zero : (x : ℕ) → on x 0 ≡ eqb (x % 2) 1
unfolding on
on_zero x = let e : x / 2 ^ 0 % 2 ≡ x % 2 = omega arith in rw e

-- ---- shifts and parts
pub on_down : (k x i : ℕ) → on (x / 2 ^ k) i ≡ on x (k + i)
unfolding on
on_down k x i = rw shr-shr

pub on_suc : (x i : ℕ) → on x (suc i) ≡ on (x / 2) i
on_suc x i = ap (on x) (sym (one-add i)) ∙ sym (on_down 1 x i)

-- a number has no bit at or past its width
pub on_past : (k x i : ℕ) → x < 2 ^ k → k ≤ i → on x i ≡ false
unfolding on
on_past k x i h l = rw (div-eq_of_lt (lt_of_lt_of_le h (pow_mono l)))

pub on_none : (i : ℕ) → on 0 i ≡ false
on_none i = on_past 0 0 i (pow_pos 0) zero-le

-- the low k bits
pub on_mod : (k x i : ℕ) → i < k → on (x % 2 ^ k) i ≡ on x i
unfolding on
on_mod k x i l =
    let e : k ≡ (k - suc i) + 1 + i = omega arith in
    rw (e, field x (k - suc i + 1) i, mod-mod-pow (x / 2 ^ i) (k - suc i) 1)

-- b above k bits of x
pub on_below : (k b x i : ℕ) → i < k → on (b * 2 ^ k + x) i ≡ on x i
on_below k b x i l = sym (on_mod k (b * 2 ^ k + x) i l) ∙ rw mul-add-mod_self_right (on_mod k x i l)

pub on_above : (k b x i : ℕ) → x < 2 ^ k → on (b * 2 ^ k + x) (k + i) ≡ on b i
on_above k b x i h = sym (on_down k (b * 2 ^ k + x) i) ∙ rw (high b k h)

-- ---- mask operations
-- an operation that works digit by digit
bitwise : (op : ℕ → ℕ → ℕ) (F : Bool → Bool → Bool) → ((a b k : ℕ) → op a b / 2 ^ k ≡ op (a / 2 ^ k) (b / 2 ^ k))
    → ((a b k : ℕ) → op a b % 2 ^ k ≡ op (a % 2 ^ k) (b % 2 ^ k)) → ((a b : ℕ) → eqb (op (a % 2) (b % 2)) 1 ≡ F (eqb (a % 2) 1) (eqb (b % 2) 1))
    → (a b i : ℕ) → on (op a b) i ≡ F (on a i) (on b i)
unfolding on
bitwise op F shr low one a b i = rw (shr a b i, low (a / 2 ^ i) (b / 2 ^ i) 1) (one (a / 2 ^ i) (b / 2 ^ i))

pub on_and : (a b i : ℕ) → on (bit_and a b) i ≡ (on a i && on b i)
on_and = bitwise bit_and ◌&&◌ and_shr and_mod (digits (λ p q. eqb (bit_and p q) 1 ≡ (eqb p 1 && eqb q 1)) refl refl refl refl)

pub on_or : (a b i : ℕ) → on (bit_or a b) i ≡ (on a i || on b i)
on_or = bitwise bit_or ◌||◌ or_shr or_mod (digits (λ p q. eqb (bit_or p q) 1 ≡ (eqb p 1 || eqb q 1)) refl refl refl refl)

pub on_not : (k a i : ℕ) → a < 2 ^ k → i < k → on ((2 ^ k - 1) - a) i ≡ not (on a i)
on_not zero a i h l = absurd (omega arith)
on_not (suc k) a zero h l =
    let e : ((2 ^ suc k - 1) - a) % 2 ≡ 1 - a % 2 = omega (arith, pow_pos k) in
    simp (on_zero, e) (digit (λ d. eqb (1 - d) 1 ≡ not (eqb d 1)) refl refl a)
on_not (suc k) a (suc i) h l =
    let e : ((2 ^ suc k - 1) - a) / 2 ≡ (2 ^ k - 1) - a / 2 = omega (arith, pow_pos k) in
    simp (on_suc, e) (on_not k (a / 2) i (omega arith) (omega arith))

pub on_and_not : (a b i : ℕ) → b < 2 ^ 64 → i < 64 → on (bit_and a ((2 ^ 64 - 1) - b)) i ≡ (on a i && not (on b i))
on_and_not a b i h l = on_and a _ i ∙ rw (on_not 64 b i h l)

-- ---- equal bits, equal numbers
same_lowest : (x y : ℕ) → on x 0 ≡ on y 0 → x % 2 ≡ y % 2
same_lowest x y e =
    digits (λ p q. eqb p 1 ≡ eqb q 1 → p ≡ q) (λ t. refl) (λ t. cc) (λ t. cc) (λ t. refl) x y (simp on_zero at e)

pub on_ext : (k x y : ℕ) → x < 2 ^ k → y < 2 ^ k → ((i : ℕ) → i < k → on x i ≡ on y i) → x ≡ y
on_ext zero x y hx hy e = omega arith
on_ext (suc k) x y hx hy e =
    let above = on_ext k (x / 2) (y / 2) (omega arith) (omega arith) (λ i l. simp on_suc at (e (suc i) (omega arith))) in
    omega (arith, same_lowest x y (e 0 (omega arith)))

pub on_pow : (n i : ℕ) → on (2 ^ n) i ≡ only n i
on_pow zero zero = on_zero 1
on_pow zero (suc i) = on_suc 1 i ∙ on_none i ∙ sym (ne_eqb (suc i) 0 (omega arith))
on_pow (suc n) zero = let e : 2 ^ suc n % 2 ≡ 0 = omega arith in simp (on_zero, e) (sym (ne_eqb 0 (suc n) (omega arith)))
on_pow (suc n) (suc i) = let e : 2 ^ suc n / 2 ≡ 2 ^ n = omega arith in simp (on_suc, e, eqb-suc-suc) (on_pow n i)

-- ---- the number of a set
-- the top place above the places below it
number_with_suc : (k : ℕ) (f : ℕ → Bool) → number_with (suc k) f ≡ cond (f k) 1 0 * 2 ^ k + number_with k f
unfolding number_with
number_with_suc k f = test (f k) (λ e. rw e (omega arith)) (λ e. rw e (omega arith))

pub number_with_lt : (k : ℕ) (f : ℕ → Bool) → number_with k f < 2 ^ k
unfolding number_with
number_with_lt zero f = omega arith
number_with_lt (suc k) f = let h = number_with_lt k f in test (f k) (λ e. rw e (omega arith)) (λ e. rw e (omega arith))

pub on_number : (k : ℕ) (f : ℕ → Bool) (i : ℕ) → i < k → on (number_with k f) i ≡ f i
on_number zero f i l = absurd (omega arith)
on_number (suc k) f i l =
    rw number_with_suc
    (⊎_elim (λ e. rw e (rw add-zero at (on_above k (cond (f k) 1 0) (number_with k f) 0 (number_with_lt k f)) ∙ top (f k)))
    (λ h. on_below k (cond (f k) 1 0) (number_with k f) i h ∙ on_number k f i h) (eq-or-lt_of_le (le_of_suc-le-suc l)))
  where
    top : (b : Bool) → on (cond b 1 0) 0 ≡ b
    top true = on_zero 1
    top false = on_zero 0

pub is_number : (k x : ℕ) (f : ℕ → Bool) → x < 2 ^ k → ((i : ℕ) → i < k → on x i ≡ f i) → x ≡ number_with k f
is_number k x f h e = on_ext k x (number_with k f) h (number_with_lt k f) (λ i l. e i l ∙ sym (on_number k f i l))

-- ---- registers of 64 inputs
pub register_ext : (f g : ℕ → Bool) → ((i : ℕ) → i < 64 → f i ≡ g i) → register f ≡ register g
register_ext f g e = is_number 64 (register f) g (number_with_lt 64 f) (λ i l. on_number 64 f i l ∙ e i l)

pub without_ext : (x : ℕ) (f g : ℕ → Bool) → ((i : ℕ) → i < 64 → f i ≡ g i) → without x f ≡ without x g
unfolding without
without_ext x f g e = register_ext _ _ (λ i l. rw (e i l))

pub put_lt : (x n : ℕ) → put x n < 2 ^ 64
unfolding put
put_lt x n = number_with_lt 64 _

pub without_lt : (x : ℕ) (f : ℕ → Bool) → without x f < 2 ^ 64
unfolding without
without_lt x f = number_with_lt 64 _

pub on_put : (x n i : ℕ) → i < 64 → on (put x n) i ≡ (on x i || only n i)
unfolding put
on_put x n i l = on_number 64 _ i l

pub on_without : (x : ℕ) (f : ℕ → Bool) (i : ℕ) → i < 64 → on (without x f) i ≡ (on x i && not (f i))
unfolding without
on_without x f i l = on_number 64 _ i l

-- ---- the code's mask expressions: 1 << n, x | (1 << n), x & !b, x & !(1 << n), x & !(x & b)
pub bit_is : (n : ℕ) → n < 64 → 1 * 2 ^ n % 2 ^ 64 ≡ 2 ^ n
bit_is n h = shl_exact {a = 1} 1 n 64 (omega arith) (omega arith) ∙ one-mul (2 ^ n)

pub bit_lt : (n : ℕ) → 1 * 2 ^ n % 2 ^ 64 < 2 ^ 64
bit_lt n = mod-lt (1 * 2 ^ n) (pow_pos 64)

pub on_bit : (n : ℕ) → n < 64 → (i : ℕ) → on (1 * 2 ^ n % 2 ^ 64) i ≡ only n i
on_bit n h i = rw (bit_is n h) (on_pow n i)

pub put_is : (x n : ℕ) → x < 2 ^ 64 → n < 64 → bit_or x (1 * 2 ^ n % 2 ^ 64) ≡ put x n
unfolding put
put_is x n hx h = is_number 64 _ _ (or_lt 64 x _ hx (bit_lt n)) (λ i l. on_or x _ i ∙ rw (on_bit n h i))

pub and_below : (x b : ℕ) → x < 2 ^ 64 → bit_and x b < 2 ^ 64
and_below x b h = lt_of_le_of_lt (and_le_l x b) h

-- x & !b, for a b whose bits are f
pub without_these : (x b : ℕ) (f : ℕ → Bool) → x < 2 ^ 64 → b < 2 ^ 64 → ((i : ℕ) → i < 64 → on b i ≡ f i)
    → bit_and x ((2 ^ 64 - 1) - b) ≡ without x f
unfolding without
without_these x b f hx hb e = is_number 64 _ _ (and_below x _ hx) (λ i l. on_and_not x b i hb l ∙ rw (e i l))

pub without_is : (x b : ℕ) → x < 2 ^ 64 → b < 2 ^ 64 → bit_and x ((2 ^ 64 - 1) - b) ≡ without x (on b)
without_is x b hx hb = without_these x b (on b) hx hb (λ i l. refl)

pub without_only_is : (x n : ℕ) → x < 2 ^ 64 → n < 64 → bit_and x ((2 ^ 64 - 1) - 1 * 2 ^ n % 2 ^ 64) ≡ without x (only n)
without_only_is x n hx h = without_these x _ (only n) hx (bit_lt n) (λ i l. on_bit n h i)

pub without_common_is : (x b : ℕ) → x < 2 ^ 64 → bit_and x ((2 ^ 64 - 1) - bit_and x b) ≡ without x (on b)
unfolding without
without_common_is x b hx =
    is_number 64 _ _ (and_below x _ hx) (λ i l. on_and_not x _ i (and_below x b hx) l ∙ rw (on_and x b i) (once (on x i) (on b i)))
  where
    once : (p q : Bool) → (p && not (p && q)) ≡ (p && not q)
    once true q = refl
    once false q = refl
