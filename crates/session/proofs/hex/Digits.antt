-- Hex digits: which bytes are digits, a number read digit by digit from the front, and its digits written from the back.
use Rattle.basics.proofs.Prelude.{◌≡◌, refl, sym, ap, ◌∙◌, List, ℕ, zero, suc, ◌+◌, ◌-◌, ◌*◌, ◌/◌, ◌^◌, ◌<◌, ◌≤◌, pow-succ', pow-le-pow_right, add-one, arith, length, drop, get_or, length-append, test, next}
use Rattle.rules.specs.{Map.within, Device.Value, Device.none, Device.some}
use Rattle.sessions.specs.Session.{digit_of, digits, if_some, digits_spell}
use Rattle.laws.proofs.laws.Maps.{inside, inside_from, outside}

-- ---- a byte

pub letter : (b : ℕ) → 0x61 ≤ b → b < 0x67 → digit_of b ≡ some (b - 0x57)
letter b h k = rw (outside 0x30 0x3a b (λ p q. omega arith), inside 0x61 0x67 b h k)

-- a digit is below 16
digit_below : (b d : ℕ) → digit_of b ≡ some d → d < 16
digit_below b d e =
    test (within 0x30 0x3a b)
    (λ t.
    let r = inside_from 0x30 0x3a b t in
    let f : some (b - 0x30) ≡ some d = rw t at e in
    let g : b - 0x30 ≡ d = cc in
    omega arith)
    (λ t.
    test (within 0x61 0x67 b)
    (λ u.
    let r = inside_from 0x61 0x67 b u in
    let f : some (b - 0x57) ≡ some d = rw (t, u) at e in
    let g : b - 0x57 ≡ d = cc in
    omega arith)
    (λ u.
    let f : none ≡ some d = rw (t, u) at e in
    let z : ◌≡◌ {A = ℕ} 0 1 = cc in
    omega arith))

-- ---- a number read

module _ (l : List ℕ) (i x : ℕ) (h : i < length l) where
  -- one digit more
  digits_spell_next : (d : ℕ) → digit_of (get_or l i 0) ≡ some d → digits_spell x (drop i l) ≡ digits_spell (16 * x + d) (drop (i + 1) l)
  unfolding digits_spell
  digits_spell_next d e = ap (digits_spell x) (next l i 0 h) ∙ ap (λ (v : Value). if_some v (λ d. digits_spell (16 * x + d) (drop (i + 1) l))) e

  -- a byte that is no digit
  pub digits_spell_wrong : digit_of (get_or l i 0) ≡ none → digits_spell x (drop i l) ≡ none
  unfolding digits_spell
  digits_spell_wrong e = ap (digits_spell x) (next l i 0 h) ∙ ap (λ (v : Value). if_some v (λ d. digits_spell (16 * x + d) (drop (i + 1) l))) e

-- so many digits have room in 64 bits
digits_fit : (x d i : ℕ) → x < 16 ^ i → d < 16 → i < 16 → (16 * x + d < 16 ^ (i + 1)) × (16 * x + d < 2 ^ 64)
digits_fit x d i h k j =
    let s : 16 ^ (i + 1) ≡ 16 * 16 ^ i = ap (λ n. 16 ^ n) (add-one i) ∙ pow-succ' 16 i in
    let m : i + 1 ≤ 16 = omega arith in
    let a : 16 ^ (i + 1) ≤ 16 ^ 16 = pow-le-pow_right (omega arith) m in
    (omega arith, omega arith)

-- what holds after i digits of at most 16: the rest, read on from x, gives the number of the whole
pub record Reading (l : List ℕ) (x i : ℕ) : Type 0 where
  pub same : digits_spell x (drop i l) ≡ digits_spell 0 l
  pub below : x < 16 ^ i
  pub within : i ≤ length l

pub reading_next : (l : List ℕ) (x i d : ℕ) → Reading l x i → i < length l → length l ≤ 16 → digit_of (get_or l i 0) ≡ some d
    → Reading l (16 * x + d) (i + 1) × (16 * x + d < 2 ^ 64)
reading_next l x i d r h k e =
    let f = digits_fit x d i r.below (digit_below (get_or l i 0) d e) (omega arith) in
    (record { same = sym (digits_spell_next l i x h d e) ∙ r.same; below = f.0; within = omega arith }, f.1)

-- ---- a number written

pub length_digits : (n x : ℕ) → length (digits n x) ≡ n
length_digits zero x = refl
length_digits (suc n) x = length-append (digits n (x / 16)) _ ∙ (rw (length_digits n (x / 16)) (omega arith))
