-- The halves of a register and the bytes of a number: their bits, and the masks by which the code replaces a byte.
-- A half is compared bit by bit, and so is the register, since the other half stays (changed).
use Rattle.basics.proofs.Prelude.{◌≡◌, refl, sym, ap₂, ◌∙◌, Bool, true, false, not, ◌&&◌, and-not_self, not-and_self, ℕ, zero, suc, ◌+◌, ◌-◌, ◌*◌, ◌/◌, ◌%◌, ◌^◌, ◌≤◌, ◌<◌, mod-lt, mod-mod, add-zero, pow-suc, arith, ltb, bit_and, bit_or, and_block, or_block, or_shifted, or_zero_r, and_mask, and_high, pow_pos, pow-add, suc_ones, ones_lt, split, shl_exact, high_ones, shr_mod, shr-shr, ltb-true, ltb-false, byte_of, with_byte, on, half, with_half, as_half, test, on_down, on_none, on_mod, on_below, on_above, on_and, on_not}
use Rattle.rules.specs.Lines.{newly_unmasked, newly_masked}

-- ---- the bits of a half
-- the place in the register of bit j of a half
abbrev pub placed : Bool → ℕ → ℕ
placed true j = 32 + j
placed false j = j

-- each place is in the low half or in the high one
low_or_high : (P : ℕ → Type 0) → ((j : ℕ) → j < 32 → P j) → ((j : ℕ) → j < 32 → P (32 + j)) → (i : ℕ) → i < 64 → P i
low_or_high P p q i l =
    test (ltb i 32) (λ t. p i (ltb-true i 32 t))
    (λ t. let e : 32 + (i - 32) ≡ i = omega (arith, ltb-false i 32 t) in rw e at (q (i - 32) (omega arith)))

pub by_halves : (P : ℕ → Type 0) (h : Bool) → ((j : ℕ) → j < 32 → P (placed h j)) → ((j : ℕ) → j < 32 → P (placed (not h) j))
    → (i : ℕ) → i < 64 → P i
by_halves P true p q = low_or_high P q p
by_halves P false p q = low_or_high P p q

pub half_lt : (h : Bool) (x : ℕ) → x < 2 ^ 64 → half h x < 2 ^ 32
half_lt true x l = omega arith
half_lt false x l = omega arith

pub on_half : (h : Bool) (x j : ℕ) → j < 32 → on (half h x) j ≡ on x (placed h j)
on_half true x j l = on_down 32 x j
on_half false x j l = on_mod 32 x j l

-- the half that is replaced has the bits of v, and the other keeps those of x
pub on_new_half : (h : Bool) (x v j : ℕ) → j < 32 → on (with_half h x v) (placed h j) ≡ on v j
on_new_half true x v j l = on_above 32 (v % 2 ^ 32) (x % 2 ^ 32) j (mod-lt x (pow_pos 32)) ∙ on_mod 32 v j l
on_new_half false x v j l = on_below 32 (x / 2 ^ 32) (v % 2 ^ 32) j l ∙ on_mod 32 v j l

pub on_kept_half : (h : Bool) (x v j : ℕ) → j < 32 → on (with_half h x v) (placed (not h) j) ≡ on x (placed (not h) j)
on_kept_half true x v j l = on_below 32 (v % 2 ^ 32) (x % 2 ^ 32) j l ∙ on_mod 32 x j l
on_kept_half false x v j l = on_above 32 (x / 2 ^ 32) (v % 2 ^ 32) j (mod-lt v (pow_pos 32)) ∙ on_down 32 x j

-- w compares a half of x with v, by a test that is false of equal bits: in its place it compares x with what x becomes
pub changed : (F : Bool → Bool → Bool) → ((a : Bool) → F a a ≡ false) → (h : Bool) (x v w : ℕ)
    → ((j : ℕ) → j < 32 → on w j ≡ F (on (half h x) j) (on v j))
    → (i : ℕ) → i < 64 → on (as_half h w) i ≡ F (on x i) (on (with_half h x v) i)
changed F same h x v w e =
    by_halves (λ i. on (as_half h w) i ≡ F (on x i) (on (with_half h x v) i)) h
    (λ j l. rw (on_new_half h 0 w j l, on_new_half h x v j l, ← on_half h x j l) (e j l))
    (λ j l. rw (on_kept_half h 0 w j l, on_kept_half h x v j l, on_none, same))

-- a half & !v, and !(a half) & v, in their places
pub newly_unmasked_is : (h : Bool) (x v : ℕ) → v < 2 ^ 32
    → (i : ℕ) → i < 64 → on (as_half h (bit_and (half h x) ((2 ^ 32 - 1) - v))) i ≡ newly_unmasked x (with_half h x v) i
newly_unmasked_is h x v hv = changed (λ a b. a && not b) and-not_self h x v _ (λ j l. simp (on_and, on_not 32))

pub newly_masked_is : (h : Bool) (x v : ℕ) → x < 2 ^ 64
    → (i : ℕ) → i < 64 → on (as_half h (bit_and ((2 ^ 32 - 1) - half h x) v)) i ≡ newly_masked x (with_half h x v) i
newly_masked_is h x v hx = let e = half_lt h x hx in changed (λ a b. not a && b) not-and_self h x v _ (λ j l. simp (on_and, on_not 32))

-- ---- a part replaced by masks
-- the mask that keeps all but the part, where 1 + b stands above the bits below it and (1 + b) * (1 + c) above the part
kept : (a b c : ℕ) {A B C : ℕ} → suc a ≡ A → suc b ≡ B → suc c ≡ C → (A * (B * C) - 1) - c * B ≡ a * C * B + b
kept a b c p q r = rw (← p, ← q, ← r) (omega arith)

module _ (j w k x v : ℕ) (hx : x < 2 ^ (j + (k + w))) (hv : v < 2 ^ w) where
  mask_is : (2 ^ (j + (k + w)) - 1) - (2 ^ w - 1) * 2 ^ k ≡ (2 ^ (j + w) - 2 ^ w) * 2 ^ k + (2 ^ k - 1)
  mask_is =
      rw (pow-add 2 j (k + w), pow-add 2 k w, high_ones j w) (kept (2 ^ j - 1) (2 ^ k - 1) (2 ^ w - 1) (suc_ones j) (suc_ones k) (suc_ones w))

  rest_is : bit_and x ((2 ^ (j + (k + w)) - 1) - (2 ^ w - 1) * 2 ^ k) ≡ x / 2 ^ (k + w) * 2 ^ w * 2 ^ k + x % 2 ^ k
  rest_is =
      ap₂ bit_and (sym (split x k)) mask_is
      ∙ and_block k (x / 2 ^ k) (2 ^ (j + w) - 2 ^ w) (x % 2 ^ k) (2 ^ k - 1) (mod-lt x (pow_pos k)) (ones_lt k)
      ∙ ap₂ (λ (u r : ℕ). u * 2 ^ k + r) (and_high (x / 2 ^ k) j w ∙ rw (shr-shr, shr_mod j (k + w) hx))
      (and_mask (x % 2 ^ k) k ∙ mod-mod x (2 ^ k))

  replaced_at : bit_or (bit_and x ((2 ^ (j + (k + w)) - 1) - (2 ^ w - 1) * 2 ^ k)) (v * 2 ^ k)
      ≡ x / 2 ^ (k + w) * 2 ^ (k + w) + v * 2 ^ k + x % 2 ^ k
  replaced_at =
      ap₂ bit_or rest_is (sym (add-zero (v * 2 ^ k)))
      ∙ or_block k (x / 2 ^ (k + w) * 2 ^ w) v (x % 2 ^ k) 0 (mod-lt x (pow_pos k)) (pow_pos k)
      ∙ ap₂ (λ (u r : ℕ). u * 2 ^ k + r) (or_shifted (x / 2 ^ (k + w)) w v hv) (or_zero_r (x % 2 ^ k))
      ∙ rw (pow-add 2 k w) (omega arith)

-- v put for the w bits of x from place k on
pub replaced : (n w k x v : ℕ) → k + w ≤ n → x < 2 ^ n → v < 2 ^ w
    → bit_or (bit_and x ((2 ^ n - 1) - (2 ^ w - 1) * 2 ^ k % 2 ^ n)) (v * 2 ^ k % 2 ^ n) ≡ x / 2 ^ (k + w) * 2 ^ (k + w) + v * 2 ^ k + x % 2 ^ k
replaced n w k x v l hx hv =
    let e : n ≡ (n - (k + w)) + (k + w) = omega arith in
    rw (shl_exact w k n (ones_lt w) (omega arith), shl_exact w k n hv (omega arith), e)
    (replaced_at (n - (k + w)) w k x v (rw e at hx) hv)

-- v << 32, and v
pub high_placed : (v : ℕ) → v < 2 ^ 32 → v * 2 ^ 32 % 2 ^ 64 ≡ as_half true v
high_placed v h = omega arith

pub low_placed : (v : ℕ) → v < 2 ^ 32 → v ≡ as_half false v
low_placed v h = omega arith

-- ---- bytes
pub byte_place : (k : ℕ) → 2 ^ (k * 8) ≡ 256 ^ k
byte_place zero = refl
byte_place (suc k) = let e : suc k * 8 ≡ k * 8 + 8 = omega arith in rw (e, pow-add 2 (k * 8) 8, byte_place k, pow-suc 256 k)

-- (x >> (k * 8)) & 0xff
pub byte_taken : (x k : ℕ) → bit_and (x / 2 ^ (k * 8)) 0xff ≡ byte_of x k
byte_taken x k = rw (byte_place k) (and_mask (x / 256 ^ k) 8)

-- (x & !(0xff << (k * 8))) | (v << (k * 8)), in a number of n bits
pub byte_replaced : (n x k v : ℕ) → k * 8 + 8 ≤ n → x < 2 ^ n → v < 2 ^ 8
    → bit_or (bit_and x ((2 ^ n - 1) - 0xff * 2 ^ (k * 8) % 2 ^ n)) (v * 2 ^ (k * 8) % 2 ^ n) ≡ with_byte x k v
byte_replaced n x k v l hx hv = replaced n 8 (k * 8) x v l hx hv ∙ rw (pow-add 2 (k * 8) 8, byte_place k, pow-add 256 k 1)
