-- A number and its bytes, little end first: each direction gives back what the other took, for any width.
-- Then the number taken byte by byte from the front, the bytes of a part, and one byte of a number read and replaced.
use mathlib.Core.{Path.◌≡◌, Path.refl, Path.sym, Path.ap, Path.◌∙◌, Bool.true, Bool.false, Bool.and-eq-true_iff, List.List, List.[], List.◌∷◌, List.◌++◌}
use Prim.Native.Nat.{ℕ, zero, suc, ◌+◌, ◌*◌, ◌/◌, ◌%◌, ◌^◌, ◌<◌, ◌≤◌}
use native.Mathlib.{Nat.pow-succ', Nat.mul_left_comm, Numerals.add-one, Omega.arith}
use lib.{Dec.ltb, Dec.lit<, ListN.length, ListN.take, ListN.drop, ListN.get_or, ListN.replicate, Pow.are_bytes, Seq.length-take-le, Seq.take-suc, Seq.get_or-drop}
use borrow.Author.Tests.{ltb-true}
use Rattle.basics.specs.{Numbers.number_of, Numbers.bytes_of, Numbers.byte_of, Numbers.part, Numbers.Bytes, Inputs.half}
use Rattle.basics.proofs.laws.Lists.{length_part}

-- ---- both directions

pub length_bytes_of : (w x : ℕ) → length (bytes_of w x) ≡ w
length_bytes_of zero x = refl
length_bytes_of (suc w) x = ap suc (length_bytes_of w (x / 256))

pub number_of_bytes_of : (w x : ℕ) → x < 256 ^ w → number_of (bytes_of w x) ≡ x
number_of_bytes_of zero x h = omega arith
number_of_bytes_of (suc w) x h =
    let q : x / 256 < 256 ^ w = omega (arith, pow-succ' 256 w) in
    omega (arith, number_of_bytes_of w (x / 256) q)

pub bytes_of_number_of : (l : List ℕ) → Bytes l → bytes_of (length l) (number_of l) ≡ l
bytes_of_number_of [] h = refl
bytes_of_number_of (b ∷ l) h =
    let low : (b + 256 * number_of l) % 256 ≡ b = omega (arith, h 0) in
    let high : (b + 256 * number_of l) / 256 ≡ number_of l = omega (arith, h 0) in
    rw (low, high, bytes_of_number_of l (λ i. h (suc i)))

pub number_of_below : (l : List ℕ) → Bytes l → number_of l < 256 ^ length l
number_of_below [] h = omega arith
number_of_below (b ∷ l) h = omega (arith, h 0, number_of_below l (λ i. h (suc i)), pow-succ' 256 (length l))

-- ---- lists of bytes

pub bytes_drop : (l : List ℕ) (n : ℕ) → Bytes l → Bytes (drop n l)
bytes_drop l n h i = rw get_or-drop (h (n + i))

pub bytes_take : (l : List ℕ) (n : ℕ) → Bytes l → Bytes (take n l)
bytes_take l zero h i = lit< tt
bytes_take [] (suc n) h i = lit< tt
bytes_take (x ∷ l) (suc n) h zero = h 0
bytes_take (x ∷ l) (suc n) h (suc i) = bytes_take l n (λ k. h (suc k)) i

pub bytes_part : (l : List ℕ) (a n : ℕ) → Bytes l → Bytes (part a n l)
bytes_part l a n h = bytes_take (drop a l) n (bytes_drop l a h)

-- a list that is written out
pub bytes_known : (l : List ℕ) → are_bytes l ≡ true → Bytes l
bytes_known [] e i = lit< tt
bytes_known (x ∷ l) e zero = ltb-true x 256 ((and-eq-true_iff (ltb x 256) (are_bytes l)).0 e).0
bytes_known (x ∷ l) e (suc i) = bytes_known l ((and-eq-true_iff (ltb x 256) (are_bytes l)).0 e).1 i

pub bytes_append : (l m : List ℕ) → Bytes l → Bytes m → Bytes (l ++ m)
bytes_append [] m h k i = k i
bytes_append (x ∷ l) m h k zero = h 0
bytes_append (x ∷ l) m h k (suc i) = bytes_append l m (λ j. h (suc j)) k i

pub bytes_replicate : (n x : ℕ) → x < 256 → Bytes (replicate n x)
bytes_replicate zero x h i = lit< tt
bytes_replicate (suc n) x h zero = h
bytes_replicate (suc n) x h (suc i) = bytes_replicate n x h i

pub bytes_bytes_of : (w x : ℕ) → Bytes (bytes_of w x)
bytes_bytes_of zero x i = lit< tt
bytes_bytes_of (suc w) x zero = omega arith
bytes_bytes_of (suc w) x (suc i) = bytes_bytes_of w (x / 256) i

-- ---- from the front

number_of_snoc : (l : List ℕ) (x : ℕ) → number_of (l ++ (x ∷ [])) ≡ number_of l + x * 256 ^ length l
number_of_snoc [] x = omega arith
number_of_snoc (b ∷ l) x = omega (arith, number_of_snoc l x, ap (λ n. x * n) (pow-succ' 256 (length l)), mul_left_comm x 256 (256 ^ length l))

-- one byte more
pub number_of_next : (l : List ℕ) (i : ℕ) → i < length l → number_of (take (i + 1) l) ≡ number_of (take i l) + get_or l i 0 * 256 ^ i
number_of_next l i h = rw (add-one, take-suc l i 0, number_of_snoc, length-take-le i l (omega arith))

-- ---- a part and its number

module _ (l : List ℕ) (a n : ℕ) (b : Bytes l) (h : a + n ≤ length l) where
  -- a part is the bytes of its number
  pub part_number : bytes_of n (number_of (part a n l)) ≡ part a n l
  part_number = ap (λ k. bytes_of k (number_of (part a n l))) (sym (length_part l a n h)) ∙ bytes_of_number_of (part a n l) (bytes_part l a n b)

  -- a part is known by its number
  pub part_known : (x : ℕ) → number_of (part a n l) ≡ x → part a n l ≡ bytes_of n x
  part_known x e = sym part_number ∙ ap (bytes_of n) e

  pub part_below : number_of (part a n l) < 256 ^ n
  part_below = rw (length_part l a n h) at (number_of_below (part a n l) (bytes_part l a n b))

-- ---- the bytes of a number one by one

-- the four low bytes of a number, as they come off it one after another
pub four_bytes_lem : (v : ℕ) → (byte_of v 0 ≡ v % 256) × (byte_of v 1 ≡ v / 256 % 256) × (byte_of v 2 ≡ v / 256 / 256 % 256) × (byte_of v 3 ≡ v / 256 / 256 / 256 % 256)
four_bytes_lem v = (omega arith, omega arith, omega arith, omega arith)

-- the low half keeps the low bytes
pub low_bytes : (v w : ℕ) → w ≡ half false v → (byte_of w 0 ≡ byte_of v 0) × (byte_of w 1 ≡ byte_of v 1)
low_bytes v w e = (omega arith, omega arith)
