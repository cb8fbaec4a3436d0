-- A number and its bytes, little end first, for any width; parts of a list; things of two bytes each, as a ring's events are; and two lists compared.
use Rattle.std.specs.Prelude.{Bool, true, false, ◌&&◌, List, [], ◌∷◌, ℕ, zero, suc, ◌+◌, ◌*◌, ◌/◌, ◌%◌, ◌^◌, ◌<◌, eqb, take, drop, get_or}

-- the number that these bytes spell, the low one first (01, Saved image)
abbrev pub number_of : List ℕ → ℕ
number_of [] = 0
number_of (b ∷ bs) = b + 256 * number_of bs

-- the w low bytes of x, the low one first (01, Saved image)
abbrev pub bytes_of : ℕ → ℕ → List ℕ
bytes_of zero x = []
bytes_of (suc w) x = x % 256 ∷ bytes_of w (x / 256)

-- the byte of x at place k (01, The four widths)
abbrev pub byte_of : ℕ → ℕ → ℕ
byte_of x k = x / 256 ^ k % 256

-- x with its byte at place k replaced by v (01, The four widths)
abbrev pub with_byte : ℕ → ℕ → ℕ → ℕ
with_byte x k v = x / 256 ^ (k + 1) * 256 ^ (k + 1) + v * 256 ^ k + x % 256 ^ k

-- the n bytes of l from place a on (01, Saved image)
abbrev pub part : ℕ → ℕ → List ℕ → List ℕ
part a n l = take n (drop a l)

-- every element is a byte
abbrev pub Bytes : List ℕ → Type 0
Bytes l = (i : ℕ) → get_or l i 0 < 256

-- a thing of two bytes: the first, the second, and the thing that two bytes spell
pub record Twos (A : Type 0) : Type 0 where
  pub low : A → ℕ
  pub high : A → ℕ
  pub made : ℕ → ℕ → A

-- such things written one after another, and the first n that bytes spell
abbrev pub written : {A : Type 0} → Twos A → List A → List ℕ
written t [] = []
written t (x ∷ xs) = t.low x ∷ t.high x ∷ written t xs

abbrev pub spelled : {A : Type 0} → Twos A → ℕ → List ℕ → List A
spelled t zero l = []
spelled t (suc n) [] = []
spelled t (suc n) (a ∷ []) = []
spelled t (suc n) (a ∷ b ∷ l) = t.made a b ∷ spelled t n l

-- two lists are the same
abbrev pub same : List ℕ → List ℕ → Bool
same [] [] = true
same [] (y ∷ ys) = false
same (x ∷ xs) [] = false
same (x ∷ xs) (y ∷ ys) = eqb x y && same xs ys
