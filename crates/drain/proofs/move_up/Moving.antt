-- Bytes that move to the front of a list, and things of two bytes that are left.
use Rattle.basics.proofs.Prelude.{◌≡◌, refl, sym, ap, ◌∙◌, List, [], ◌∷◌, ◌++◌, append_assoc, ℕ, zero, suc, ◌+◌, ◌-◌, ◌*◌, ◌≤◌, arith, length, take, drop, get_or, replicate, length-drop, drop-append-le, get_or-drop, put_mid, part, Twos, written}
use Rattle.rules.specs.Ring.{capacity}
use Rattle.images.{specs.Image.sixteen, proofs.laws.Twos.length_written, proofs.laws.Twos.sixteen_unused}
use Rattle.drain.proofs.move_up.Rooms.{zeros, zeros_append, in_the_room}
use Rattle.drain.specs.move_up.Left.{Unused, shifted, Leaves}

-- ---- things of two bytes

all_zero : (l : List ℕ) → ((i : ℕ) → get_or l i 0 ≡ 0) → l ≡ zeros (length l)
all_zero [] z = refl
all_zero (x ∷ l) z = (λ j. z 0 j ∷ all_zero l (λ i. z (suc i)) j)

module _ (before : List ℕ) (m : ℕ) (u : Unused before m) where
  abbrev rest : List ℕ
  rest = drop (2 * m) before

  rest_zero : rest ≡ zeros (length rest)
  rest_zero = all_zero rest (λ i. get_or-drop (2 * m) before i 0 ∙ u (2 * m + i) (omega arith))

-- some move, or none is left
pub some_leave : (before after mid : List ℕ) (m n : ℕ) → n ≤ m → m ≤ 16 → length before ≡ 32 → mid ≡ before → after ≡ part (2 * n) (2 * n + 32 - 2 * n) (put_mid 0 (32 - 0) (zeros 64) mid) → Leaves before after m n
some_leave before after mid m n h k long e f u =
    let whole : 2 * n + 32 - 2 * n ≡ 32 = omega arith in
    f ∙ (λ t. take (whole t) (drop (2 * n) (e t ++ zeros 32))) ∙ in_the_room before (2 * n) long (omega arith)

pub none_leave : (before after : List ℕ) (m n : ℕ) → m ≡ n → m ≤ 16 → length before ≡ 32 → after ≡ replicate (length before) 0 → Leaves before after m n
none_leave before after m n same k long f u =
    let all : length before ≡ length (rest before m u) + 2 * m = omega (arith, length-drop (2 * m) before) in
    f ∙ ap zeros all ∙ sym (zeros_append (length (rest before m u)) (2 * m)) ∙ ap (λ l. l ++ zeros (2 * m)) (sym (rest_zero before m u)) ∙ ap (shifted before) same

-- sixteen places, of whose things the first n go
module _ {A : Type 0} (t : Twos A) where
  drop_written : (n : ℕ) (xs : List A) → drop (2 * n) (written t xs) ≡ written t (drop n xs)
  drop_written zero xs = refl
  drop_written (suc n) [] = let s : 2 * suc n ≡ suc (suc (2 * n)) = omega arith in ap (λ k. drop k (written t [])) s
  drop_written (suc n) (x ∷ xs) = let s : 2 * suc n ≡ suc (suc (2 * n)) = omega arith in ap (λ k. drop k (written t (x ∷ xs))) s ∙ drop_written n xs

  drop_sixteen : (n k : ℕ) (xs : List A) → n ≤ length xs → drop (2 * n) (written t xs ++ zeros k) ++ zeros (2 * n) ≡ written t (drop n xs) ++ zeros (k + 2 * n)
  drop_sixteen n k xs h =
      ap (λ l. l ++ zeros (2 * n)) (drop-append-le (2 * n) (written t xs) (zeros k) (omega (arith, length_written t xs)) ∙ ap (λ l. l ++ zeros k) (drop_written n xs))
      ∙ append_assoc (written t (drop n xs)) (zeros k) (zeros (2 * n)) ∙ ap (λ l. written t (drop n xs) ++ l) (zeros_append k (2 * n))

  module _ (n m : ℕ) (xs : List A) (e : length xs ≡ m) (h : n ≤ m) (few : m ≤ capacity) where
    pub sixteen_spare : Unused (sixteen t xs) m
    sixteen_spare i k = sixteen_unused t xs i (omega arith)

    pub sixteen_shifted : shifted (sixteen t xs) n ≡ sixteen t (drop n xs)
    sixteen_shifted =
        let count : 2 * capacity - 2 * length xs + 2 * n ≡ 2 * capacity - 2 * length (drop n xs) = omega (arith, length-drop n xs) in
        drop_sixteen n (2 * capacity - 2 * length xs) xs (omega arith) ∙ ap (λ k. written t (drop n xs) ++ zeros k) count
