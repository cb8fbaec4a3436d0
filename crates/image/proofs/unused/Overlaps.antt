-- What is behind some of sixteen things of two bytes, by words that may overlap.
use Rattle.basics.proofs.Prelude.{◌≡◌, refl, sym, ap, ◌∙◌, Bool, true, false, false≢true, ◌&&◌, and-true, and_assoc, and-eq-true_iff, List, ℕ, ◌+◌, ◌-◌, ◌*◌, ◌/◌, ◌^◌, ◌≤◌, min, arith, bit_or, eqb, length, drop, drop_of_length-le, get_or, get_or-drop, Bytes}
use Rattle.images.specs.Image.{register_at}
use Rattle.image.specs.unused.Events.{all_zero}
use Rattle.image.proofs.unused.Pairs.{four, zero_word, all_zero_zeros, zeros_all_zero}

pub both : (s t : Bool) → (s ≡ true → t ≡ true) → (t ≡ true → s ≡ true) → s ≡ t
both true t f g = sym (f refl)
both false true f g = absurd (false≢true (g refl))
both false false f g = refl

module _ (l : List ℕ) (b : Bytes l) where
  -- what is zero from a place on is zero from a later one on
  later : (m n : ℕ) → m ≤ n → all_zero (drop m l) ≡ true → all_zero (drop n l) ≡ true
  later m n h e =
      zeros_all_zero (drop n l)
      (λ i. let same : n + i ≡ m + (n - m + i) = omega arith in
      get_or-drop n l i 0 ∙ ap (λ k. get_or l k 0) same ∙ sym (get_or-drop m l (n - m + i) 0) ∙ all_zero_zeros (drop m l) e (n - m + i))

  whole_word : (m : ℕ) → m + 8 ≤ length l → (eqb (register_at m l) 0 && all_zero (drop (m + 8) l)) ≡ all_zero (drop m l)
  whole_word m fits =
      let whole : register_at m l ≡ register_at m l / 2 ^ (8 * 0) = omega arith in
      let start : m + 0 ≡ m = omega arith in
      ap (λ x. eqb x 0 && all_zero (drop (m + 8) l)) whole ∙ zero_word m 0 l b fits (omega arith) ∙ ap (λ k. all_zero (drop k l)) start

  -- a word, and all from a place within it, or from its end, on
  word_then : (m n : ℕ) → m ≤ n → n ≤ m + 8 → m + 8 ≤ length l → (eqb (register_at m l) 0 && all_zero (drop n l)) ≡ all_zero (drop m l)
  word_then m n h k fits =
      both (eqb (register_at m l) 0 && all_zero (drop n l)) (all_zero (drop m l))
      (λ t. let r = (and-eq-true_iff (eqb (register_at m l) 0) (all_zero (drop n l))).0 t in sym (whole_word m fits) ∙ (λ i. r.0 i && later n (m + 8) k r.1 i))
      (λ z. let r = (and-eq-true_iff (eqb (register_at m l) 0) (all_zero (drop (m + 8) l))).0 (whole_word m fits ∙ z) in λ i. r.0 i && later m n h z i)

  module _ (long : length l ≡ 32) where
    nothing_behind : all_zero (drop 32 l) ≡ true
    nothing_behind = let all : length l ≤ 32 = omega (arith, long) in ap all_zero (drop_of_length-le l all)

    last_word : eqb (register_at 24 l) 0 ≡ all_zero (drop 24 l)
    last_word = sym (and-true (eqb (register_at 24 l) 0)) ∙ ap (λ t. eqb (register_at 24 l) 0 && t) (sym nothing_behind) ∙ whole_word 24 (omega (arith, long))

    -- four words, of which the last begin no later than at 24
    pub by_words : (from : ℕ) {p q r s : ℕ} → from ≤ 24 → p ≡ register_at from l → q ≡ register_at (min (from + 8) 24) l → r ≡ register_at (min (from + 16) 24) l → s ≡ register_at 24 l
        → eqb (bit_or (bit_or (bit_or p q) r) s) 0 ≡ all_zero (drop from l)
    by_words from {p} {q} {r} {s} h e f g k =
        let second = min (from + 8) 24 in
        let third = min (from + 16) 24 in
        four p q r s ∙ and_assoc (eqb p 0 && eqb q 0) (eqb r 0) (eqb s 0) ∙ and_assoc (eqb p 0) (eqb q 0) (eqb r 0 && eqb s 0)
        ∙ (λ i. eqb (e i) 0 && (eqb (f i) 0 && (eqb (g i) 0 && (ap (λ x. eqb x 0) k ∙ last_word) i)))
        ∙ ap (λ t. eqb (register_at from l) 0 && (eqb (register_at second l) 0 && t)) (word_then third 24 (omega arith) (omega arith) (omega (arith, long)))
        ∙ ap (λ t. eqb (register_at from l) 0 && t) (word_then second third (omega arith) (omega arith) (omega (arith, long)))
        ∙ word_then from second (omega arith) (omega arith) (omega (arith, long))

    -- fewer bytes than a word
    pub by_shift : (n : ℕ) {x : ℕ} → 12 ≤ n → n ≤ 16 → x ≡ register_at 24 l → eqb (x / 2 ^ (16 * (n - 12))) 0 ≡ all_zero (drop (2 * n) l)
    by_shift n {x} few h e =
        let bits : 16 * (n - 12) ≡ 8 * (2 * (n - 12)) = omega arith in
        let begin : 24 + 2 * (n - 12) ≡ 2 * n = omega arith in
        let top = register_at 24 l / 2 ^ (8 * (2 * (n - 12))) in
        (λ i. eqb (e i / 2 ^ bits i) 0) ∙ sym (and-true (eqb top 0)) ∙ ap (λ t. eqb top 0 && t) (sym nothing_behind)
        ∙ zero_word 24 (2 * (n - 12)) l b (omega (arith, long)) (omega arith) ∙ ap (λ m. all_zero (drop m l)) begin
