-- The first bad byte, found by looking at one after another.
use Rattle.basics.proofs.Prelude.{◌≡◌, refl, sym, ap, ◌∙◌, Bool, false, and-false, List, [], ◌∷◌, ℕ, zero, suc, ◌+◌, ◌-◌, ◌*◌, ◌<◌, ◌≤◌, arith, ltb, length, drop, get_or, get_or-drop, get_or-take, number_of, part, ltb-true, ltb-false, lt-leb, test}
use Rattle.images.specs.{Form.pairs, Image.unused_rule}
use Rattle.image.specs.bad_bytes.First.{ZerosTo}

-- none of the first j bytes is bad
abbrev pub GoodUpTo : (ℕ → ℕ → Bool) → List ℕ → ℕ → Type 0
GoodUpTo bad l j = (m : ℕ) → m < j → bad m (get_or l m 0) ≡ false

-- a number that is 0 has no byte that is not
zero_bytes : (l : List ℕ) → number_of l ≡ 0 → (j : ℕ) → get_or l j 0 ≡ 0
zero_bytes [] e j = refl
zero_bytes (b ∷ l) e zero = omega (arith, e)
zero_bytes (b ∷ l) e (suc j) = zero_bytes l (omega (arith, e)) j

module _ (l : List ℕ) (a : ℕ) where
  -- a word further
  pub word_on : (i : ℕ) → i + 8 ≤ length l → ZerosTo l a i → number_of (part i 8 l) ≡ 0 → ZerosTo l a (i + 8)
  word_on i h z e = record {
    low = omega (arith, z.low);
    high = h;
    zero = λ m p q. test (ltb m i) (λ t. z.zero m p (ltb-true m i t))
        (λ t. let k = m - i in
        let here : i + k ≡ m = omega (arith, ltb-false m i t) in
        let low : k < 8 = omega (arith, ltb-false m i t, q) in
        ap (λ n. get_or l n 0) (sym here) ∙ sym (get_or-drop i l k 0) ∙ sym (get_or-take 8 (drop i l) k 0 low) ∙ zero_bytes (part i 8 l) e k);
  }

  -- behind the waiting pairs none of them is bad
  pub zeros_good : (n i : ℕ) → a ≡ 2 * n → ZerosTo l a i → GoodUpTo (unused_rule pairs n).bad l i
  zeros_good n i e z m h =
      test (ltb m (2 * n)) (λ t. rw (lt-leb (2 * n) m (ltb-true m (2 * n) t)))
      (λ t. let b = z.zero m (omega (arith, e, ltb-false m (2 * n) t)) h in rw (b, and-false))
