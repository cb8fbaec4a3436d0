-- Records copied, two words each.
use Rattle.basics.proofs.Prelude.{◌≡◌, sym, ap, subst, ◌∙◌, List, ◌++◌, append-nil, ℕ, ◌+◌, ◌*◌, ◌≤◌, arith, length, take, drop_of_length-le, take-add, take_all, Bytes, bytes_of, part_number, Filled}
use Rattle.images.specs.Image.{register_at}
use Rattle.traces.specs.Trace.{record_length}
use Rattle.bits.{specs.bytes.Put.with_word, proofs.bytes.Putting.word_put}

module _ (src dst : List ℕ) (c : Bytes src) where
  -- one word more
  word_next : {a : ℕ} → a + 8 ≤ length src → {l m : List ℕ} → Filled l dst (take a src) a → {x : ℕ} → x ≡ register_at a src → m ≡ with_word a x l → Filled m dst (take (a + 8) src) (a + 8)
  word_next {a} h {l} {m} f {x} e g =
      subst (λ k. Filled m dst k (a + 8)) (ap (λ k. take a src ++ k) (ap (bytes_of 8) e ∙ part_number src a 8 c h) ∙ sym (take-add a 8 src)) (word_put x m f g)

  -- one record more
  pub record_next : (k : ℕ) → record_length * k + record_length ≤ length src → {l l₂ m : List ℕ} → Filled l dst (take (record_length * k) src) (record_length * k)
      → {x y : ℕ} → x ≡ register_at (record_length * k) src → l₂ ≡ with_word (record_length * k) x l → y ≡ register_at (record_length * k + 8) src → m ≡ with_word (record_length * k + 8) y l₂
      → Filled m dst (take (record_length * (k + 1)) src) (record_length * (k + 1))
  record_next k h {l} {l₂} {m} f p q r s =
      let z : record_length * k + 8 + 8 ≡ record_length * (k + 1) = omega arith in
      subst (λ n. Filled m dst (take n src) n) z (word_next (omega arith) (word_next (omega arith) f p q) r s)

  pub copied_all : {a : ℕ} {l : List ℕ} → Filled l dst (take a src) a → length dst ≡ a → length src ≡ a → l ≡ src
  copied_all {a} {l} f p q =
      let short : length dst ≤ a = omega (arith, p) in
      f.is ∙ (λ t. take_all a src (omega (arith, q)) t ++ drop_of_length-le dst short t) ∙ append-nil src
