-- Words written one after another.
use Rattle.basics.proofs.Prelude.{◌≡◌, sym, ◌∙◌, subst, List, ◌++◌, ℕ, ◌+◌, take, drop-drop, bytes_of, length_bytes_of, Filled}
use Rattle.basics.proofs.laws.Parts.{put}
use Rattle.bits.specs.bytes.Put.{with_word}

-- a word is put behind what is written
pub word_put : {l l₀ front : List ℕ} {a : ℕ} (x : ℕ) (m : List ℕ) → Filled l l₀ front a → m ≡ with_word a x l → Filled m l₀ (front ++ bytes_of 8 x) (a + 8)
word_put {l} {l₀} {front} {a} x m f e =
    subst (λ n. Filled n l₀ (front ++ bytes_of 8 x) (a + 8)) ((λ i. take a l ++ (bytes_of 8 x ++ drop-drop 8 a l i)) ∙ sym e) (put f 8 (bytes_of 8 x) (length_bytes_of 8 x))
