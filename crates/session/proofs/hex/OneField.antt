-- One field of a line, by its place: too short, with no space before it, or spelled by digits.
use Rattle.basics.proofs.Prelude.{◌≡◌, refl, ap, ◌∙◌, and-false, List, [], ◌∷◌, ℕ, ◌+◌, ◌<◌, arith, length, drop, get_or, length-drop, ne_eqb, lt-leb, next}
use Rattle.rules.specs.Device.{none}
use Rattle.sessions.specs.Session.{space}
use Rattle.session.specs.hex.Reads.{field_of}

module _ (line : List ℕ) (at n : ℕ) where
  pub field_short : length line < at + 1 + n → field_of n (drop at line) ≡ none
  field_short h = go (drop at line) (omega (arith, length-drop at line))
    where
      go : (l : List ℕ) → length l < 1 + n → field_of n l ≡ none
      go [] k = refl
      go (b ∷ l) k = rw (lt-leb n (length l) (omega arith), and-false)

  pub field_unmarked : at < length line → (get_or line at 0 ≡ space → ⊥) → field_of n (drop at line) ≡ none
  field_unmarked h k = ap (field_of n) (next line at 0 h) ∙ rw (ne_eqb (get_or line at 0) space k)
