-- Two lists of bytes woven into one.
use Rattle.std.specs.Prelude.{List, [], ◌∷◌, ℕ}

-- two bytes of one list and then two of another, as long as both have them
abbrev pub woven : List ℕ → List ℕ → List ℕ
woven [] ns = []
woven (v ∷ []) ns = []
woven (v ∷ f ∷ l) [] = []
woven (v ∷ f ∷ l) (a ∷ []) = []
woven (v ∷ f ∷ l) (a ∷ b ∷ m) = v ∷ f ∷ a ∷ b ∷ woven l m
