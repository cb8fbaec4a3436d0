-- Calls one after another, each given what the one before it left: of whatever calls, and whatever is handed on.
use Rattle.std.specs.Prelude.{List, [], ◌∷◌, ◌≡◌}

-- each call is given what the one before it left, the first one s, and `May` holds of each
abbrev pub ChainOn : {S X : Type 0} → (given left : X → S) (May : X → Type 0) → S → List X → Type 0
ChainOn given left May s [] = Unit {0}
ChainOn given left May s (x ∷ xs) = (given x ≡ s) × May x × ChainOn given left May (left x) xs

-- what is left at last
abbrev pub last_left : {S X : Type 0} → (left : X → S) → S → List X → S
last_left left s [] = s
last_left left s (x ∷ xs) = last_left left (left x) xs

-- the calls that are made of what is asked, each on what the one before it left
abbrev pub made_from : {S X Q : Type 0} → (make : S → Q → X) (left : X → S) → S → List Q → List X
made_from make left s [] = []
made_from make left s (q ∷ qs) = make s q ∷ made_from make left (left (make s q)) qs
