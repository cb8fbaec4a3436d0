-- Calls one after another, each given what the one before it left: what holds of whatever calls and whatever is handed on.
use Rattle.basics.proofs.Prelude.{◌≡◌, refl, ap, ◌∙◌, List, [], ◌∷◌, ◌++◌, map, Each}
use Rattle.histories.specs.Chains.{ChainOn, last_left, made_from}

-- ---- in two parts

module _ {S X : Type 0} (given left : X → S) (May : X → Type 0) where
  pub chain_split : (s : S) (xs ys : List X) → ChainOn given left May s (xs ++ ys) → ChainOn given left May s xs × ChainOn given left May (last_left left s xs) ys
  chain_split s [] ys c = (tt, c)
  chain_split s (x ∷ xs) ys c = let r = chain_split (left x) xs ys c.2 in ((c.0, c.1, r.0), r.1)

  -- a part of what is handed on is handed on too, and what may stand there may be asked for less
  pub chain_part : {T : Type 0} (part : S → T) {Weaker : X → Type 0} → ((x : X) → May x → Weaker x) → (s : S) (xs : List X) → ChainOn given left May s xs
      → ChainOn (λ x. part (given x)) (λ x. part (left x)) Weaker (part s) xs
  chain_part part weaker s [] c = tt
  chain_part part weaker s (x ∷ xs) c = (ap part c.0, weaker x c.1, chain_part part weaker (left x) xs c.2)

module _ {S X : Type 0} (left : X → S) where
  pub last_append : (s : S) (xs ys : List X) → last_left left s (xs ++ ys) ≡ last_left left (last_left left s xs) ys
  last_append s [] ys = refl
  last_append s (x ∷ xs) ys = last_append (left x) xs ys

  pub last_part : {T : Type 0} (part : S → T) (s : S) (xs : List X) → part (last_left left s xs) ≡ last_left (λ x. part (left x)) (part s) xs
  last_part part s [] = refl
  last_part part s (x ∷ xs) = last_part part (left x) xs

-- ---- calls are handed on exactly if they are made one after another

module _ {S X Q : Type 0} (left : X → S) (May : X → Type 0) (make : S → Q → X) where
  pub each_made : {Fit : Q → Type 0} → ((s : S) (q : Q) → Fit q → May (make s q)) → (s : S) (qs : List Q) → Each Fit qs → Each May (made_from make left s qs)
  each_made fits s [] f = tt
  each_made fits s (q ∷ qs) f = (fits s q f.0, each_made fits (left (make s q)) qs f.1)

  module _ (given : X → S) where
    pub made_chained : ((s : S) (q : Q) → given (make s q) ≡ s) → (s : S) (qs : List Q) → Each May (made_from make left s qs) → ChainOn given left May s (made_from make left s qs)
    made_chained gives s [] m = tt
    made_chained gives s (q ∷ qs) m = (gives s q, m.0, made_chained gives (left (make s q)) qs m.1)

    pub chained_made : (asked : X → Q) → ((s : S) (x : X) → given x ≡ s → x ≡ make s (asked x)) → (s : S) (xs : List X) → ChainOn given left May s xs
        → (xs ≡ made_from make left s (map asked xs)) × Each May xs
    chained_made asked is s [] c = (refl, tt)
    chained_made asked is s (x ∷ xs) c =
        let same = is s x c.0 in
        let r = chained_made asked is (left x) xs c.2 in
        ((λ t. same t ∷ r.0 t) ∙ ap (λ y. make s (asked x) ∷ made_from make left (left y) (map asked xs)) same, (c.1, r.1))
