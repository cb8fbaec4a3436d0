-- Calls that are handed on, from their other side: they are what is made one after another on an image, with no reset among it. Refused ones may stand anywhere.
use Rattle.basics.proofs.Prelude.{◌≡◌, refl, ap, ◌∙◌, List, [], ◌∷◌, map, ℕ}
use Rattle.histories.specs.exported.{Exported.Exported, Exported.left_by, Exported.HandedOn, Alike.Asking, Alike.asked_of, Alike.made_on, Alike.NoResets, Alike.asking_of}

pub made_handed_on : (i : List ℕ) (qs : List Asking) → NoResets qs → HandedOn i (made_on i qs)
unfolding made_on HandedOn NoResets
made_handed_on i [] n = tt
made_handed_on i (q ∷ qs) n = (refl, n.0, made_handed_on (left_by (asked_of i q)).image qs n.1)

pub handed_on_made : (i : List ℕ) (xs : List Exported) → HandedOn i xs → xs ≡ made_on i (map asking_of xs)
unfolding made_on HandedOn
handed_on_made i [] h = refl
handed_on_made i (x ∷ xs) h =
    let same : x ≡ asked_of i (asking_of x) = (λ t. record { given = h.0 t; asked = x.asked; answer = x.answer }) in
    (λ t. same t ∷ handed_on_made (left_by x).image xs h.2 t) ∙ ap (λ (y : Exported). asked_of i (asking_of x) ∷ made_on (left_by y).image (map asking_of xs)) same
