-- 01, How tight the promises are: no second outcome keeps the promise of a tally's calls.
use Rattle.basics.proofs.Prelude.{◌≡◌, sym, ap, ◌∙◌, List, ℕ}
use Rattle.passes.specs.tallies.Tallying.{TallyLeft, tally_leaves}

-- of two runs whose contract holds, of whichever of the three calls, the numbers handed back, the bytes and the answer areas are the same
pub one_tally : {x : TallyLeft} {r s : ℕ} {t u a b : List ℕ} → tally_leaves r t a ≡ x → tally_leaves s u b ≡ x → (r ≡ s) × (t ≡ u) × (a ≡ b)
one_tally p q =
    let same = p ∙ sym q in
    (ap (λ (o : TallyLeft). o.number) same, ap (λ (o : TallyLeft). o.bytes) same, ap (λ (o : TallyLeft). o.answer) same)
