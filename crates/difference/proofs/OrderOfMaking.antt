-- 02, C-19: 'Each event made gets a 16-bit number in the order of making .. after 65,535 comes 0'. p and q are the places of two events in that order, counted on without
-- end from any event whose number is 0. While they are fewer than 32,768 apart, the difference of their numbers is that of their places; so its sign tells which was made first.
use Rattle.std.proofs.Common.{◌≡◌, ℕ, ◌+◌, ◌-◌, ◌/◌, ◌<◌, sym, ap, ◌∙◌, subst, arith}
use lib.{IntN.ℤ, IntN.pos, IntN.neg_ℤ, IntN.◌-ℤ◌, Signed.◌<ℤ◌}
use Rattle.difference.specs.Difference.{numbered, difference_of}
use Rattle.difference.proofs.Integers.{over, under, same, minus, negated, to_≤ℤ, of_<ℤ, to_<ℤ}
use Rattle.difference.proofs.OneDifference.{congruent_by, only_difference}

module _ (p q : ℕ) where
  pub of_places : over (pos p -ℤ pos q) + q ≡ under (pos p -ℤ pos q) + p
  of_places = let h = minus (pos p) (pos q) in omega arith

  -- the difference of the numbers is that of the places
  pub as_places : p < q + 32768 → q < p + 32768 → difference_of (numbered p) (numbered q) ≡ pos p -ℤ pos q
  as_places l m =
      sym
      (only_difference (numbered p) (numbered q) (omega arith) (pos p -ℤ pos q)
      (record {
        least = to_≤ℤ _ _ (omega (arith, of_places));
        most = to_≤ℤ _ _ (omega (arith, of_places));
        congruent = congruent_by (pos p -ℤ pos q) (numbered p) (numbered q) (p / 65536) (q / 65536) (omega (arith, of_places));
      }))

  -- the event at p was made after that at q: positive, and how many were made from the one to the other
  pub made_later : q < p → p - q < 32768 → (difference_of (numbered p) (numbered q) ≡ pos (p - q)) × (pos 0 <ℤ difference_of (numbered p) (numbered q))
  made_later l m =
      let e = as_places (omega arith) (omega arith) ∙ same (pos p -ℤ pos q) (pos (p - q)) (omega (arith, of_places)) in
      (e, subst (λ (d : ℤ). pos 0 <ℤ d) (sym e) (to_<ℤ (pos 0) (pos (p - q)) (omega arith)))

  -- it was made before: negative
  pub made_earlier : p < q → q - p < 32768 → (difference_of (numbered p) (numbered q) ≡ neg_ℤ (pos (q - p))) × (difference_of (numbered p) (numbered q) <ℤ pos 0)
  made_earlier l m =
      let n = negated (pos (q - p)) in
      let e = as_places (omega arith) (omega arith) ∙ same (pos p -ℤ pos q) (neg_ℤ (pos (q - p))) (omega (arith, of_places, n.0, n.1)) in
      (e, subst (λ (d : ℤ). d <ℤ pos 0) (sym e) (to_<ℤ (neg_ℤ (pos (q - p))) (pos 0) (omega (arith, n.0, n.1))))

  -- and the other way round: from the sign alone one knows which was made first
  pub sign_tells : p < q + 32768 → q < p + 32768
      → (pos 0 <ℤ difference_of (numbered p) (numbered q) → q < p) × (difference_of (numbered p) (numbered q) <ℤ pos 0 → p < q)
      × (difference_of (numbered p) (numbered q) ≡ pos 0 → p ≡ q)
  sign_tells l m =
      let e = as_places l m in (
        λ h. let g = of_<ℤ (subst (λ (d : ℤ). pos 0 <ℤ d) e h) in omega (arith, of_places),
        λ h. let g = of_<ℤ (subst (λ (d : ℤ). d <ℤ pos 0) e h) in omega (arith, of_places),
        λ h. let g : pos p -ℤ pos q ≡ pos 0 = sym e ∙ h in omega (arith, of_places, ap over g, ap under g),
      )

-- one event: 0
pub made_once : (p : ℕ) → difference_of (numbered p) (numbered p) ≡ pos 0
made_once p = as_places p p (omega arith) (omega arith) ∙ same (pos p -ℤ pos p) (pos 0) (omega (arith, of_places p p))
