-- What the code returns, of how far later is ahead: a number below 32,768 as it is, any other less 65,536.
use Rattle.std.proofs.Common.{◌≡◌, ℕ, ◌+◌, ◌<◌, ◌≤◌, ℤ, pos, ◌+ℤ◌, sym, ap, ◌∙◌, subst, arith, ltb-false, ltb-true}
use mir.{Syntax.w16, Syntax.w32, Val.SFits, Val.to_z, Val.of_z, ValLaws.to_z_pos, ValLaws.to_z-of_z}
use Rattle.difference.specs.Difference.{ahead, is_ahead, difference_of}
use Rattle.difference.proofs.Integers.{over, under, same, choice, sum, minus, mag_below}

-- what the first cast gives, of r, the number that the subtract gave
pub near : (later earlier r : ℕ) → r ≡ ahead later earlier → r < 32768 → to_z w16 r ≡ difference_of later earlier
near later earlier r is l =
    to_z_pos w16 r l ∙ choice (is_ahead later earlier) (λ z. pos r ≡ z) (λ e. same _ _ (omega arith)) (λ e. let h = ltb-false (ahead later earlier) _ e in absurd (omega arith))

-- what the second gives: y is added to r in 32 bits with a sign, and the sum cast to 16
module _ (r : ℕ) (y : ℤ) (l : r < 65536) (m : over y ≤ 65536) (n : under y ≤ 65536) where
  read : to_z w32 r +ℤ y ≡ pos r +ℤ y
  read = ap (λ (z : ℤ). z +ℤ y) (to_z_pos w32 r (omega arith))

  pub sum_fits : SFits w32 (to_z w32 r +ℤ y)
  sum_fits = let s = sum (pos r) y in subst (SFits w32) (sym read) (record { sfits = mag_below (pos r +ℤ y) _ (omega arith) (omega arith) })

  module _ (h : r + over y < under y + 32768) (k : under y ≤ r + over y + 32768) where
    pub cast_fits : SFits w16 (to_z w32 (of_z w32 (to_z w32 r +ℤ y)))
    cast_fits =
        let s = sum (pos r) y in
        subst (SFits w16) (sym (to_z-of_z w32 _ sum_fits ∙ read)) (record { sfits = mag_below (pos r +ℤ y) _ (omega arith) (omega arith) })

    -- where y is -65,536
    pub far : (later earlier : ℕ) → r ≡ ahead later earlier → 32768 ≤ r → over y + 65536 ≡ under y
        → to_z w16 (of_z w16 (to_z w32 (of_z w32 (to_z w32 r +ℤ y)))) ≡ difference_of later earlier
    far later earlier is behind whole =
        let s = sum (pos r) y in
        let t = minus (pos (ahead later earlier)) (pos 65536) in
        to_z-of_z w16 _ cast_fits ∙ to_z-of_z w32 _ sum_fits ∙ read
        ∙ choice (is_ahead later earlier) (λ z. pos r +ℤ y ≡ z) (λ e. let h = ltb-true (ahead later earlier) _ e in absurd (omega arith)) (λ e. same _ _ (omega arith))
