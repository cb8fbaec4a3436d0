-- A width that is known is the number that was asked, and an access inside has all its bytes below 2 ^ 64 - 1.
use Rattle.basics.proofs.Prelude.{◌≡◌, refl, sym, ap, subst, ◌∙◌, Bool, true, false, cond, ℕ, ◌+◌, ◌-◌, ◌^◌, ◌≤◌, arith, eqb, eqb-true}
use Rattle.std.specs.Prelude.{Option, Some}
use Rattle.rules.specs.Access.{Width, byte, word, dword, qword}
use Rattle.calls.specs.{Calls.pass, Calls.refuse, Calls.no_width, Calls.width_test}
use Rattle.device.specs.{map.Views.bytes_in, window.Tests.Ends}

pub width_known : (n : ℕ) (w : Width) → width_test n ≡ pass w → bytes_in w ≡ n
width_known n w e = go (eqb n 1) (eqb n 2) (eqb n 4) (eqb n 8) refl refl refl refl e
  where
    go : (p q r s : Bool) → eqb n 1 ≡ p → eqb n 2 ≡ q → eqb n 4 ≡ r → eqb n 8 ≡ s
        → cond p (pass byte) (cond q (pass word) (cond r (pass dword) (cond s (pass qword) (refuse no_width)))) ≡ pass w → bytes_in w ≡ n
    go true q r s t u v x f = (let g : byte ≡ w = cc in ap bytes_in (sym g)) ∙ sym (eqb-true n 1 t)
    go false true r s t u v x f = (let g : word ≡ w = cc in ap bytes_in (sym g)) ∙ sym (eqb-true n 2 u)
    go false false true s t u v x f = (let g : dword ≡ w = cc in ap bytes_in (sym g)) ∙ sym (eqb-true n 4 v)
    go false false false true t u v x f = (let g : qword ≡ w = cc in ap bytes_in (sym g)) ∙ sym (eqb-true n 8 x)
    go false false false false t u v x f = absurd (let z : ◌≡◌ {A = ℕ} 0 1 = cc in omega arith)

-- an access inside has all its bytes below 2 ^ 64 - 1
pub reach : (width : ℕ) {o : ℕ} {w : Width} (l : Option ℕ) → Ends l width → l ≡ Some o → width_test width ≡ pass w → o + bytes_in w ≤ 2 ^ 64 - 1
reach width {o} {w} l e at known = let h : o + width ≤ 2 ^ 64 - 1 = subst (λ k. Ends k width) at e in omega (arith, width_known width w known)
