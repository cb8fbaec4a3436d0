-- 02, C-18: IRR is silent to Byte and Word, and no other register is. A byte of a register lies in the area where only route and vector bytes answer a Byte exactly if the register is IRR.
use Rattle.basics.proofs.Prelude.{◌≡◌, refl, sym, ap, ◌∙◌, Bool, true, false, not, ◌&&◌, and-eq-true_iff, ℕ, ◌+◌, ◌-◌, ◌%◌, ◌<◌, arith, eqb, eqb-true, eqb-false, test}
use Rattle.rules.specs.Map as map
use Rattle.rules.specs.Map.{Register, Cell, in_byte_area, cell_at}
use Rattle.histories.specs.Premises.{is_irr}
use Rattle.histories.proofs.laws.Reach.{cell_has}

abbrev alike : Bool → Bool → Bool
alike true y = y
alike false y = not y

alike_is : (x y : Bool) → alike x y ≡ true → x ≡ y
alike_is true y e = sym e
alike_is false true e = e
alike_is false false e = refl

-- of the four bytes of the Dword at a
abbrev byte_alike : ℕ → Cell → ℕ → Bool
byte_alike a (map.half_of r h) j = alike (in_byte_area (a + j)) (is_irr r)
byte_alike a map.bytes j = true
byte_alike a map.nothing j = true

abbrev four_alike : ℕ → Cell → Bool
four_alike a k = byte_alike a k 0 && (byte_alike a k 1 && (byte_alike a k 2 && byte_alike a k 3))

four_in : (g : ℕ → Bool) → (g 0 && (g 1 && (g 2 && g 3))) ≡ true → (j : ℕ) → j < 4 → g j ≡ true
four_in g e j l =
    let one = (and-eq-true_iff (g 0) (g 1 && (g 2 && g 3))).0 e in
    let two = (and-eq-true_iff (g 1) (g 2 && g 3)).0 one.1 in
    let three = (and-eq-true_iff (g 2) (g 3)).0 two.1 in
    test (eqb j 0) (λ t. ap g (eqb-true j 0 t) ∙ one.0)
    (λ t. test (eqb j 1) (λ u. ap g (eqb-true j 1 u) ∙ two.0)
    (λ u. test (eqb j 2) (λ v. ap g (eqb-true j 2 v) ∙ three.0)
    (λ v. let last : j ≡ 3 = omega (arith, l, eqb-false j 0 t, eqb-false j 1 u, eqb-false j 2 v) in ap g last ∙ three.1)))

-- So of every offset: the register whose half stands there is silent to a Byte exactly if it is IRR.
pub silent_exactly : (o : ℕ) (r : Register) (h : Bool) → cell_at (o - o % 4) ≡ map.half_of r h → in_byte_area o ≡ is_irr r
silent_exactly o r h e =
    let a = o - o % 4 in
    let all = cell_has four_alike refl a refl refl in
    let here = four_in (byte_alike a (map.half_of r h)) (ap (four_alike a) (sym e) ∙ all) (o % 4) (omega arith) in
    let whole : a + o % 4 ≡ o = omega arith in
    ap in_byte_area (sym whole) ∙ alike_is (in_byte_area (a + o % 4)) (is_irr r) here
