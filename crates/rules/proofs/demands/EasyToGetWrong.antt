-- Two of 01's points under 'Easy to get wrong', for every state: what a MASK write announces, and a cleared input. (The others are rows of the marked dozen, in crate sessions.)
use Rattle.basics.proofs.Prelude.{◌≡◌, refl, ap, ◌∙◌, Bool, true, false, not, ◌&&◌, and-false, List, [], ◌∷◌, ◌++◌, map, ℕ, zero, suc, ◌<◌, get_or, on, inputs, without, on_without}
use Rattle.rules.specs.Lines.{Lines, Made, event, is_pending, with_mask, serve, pending_in, served_in, newly_unmasked, newly_masked, cleared, masked}
use Rattle.rules.proofs.laws.Computed as computed

abbrev assert_flags : List Made → List Bool
assert_flags ms = map (λ (m : Made). m.asserted) ms

deasserts_only : (vs : List ℕ) (ns : List ℕ) (i : ℕ) → get_or (assert_flags (map (event vs true false) ns)) i false ≡ false
deasserts_only vs [] i = refl
deasserts_only vs (n ∷ ns) zero = refl
deasserts_only vs (n ∷ ns) (suc i) = deasserts_only vs ns i

-- one event at most, and then deasserts
first_only : (vs : List ℕ) (l : Lines) (ns ms : List ℕ) (i : ℕ) → get_or (assert_flags ((serve vs true l ns).made ++ map (event vs true false) ms)) (suc i) false ≡ false
first_only vs l [] ms i = deasserts_only vs ms (suc i)
first_only vs l (n ∷ ns) ms i = deasserts_only vs ms i

-- of the events of a MASK write none but the first is an assert: at most one input is announced, and before every deassert
pub no_later_assert : (vs : List ℕ) (l : Lines) (new i : ℕ) → get_or (assert_flags (masked vs l new).made) (suc i) false ≡ false
unfolding masked
no_later_assert vs l new i =
    let begun = with_mask l new in
    let waiting = inputs (pending_in (newly_unmasked l.mask new) begun) in
    first_only vs begun waiting (inputs (served_in (newly_masked l.mask new) (serve vs true begun waiting).after)) i

-- a cleared input waits no more, whatever its line does: only a new raise can assert it again
pub cleared_needs_raise : (vs : List ℕ) (l : Lines) (b n : ℕ) → n < 64 → on b n ≡ true → is_pending (cleared vs l b).after n ≡ false
unfolding cleared
cleared_needs_raise vs l b n h e =
    ap (λ (x : Bool). x && not (on l.mask n) && not (on (without l.isr (on b)) n))
    (on_without l.irr (on b) n h ∙ ap (λ (x : Bool). on l.irr n && not x) e ∙ and-false (on l.irr n))
