-- `PchPicState::reset` is the rules' reset: the array whose number at each place is the place holds 0 to 63, in order.
use Rattle.basics.proofs.Prelude.{◌≡◌, refl, ap, ap₂, List, [], ◌∷◌, ℕ, zero, suc, ◌+◌, ◌<◌, arith, length, get_or}
use Rattle.rules.specs.Device.{up_from}
use Rattle.device.specs.state.View.{slots}
use Rattle.rules.specs.Device as device
use Rattle.device.proofs.state.PchPicState.reset.Goals as goal

is_up : (n k : ℕ) (l : List ℕ) → length l ≡ k → ((i : ℕ) → i < k → get_or l i 0 ≡ n + i) → l ≡ up_from n k
unfolding up_from
is_up n zero [] e f = refl
is_up n (suc k) (x ∷ l) e f =
    let h : x ≡ n = omega (arith, f 0 (omega arith)) in
    ap₂ (λ a m. a ∷ m) h (is_up (suc n) k l (omega arith) (λ i b. omega (arith, f (suc i) (omega arith))))
is_up n zero (x ∷ l) e f = absurd (omega arith)
is_up n (suc k) [] e f = absurd (omega arith)

abbrev with_vectors : List ℕ → device.Device
with_vectors vs = record { core = record { lines = (device.reset).core.lines; vectors = vs; stored = (device.reset).core.stored }; ring = (device.reset).ring }

pub returns : goal.returns
returns c = unfold slots in let a = c.from_fn.ensures.items in
    record {
      well = record { ring = record { head = omega arith; len = omega arith } };
      shows = ap with_vectors (is_up 0 64 c.from_fn.result a.long (λ i h. omega (arith, (a.at i 0 h).2.met)));
    }
