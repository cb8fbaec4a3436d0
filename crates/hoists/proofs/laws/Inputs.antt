-- Some input has f exactly where it is not so that none has it; and some input is in service exactly where ISR is not 0.
use Rattle.basics.proofs.Prelude.{◌≡◌, sym, ap, ◌∙◌, Bool, true, false, not, true≢false, ℕ, zero, suc, ◌+◌, ◌^◌, ◌<◌, ◌≤◌, zero-le, arith, eqb, eqb-true, eq-eqb, from, test, no_inputs, no_input_lem, first_input}
use Rattle.rules.specs.Device.{Device}
use Rattle.hoists.specs.Profile.{is_some, some_input, any_served}
use Rattle.hoists.proofs.laws.Computed as computed

from_some : (n k : ℕ) (f : ℕ → Bool) (i : ℕ) → n ≤ i → i < n + k → f i ≡ true → is_some (from n k f) ≡ true
unfolding from
from_some n zero f i a b t = absurd (omega arith)
from_some n (suc k) f i a b t =
    test (f n) (λ e. rw e)
    (λ e. rw e (test (eqb n i) (λ s. absurd (true≢false (sym t ∙ ap f (sym (eqb-true n i s)) ∙ e)))
    (λ s. from_some (suc n) k f i (later (λ z. true≢false (sym (eq-eqb n i z) ∙ s))) (omega arith) t)))
  where
    later : (n ≡ i → ⊥) → suc n ≤ i
    later d = omega arith

module _ (f : ℕ → Bool) where
  pub some_there : (i : ℕ) → i < 64 → f i ≡ true → some_input f ≡ true
  some_there i b t = from_some 0 64 f i zero-le b t

  pub none_there : ((i : ℕ) → i < 64 → f i ≡ false) → some_input f ≡ false
  none_there h = ap is_some (no_inputs f h)

  pub none_here : some_input f ≡ false → (i : ℕ) → i < 64 → f i ≡ false
  none_here e i b = test (f i) (λ t. absurd (true≢false (sym (some_there i b t) ∙ e))) (λ t. t)

-- a register of 64 bits has some input exactly where it is not 0
pub served_is : (d : Device) → d.core.lines.isr < 2 ^ 64 → any_served d ≡ not (eqb d.core.lines.isr 0)
served_is d h =
    let x = d.core.lines.isr in
    test (eqb x 0) (λ t. rw t (ap is_some (no_input_lem x (eqb-true x 0 t))))
    (λ t. rw t (ap is_some (first_input x h (λ z. true≢false (sym (eq-eqb x 0 z) ∙ t)))))
