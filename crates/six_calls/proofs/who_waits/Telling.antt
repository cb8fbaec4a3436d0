-- How the call that tells who waits ends, by the tests of its image: refused, or told the set that the three registers give.
use Rattle.std.proofs.Common.{Option, Some, Result, Ok, Err}
use Rattle.std.specs.Result.{IsErrAnd}
use Rattle.basics.proofs.Prelude.{◌≡◌, refl, sym, ap, ◌∙◌, not, ◌&&◌, List, [], ℕ, ◌-◌, ◌^◌, lit<, register, register_ext, on_not, on_none}
use Rattle.rules.specs.{Lines.Lines, Lines.is_pending}
use Rattle.images.specs.{Form.Form, Image.image_test, Image.decode, Image.numbers_in}
use Rattle.calls.{specs.Waiting.waiting_in, specs.Waiting.waiting_ending, proofs.laws.Waits.untold, proofs.laws.Waits.waiting_told_lem}
use Rattle.device.specs.decide.Sets.{waiting_of}
use Rattle.fields.{specs.inplace.Held.Reads, specs.inplace.Passed.Passed, proofs.inplace.Passing.here}
use Rattle.answer.specs.{Given.Refuses, Given.refusal_number, Given.refusal_value, Given.ends, declared.refusals.Refusal.Refusal}

-- ---- the set

-- of all inputs those that wait are those that wait
all_waiting : (l : Lines) → register (waiting_of (2 ^ 64 - 1) l.irr l.mask l.isr) ≡ waiting_in l
all_waiting l = register_ext _ (is_pending l) (λ n b. ap (λ p. p && is_pending l n) (on_not 64 0 n (lit< tt) b ∙ ap not (on_none n)))

-- from what the three registers read
pub set_read : (i : List ℕ) {irr mask isr w : ℕ} → Reads i irr (λ d. d.core.lines.irr) → Reads i mask (λ d. d.core.lines.mask) → Reads i isr (λ d. d.core.lines.isr)
    → w ≡ register (waiting_of (2 ^ 64 - 1) irr mask isr) → Reads i w (λ d. waiting_in d.core.lines)
set_read i p q r e d s h = e ∙ (λ t. register (waiting_of (2 ^ 64 - 1) (p d s h t) (q d s h t) (r d s h t))) ∙ all_waiting d.core.lines

-- ---- 4, 5, 8 to 11; or done

module _ (i : List ℕ) where
  -- at the exit of a `?`
  pub waits_refused : (t : Result (Option ℕ) Refusal) {r : Refusal} → IsErrAnd t (λ y. y ≡ r) → Refuses r i → ends t i [] ≡ waiting_ending i
  waits_refused (Ok v) e d = absurd e
  waits_refused (Err y) {r} e d =
      (λ s. record { number = (ap refusal_number e ∙ d.number) s; value = (ap refusal_value e ∙ d.value) s; image = i; events = [] }) ∙ sym (untold i (image_test i) refl d.not)

  pub waits_told : {f : Form} → Passed f i → {w : ℕ} → Reads i w (λ d. waiting_in d.core.lines) → ends (Ok (Some w)) i [] ≡ waiting_ending i
  waits_told p r = waiting_told_lem i p.good (r (decode i) (numbers_in i) (here p))
