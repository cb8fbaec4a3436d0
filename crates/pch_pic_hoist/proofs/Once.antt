-- 01, How tight the promises are: no second outcome satisfies the promise of a call of the profile. And 02, C-22: a call that is accepted leaves what the full device's exported call leaves.
use Rattle.basics.proofs.Prelude.{◌≡◌, sym, ap, ◌∙◌, List, [], ℕ}
use Rattle.calls.{specs.Calls.read, specs.Calls.write, specs.Calls.Outcome, specs.Calls.leaves, specs.Calls.outcome, proofs.demands.OneOutcome.one_left}
use Rattle.hoists.specs.HoistCalls.{hoist_read, hoist_write, PhaseLeft, phase_leaves}
use Rattle.hoists.proofs.under_profile.demands.Answers.{done_read_is_full, done_write_is_full}

-- two runs whose contract holds leave the same number and the same bytes: of a read or a write, and of a call that stores the phase
pub one_access : {x : Outcome} (r s : ℕ) (i j a b : List ℕ) → leaves r i a [] ≡ x → leaves s j b [] ≡ x → (r ≡ s) × (i ≡ j) × (a ≡ b)
one_access r s i j a b p q = let o = one_left p q in (o.0, o.1, o.2)

pub one_phase_call : {x : PhaseLeft} (r s : ℕ) (i j p q a b : List ℕ) → phase_leaves r i p a ≡ x → phase_leaves s j q b ≡ x → (r ≡ s) × (i ≡ j) × (p ≡ q) × (a ≡ b)
one_phase_call r s i j p q a b x y =
    let same = x ∙ sym y in
    (ap (λ (o : PhaseLeft). o.number) same, ap (λ (o : PhaseLeft). o.image) same, ap (λ (o : PhaseLeft). o.phase) same, ap (λ (o : PhaseLeft). o.answer) same)

-- r, j, a: what pch_pic_hoist_write hands back and leaves, being done; s, k, b: what pch_pic_write does, of the same image and answer area
pub done_write_alike : (base size address width v : ℕ) (i p x : List ℕ) (r s : ℕ) (j k a b : List ℕ) → leaves r j a [] ≡ hoist_write base size address width v i p x
    → leaves s k b [] ≡ outcome (write base size address width v) i x → r ≡ 0 → (r ≡ s) × (j ≡ k) × (a ≡ b)
done_write_alike base size address width v i p x r s j k a b c d done =
    one_access r s j k a b (c ∙ done_write_is_full base size address width v i p x (sym (ap (λ (o : Outcome). o.number) c) ∙ done)) d

pub done_read_alike : (base size address width : ℕ) (i x : List ℕ) (r s : ℕ) (a b : List ℕ) → leaves r i a [] ≡ hoist_read base size address width i x
    → leaves s i b [] ≡ outcome (read base size address width) i x → r ≡ 0 → (r ≡ s) × (a ≡ b)
done_read_alike base size address width i x r s a b c d done =
    let e = one_access r s i i a b (c ∙ done_read_is_full base size address width i x (sym (ap (λ (o : Outcome). o.number) c) ∙ done)) d in
    (e.0, e.2)
