-- From how a salvage ends to what the call leaves: 7 writes no byte, and all else is told in the answer area.
use Rattle.basics.proofs.Prelude.{◌≡◌, ap, ◌∙◌, List, ℕ, ◌<◌, ◌≤◌, length, le-leb, lt-leb}
use Rattle.calls.specs.Calls.{answer_length}
use Rattle.calls.specs.Reasons.{told_in}
use Rattle.traces.specs.salvages.Salvaging.{salvage_ending, salvage_leaves, salvage_settled, salvaging}
use Rattle.std.proofs.Common.{Option, Result}
use Rattle.answer.specs.{Given.told_number, Given.told_value, declared.refusals.Refusal.Refusal}
use Rattle.pch_pic_salvage.specs.salvage.Ends.{ends}

module _ (l ks ds a : List ℕ) where
  pub answer_short : length a < answer_length → salvage_leaves 7 ks ds a ≡ salvaging l ks ds a
  unfolding salvaging
  answer_short h = rw (lt-leb answer_length (length a) h)

  module _ (roomy : answer_length ≤ length a) (t : Result (Option ℕ) Refusal) {ks₂ ds₂ : List ℕ} (d : ends t ks₂ ds₂ ≡ salvage_ending l ks ds) where
    settles : salvage_settled a (ends t ks₂ ds₂) ≡ salvaging l ks ds a
    unfolding salvaging
    settles = ap (salvage_settled a) d ∙ rw (le-leb answer_length (length a) roomy)

    pub told : {r : ℕ} {b : List ℕ} → (r ≡ told_number t) × (b ≡ told_in (told_number t) (told_value t) a) → salvage_leaves r ks₂ ds₂ b ≡ salvaging l ks ds a
    told p = (λ s. salvage_leaves (p.0 s) ks₂ ds₂ (p.1 s)) ∙ settles
