-- From how a play ends to what the call leaves: 7 writes no byte, and all else is told in the answer area.
use Rattle.basics.proofs.Prelude.{◌≡◌, refl, ap, ◌∙◌, List, ℕ, ◌<◌, ◌≤◌, length, le-leb, lt-leb}
use Rattle.calls.specs.Calls.{answer_length}
use Rattle.calls.specs.Reasons.{told_in}
use Rattle.traces.specs.plays.Playing.{PlayEnding, PlayLeft, play_ending, play_on_ending, play_leaves, play_settled, play_told, playing, playing_on}
use Rattle.std.proofs.Common.{Option, Result}
use Rattle.answer.specs.{Given.told_number, Given.told_value, declared.refusals.Refusal.Refusal}
use Rattle.pch_pic_trace.specs.play_trace.Plays.{ends}

-- both calls tell their ending
pub from_reset : (l i bs es a : List ℕ) → play_told (play_ending l i bs es) i bs es a ≡ playing l i bs es a
unfolding playing
from_reset l i bs es a = refl

pub on_it : (l i bs es a : List ℕ) → play_told (play_on_ending l i bs es) i bs es a ≡ playing_on l i bs es a
unfolding playing_on
on_it l i bs es a = refl

module _ (x : PlayEnding) (i bs es a : List ℕ) {y : PlayLeft} (is : play_told x i bs es a ≡ y) where
  pub answer_short : length a < answer_length → play_leaves 7 i bs es a ≡ y
  answer_short h = rw (lt-leb answer_length (length a) h) at is

  pub told : answer_length ≤ length a → (t : Result (Option ℕ) Refusal) {j cs fs : List ℕ} → ends t j cs fs ≡ x → {r : ℕ} {b : List ℕ} → (r ≡ told_number t) × (b ≡ told_in (told_number t) (told_value t) a)
      → play_leaves r j cs fs b ≡ y
  told roomy t {j} {cs} {fs} d p = (λ s. play_leaves (p.0 s) j cs fs (p.1 s)) ∙ ap (play_settled a) d ∙ (rw (le-leb answer_length (length a) roomy) at is)
