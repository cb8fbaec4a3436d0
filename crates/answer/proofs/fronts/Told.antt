-- From how a call ends to what it leaves: what it tells stands in the answer area, and a drain was lent the event buffer from its place on.
use Rattle.std.proofs.Common.{Option, Result}
use Rattle.basics.proofs.Prelude.{◌≡◌, sym, ap, ◌∙◌, List, [], ◌++◌, append-nil, ℕ, ◌-◌, ◌≤◌, arith, length, take, drop, length-drop, drop_of_length-le, take_all, put_mid, part}
use Rattle.calls.specs.{Calls.Request, Calls.answered, Calls.buffer_of, Calls.place_of, Calls.leaves, Calls.ending, Calls.outcome, Convert.convert_ending, Convert.conversion, Waiting.waiting_ending, Waiting.waiting}
use Rattle.calls.proofs.laws.{Conversions.conversion_room, Waits.waiting_room, Outcomes.room, Outcomes.behind, Outcomes.drain_behind}
use Rattle.answer.specs.{Given.told_number, Given.told_value, Given.ends, declared.refusals.Refusal.Refusal}
use Rattle.calls.specs.Calls as asked

-- the part of an event buffer from a place on, and that part put back
module _ (ev : List ℕ) (place : ℕ) where
  whole : part place (length ev - place) ev ≡ drop place ev
  whole = take_all (length ev - place) (drop place ev) (simp length-drop (omega arith))

  put_back : (exit : List ℕ) → put_mid place (length ev - place) ev exit ≡ take place ev ++ exit
  put_back exit =
      let short : length (drop place ev) ≤ length ev - place = simp length-drop (omega arith) in
      ap (λ (l : List ℕ). take place ev ++ (exit ++ l)) (drop_of_length-le (drop place ev) short) ∙ ap (λ (l : List ℕ). take place ev ++ l) (append-nil exit)

module _ (i a : List ℕ) (roomy : 16 ≤ length a) (t : Result (Option ℕ) Refusal) {r : ℕ} {b : List ℕ} (tells : (r ≡ told_number t) × (b ≡ answered (told_number t) (told_value t) a)) where
  pub told : (q : Request) → place_of q ≤ length (buffer_of q) → {j e : List ℕ} → ends t j e ≡ ending q i → leaves r j b e ≡ outcome q i a
  told q within {j} {e} d = ap (λ (n : ℕ). leaves n j b e) tells.0 ∙ room q i a roomy within (ends t j e) d tells.1

  pub told_behind : (ev : List ℕ) (place : ℕ) → place ≤ length ev → {j exit : List ℕ} → ends t j exit ≡ ending (asked.drain (part place (length ev - place) ev) 0) i
      → leaves r j b (put_mid place (length ev - place) ev exit) ≡ outcome (asked.drain ev place) i a
  told_behind ev place within {j} {exit} d =
      told (asked.drain ev place) within
      (ap (ends t j) (put_back ev place exit) ∙ ap (behind (take place ev)) (d ∙ ap (λ (l : List ℕ). ending (asked.drain l 0) i) (whole ev place)) ∙ sym (drain_behind ev place i))

-- the same of a conversion, which leaves the target in place of an image
pub told_of_convert : (i t a : List ℕ) → 16 ≤ length a → (x : Result (Option ℕ) Refusal) {r : ℕ} {b : List ℕ} → (r ≡ told_number x) × (b ≡ answered (told_number x) (told_value x) a)
    → {j : List ℕ} → ends x j [] ≡ convert_ending i t → leaves r j b [] ≡ conversion i t a
told_of_convert i t a roomy x {b} tells {j} d = ap (λ (n : ℕ). leaves n j b []) tells.0 ∙ conversion_room i t a roomy (ends x j []) d tells.1

-- and of the call that tells who waits, which leaves the image as it was given
pub told_of_waiting : (i a : List ℕ) → 16 ≤ length a → (x : Result (Option ℕ) Refusal) {r : ℕ} {b : List ℕ} → (r ≡ told_number x) × (b ≡ answered (told_number x) (told_value x) a)
    → ends x i [] ≡ waiting_ending i → leaves r i b [] ≡ waiting i a
told_of_waiting i a roomy x {b} tells d = ap (λ (n : ℕ). leaves n i b []) tells.0 ∙ waiting_room i a roomy (ends x i []) d tells.1
