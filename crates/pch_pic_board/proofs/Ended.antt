-- The end of a call with a board: what `finish` asks holds of a call that has ended, and what it promises is the call's outcome.
use Rattle.std.proofs.Common.{Option, Result}
use Rattle.basics.proofs.Prelude.{◌≡◌, refl, sym, ap, ◌∙◌, List, [], ◌++◌, ℕ, ◌-◌, ◌<◌, ◌≤◌, zero-le, length, drop, replicate, length-take-le, eqb, eqb-true, eq-eqb, test, put_mid, Bytes, part}
use Rattle.rules.specs.Device.{Device}
use Rattle.calls.{specs.Calls.Request, specs.Calls.buffer_of, specs.Calls.place_of, specs.Calls.ending, proofs.laws.Outcomes.answer_short}
use Rattle.boards.{specs.Boarding.recounted, specs.Boarding.board_after, specs.Boarding.board_leaves, specs.Boarding.boarding, proofs.laws.Fronts.done_leaves_accepted, proofs.laws.Fronts.reset_device, proofs.laws.Fronts.board_with_room, proofs.laws.Fronts.seven_first, proofs.laws.Heard.blank_right}
use Rattle.answer.{specs.Given.told_number, specs.Given.ends, specs.declared.refusals.Refusal.Refusal, proofs.fronts.Told.told, proofs.fronts.Told.told_behind}
use Rattle.pch_pic_board.specs.Finished.{Finishing, Finished, cleared_after}
use Rattle.calls.specs.Calls as asked

module _ (i b a : List ℕ) (bytes : Bytes i) (roomy : 16 ≤ length a) (wide : 256 ≤ length b) (t : Result (Option ℕ) Refusal) where
  module _ (q : Request) (within : place_of q ≤ length (buffer_of q)) {j e : List ℕ} (d : ends t j e ≡ ending q i) where
    pub may_finish : Finishing t j b a
    may_finish = record { left = λ z. done_leaves_accepted q i within (ends t j e) d z bytes; wide = wide; roomy = roomy }

    pub finished : {r : ℕ} {c f : List ℕ} → Finished t j b a r c f → board_leaves r j c f e ≡ boarding q i b a
    finished h = board_with_room q i b a wide (told i a roomy t (h.number, h.written) q within d) h.number h.counted

  -- a drain was lent the event buffer from its place on
  pub finished_behind : (ev : List ℕ) (place : ℕ) → place ≤ length ev → {j exit : List ℕ} → ends t j exit ≡ ending (asked.drain (part place (length ev - place) ev) 0) i
      → {r : ℕ} {c f : List ℕ} → Finished t j b a r c f → board_leaves r j c f (put_mid place (length ev - place) ev exit) ≡ boarding (asked.drain ev place) i b a
  finished_behind ev place within d h =
      board_with_room (asked.drain ev place) i b a wide (told_behind i a roomy t (h.number, h.written) ev place within d) h.number h.counted

-- ---- 7

-- the answer area is short, whatever the board
pub answer_first : (q : Request) (i b a : List ℕ) → length a < 16 → boarding q i b a ≡ board_leaves 7 i b a (buffer_of q)
answer_first q i b a h = seven_first q i b a (answer_short q i a h)

-- ---- a reset

-- zeros over the first 256 bytes are the counts of the reset device
pub cleared : (n : ℕ) (b ys : List ℕ) → 256 ≤ length b → n ≡ 0 → ys ≡ replicate (length (part 0 256 b)) 0 → put_mid 0 256 b ys ≡ cleared_after n b
cleared n b ys wide z e = rw (eq-eqb n 0 z) (ap (λ y. y ++ drop 256 b) (e ∙ ap (λ k. replicate k 0) (length-take-le 256 b wide) ∙ blank_right))

-- they are what a done reset leaves to be counted
pub reset_counts : (i b : List ℕ) (t : Result (Option ℕ) Refusal) {j : List ℕ} → ends t j [] ≡ ending asked.reset i → cleared_after (told_number t) b ≡ board_after (told_number t) j b
reset_counts i b t {j} d =
    test (eqb (told_number t) 0)
    (λ z. rw z (ap (λ (e : Device). recounted e.core b) (sym (reset_device asked.reset i zero-le (ends t j []) d (eqb-true (told_number t) 0 z) refl))))
    (λ z. rw z)
