-- From what is made of a trace to what the call leaves: 7 writes no byte, and all else is told in the answer area.
use Rattle.basics.proofs.Prelude.{◌≡◌, refl, sym, ap, ◌∙◌, Bool, cond, ◌&&◌, and-false, List, ℕ, ◌<◌, ◌≤◌, leb, length, le-leb, lt-leb}
use Rattle.calls.specs.Calls.{answer_length, answered}
use Rattle.traces.specs.Trace.{TraceTest, good, wrong_contents, bad_record, trace_test}
use Rattle.sheets.specs.{Sheet.sheet_length, Sheeting.SheetLeft, Sheeting.sheet_leaves, Sheeting.sheet_settled, Sheeting.sheeting}
use Rattle.std.proofs.Common.{Option, Result}
use Rattle.answer.specs.{Given.told_number, Given.told_value, declared.refusals.Refusal.Refusal}
use Rattle.pch_pic_sheet.specs.sheet.Made.{Made, told, made_by, made_of}

-- what is made, put into the answer area
settled : Made → List ℕ → SheetLeft
settled m a = sheet_leaves m.number m.sheet (answered m.number m.value a)

made_settled : (t : TraceTest) (l s a : List ℕ) → settled (made_by t l s) a ≡ sheet_settled l s a t
unfolding settled
made_settled (good first n) l s a = refl
made_settled wrong_contents l s a = refl
made_settled (bad_record k) l s a = refl

module _ (l s a : List ℕ) where
  by_room : {b : Bool} → (leb answer_length (length a) && leb sheet_length (length s)) ≡ b → cond b (sheet_settled l s a (trace_test l)) (sheet_leaves 7 s a) ≡ sheeting l s a
  unfolding sheeting
  by_room e = ap (λ b. cond b (sheet_settled l s a (trace_test l)) (sheet_leaves 7 s a)) (sym e)

  pub answer_short : length a < answer_length → sheet_leaves 7 s a ≡ sheeting l s a
  answer_short h = by_room (ap (λ b. b && leb sheet_length (length s)) (lt-leb answer_length (length a) h))

  pub sheet_short : length s < sheet_length → sheet_leaves 7 s a ≡ sheeting l s a
  sheet_short h = by_room (ap (λ b. leb answer_length (length a) && b) (lt-leb sheet_length (length s) h) ∙ and-false (leb answer_length (length a)))

  pub tells : answer_length ≤ length a → sheet_length ≤ length s → (t : Result (Option ℕ) Refusal) {s₂ : List ℕ} → told t s₂ ≡ made_of l s → {r : ℕ} {b : List ℕ} → (r ≡ told_number t) × (b ≡ answered (told_number t) (told_value t) a) → sheet_leaves r s₂ b ≡ sheeting l s a
  unfolding settled
  tells h k t {s₂} d p =
      (λ i. sheet_leaves (p.0 i) s₂ (p.1 i)) ∙ ap (λ m. settled m a) d ∙ made_settled (trace_test l) l s a
      ∙ by_room (λ i. le-leb answer_length (length a) h i && le-leb sheet_length (length s) k i)
