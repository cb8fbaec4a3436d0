-- What the exported call that writes a sheet leaves (02, C-21): refused, not a byte of the sheet changes, and 7 writes none at all; and there is one outcome.
use Rattle.basics.proofs.Prelude.{◌≡◌, refl, sym, ap, ◌∙◌, Bool, true, false, ◌&&◌, List, ℕ, arith, leb, length, test}
use Rattle.calls.specs.Calls.{answer_length}
use Rattle.traces.specs.Trace.{TraceTest, good, wrong_contents, bad_record, trace_test}
use Rattle.sheets.specs.{Sheet.sheet_length, Sheeting.SheetLeft, Sheeting.sheet_leaves, Sheeting.sheet_settled, Sheeting.sheeting}

module _ (l s a : List ℕ) where
  abbrev left : SheetLeft
  left = sheeting l s a

  abbrev room : Bool
  room = leb answer_length (length a) && leb sheet_length (length s)

  settles : room ≡ true → {t : TraceTest} → trace_test l ≡ t → left ≡ sheet_settled l s a t
  unfolding sheeting
  settles r e = rw r (ap (sheet_settled l s a) e)

  short : room ≡ false → left ≡ sheet_leaves 7 s a
  unfolding sheeting
  short r = rw r

  -- refused, the sheet is as it was
  pub refused_untouched : (left.number ≡ 0 → ⊥) → left.sheet ≡ s
  refused_untouched n = test room (λ r. go r (trace_test l) refl) (λ r. ap (λ (x : SheetLeft). x.sheet) (short r))
    where
      go : room ≡ true → (t : TraceTest) → trace_test l ≡ t → left.sheet ≡ s
      go r (good first k) e = absurd (n (ap (λ (x : SheetLeft). x.number) (settles r e)))
      go r wrong_contents e = ap (λ (x : SheetLeft). x.sheet) (settles r e)
      go r (bad_record k) e = ap (λ (x : SheetLeft). x.sheet) (settles r e)

  -- 7: nor is a byte of the answer area written
  pub seven_untouched : left.number ≡ 7 → left.answer ≡ a
  seven_untouched z = test room (λ r. go r (trace_test l) refl) (λ r. ap (λ (x : SheetLeft). x.answer) (short r))
    where
      not_seven : {m : ℕ} → left.number ≡ m → m ≡ 7
      not_seven e = sym e ∙ z

      go : room ≡ true → (t : TraceTest) → trace_test l ≡ t → left.answer ≡ a
      go r (good first k) e = absurd (let y = not_seven (ap (λ (x : SheetLeft). x.number) (settles r e)) in omega (arith, y))
      go r wrong_contents e = absurd (let y = not_seven (ap (λ (x : SheetLeft). x.number) (settles r e)) in omega (arith, y))
      go r (bad_record k) e = absurd (let y = not_seven (ap (λ (x : SheetLeft). x.number) (settles r e)) in omega (arith, y))

-- of two runs whose contract holds, the numbers handed back, the sheets and the answer areas are the same
pub one_sheet : (l s a : List ℕ) {m n : ℕ} {s₁ s₂ a₁ a₂ : List ℕ} → sheet_leaves m s₁ a₁ ≡ sheeting l s a → sheet_leaves n s₂ a₂ ≡ sheeting l s a → (m ≡ n) × (s₁ ≡ s₂) × (a₁ ≡ a₂)
one_sheet l s a x y =
    let same = x ∙ sym y in
    (ap (λ (z : SheetLeft). z.number) same, ap (λ (z : SheetLeft). z.sheet) same, ap (λ (z : SheetLeft). z.answer) same)
