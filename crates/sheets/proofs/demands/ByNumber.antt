-- What the exported call that writes a sheet hands back (02, C-21): each refusal exactly when, by the table in specs/Refusals.antt; and what a refused call leaves, in the table's words.
use Rattle.basics.proofs.Prelude.{◌≡◌, ap, ◌∙◌, and-false, List, [], ◌∷◌, ◌⊎◌, inl, inr, ℕ, ◌<◌, ◌≤◌, leb, length, le-leb, leb-true, leb-false, lt-leb, test}
use Rattle.calls.specs.{Untouched.Left, Untouched.left, Untouched.Untouched, Calls.AnswerRoom, Untouched.IsDone}
use Rattle.calls.specs.Reasons.{bad_contents, bad_at, Reason, short_room, of_image, of_request, of_trace, of_profile, none_left, of_tally, refused_for, Refuses, ByNumber}
use Rattle.traces.{specs.Trace.TraceTest, specs.Trace.trace_test, proofs.demands.Told.trace_exactly, proofs.demands.Told.by_trace}
use Rattle.sheets.specs.{Refusals.sheet_left, Refusals.SheetGiven, Sheet.sheet_length, Sheeting.SheetLeft, Sheeting.sheet_settled, Sheeting.sheeting}
use Rattle.calls.proofs.laws.Tables as tables
use Rattle.sheets.proofs.laws.Computed as computed

module _ (l s a : List ℕ) where
  abbrev counted : SheetLeft
  counted = sheeting l s a

  settles : AnswerRoom a → sheet_length ≤ length s → {t : TraceTest} → trace_test l ≡ t → counted ≡ sheet_settled l s a t
  unfolding sheeting
  settles h r e = rw (le-leb 16 (length a) h, le-leb sheet_length (length s) r) (ap (sheet_settled l s a) e)

  sheet_refuses : (r : Reason) → SheetGiven l s a r → sheet_left counted ≡ refused_for r (s ∷ []) a
  unfolding sheeting
  sheet_refuses short_room (inl h) = rw (lt-leb 16 (length a) h)
  sheet_refuses short_room (inr h) = rw (lt-leb sheet_length (length s) h, and-false (leb 16 (length a)))
  sheet_refuses (of_image x) g = absurd g
  sheet_refuses (of_request w) g = absurd g
  sheet_refuses (of_trace bad_contents) g = ap sheet_left (settles g.0 g.1 ((trace_exactly l bad_contents).1 g.2))
  sheet_refuses (of_trace (bad_at k)) g = ap sheet_left (settles g.0 g.1 ((trace_exactly l (bad_at k)).1 g.2))
  sheet_refuses (of_profile v) g = absurd g
  sheet_refuses none_left g = absurd g
  sheet_refuses (of_tally p) g = absurd g

  sheet_given : (IsDone counted.number → ⊥) → (r : Reason) × SheetGiven l s a r
  sheet_given n =
      test (leb 16 (length a))
      (λ t. test (leb sheet_length (length s)) (λ u. tested (leb-true 16 (length a) t) (leb-true sheet_length (length s) u)) (λ u. (short_room, inr (leb-false sheet_length (length s) u))))
      (λ t. (short_room, inl (leb-false 16 (length a) t)))
    where
      tested : AnswerRoom a → sheet_length ≤ length s → (r : Reason) × SheetGiven l s a r
      tested h r = by_trace l (λ e g. absurd (n (ap (λ (x : SheetLeft). x.number) (settles h r e)))) (λ x e. (of_trace x, (h, r, (trace_exactly l x).0 e)))

  -- The call keeps to its table.
  pub refusals_of_a_sheet : Refuses (SheetGiven l s a) (s ∷ []) a (sheet_left counted)
  refusals_of_a_sheet = record { refused = sheet_refuses; given = sheet_given }

  pub sheet_by_number : ByNumber (SheetGiven l s a) counted.number
  sheet_by_number = tables.each_number (SheetGiven l s a) (s ∷ []) a _ refusals_of_a_sheet

  -- refused, the sheet is as it was, and of the answer area the bytes past its 16; with 7 every byte
  pub refused_sheet_untouched : (IsDone counted.number → ⊥) → Untouched (s ∷ []) a (sheet_left counted)
  refused_sheet_untouched = tables.refused_untouched (SheetGiven l s a) (s ∷ []) a _ refusals_of_a_sheet
