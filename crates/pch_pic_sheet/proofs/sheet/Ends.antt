-- How it ends where the trace is good.
use Rattle.basics.proofs.Prelude.{◌≡◌, refl, false, sym, ap, ◌∙◌, List, ◌++◌, map, ℕ, ◌≤◌, length, drop, Bytes}
use Rattle.rules.specs.Device.{reset}
use Rattle.laws.proofs.laws.Images.{reset_well_formed}
use Rattle.traces.specs.{Trace.good, Trace.trace_test, Played.records_from}
use Rattle.sheets.specs.{Day.item_of, Day.items, Day.begun, Day.day_from, Sheet.row_of, Sheet.sheet_bytes, Sheet.sheet_length}
use Rattle.passes.specs.{tallies.Grid.Becomes, tallies.Following.FollowsDay, Finish.row_cleared, Finish.cleared, Finish.all_inputs, Finish.finished}
use Rattle.passes.proofs.laws.{Passing.pass_sheet, Days.items_loadless}
use Rattle.std.proofs.Common.{Ok, Some}
use Rattle.ledger.proofs.follow.{Loops.some_grid, Loops.holds_some, Reaching.all_good_lem}
use Rattle.pch_pic_sheet.specs.sheet.Made.{told, made_by, made_of}

module _ (l s : List ℕ) {first n : ℕ} (e : trace_test l ≡ good first n) where
  pub is_made : Bytes s → sheet_length ≤ length s → {s₁ s₂ s₃ s₄ : List ℕ} → Becomes false s s₁ (λ f. cleared f all_inputs)
      → FollowsDay false reset.core.lines 0 s₁ s₂ 0 (map item_of (records_from l n 0))
      → Becomes false s₂ s₃ (λ f. row_cleared f 64 10) → Becomes false s₃ s₄ (λ f. finished f 64) → told (Ok (Some n)) s₄ ≡ made_of l s
  is_made b h {s₄ = s₄} p q r t =
      let xs = map item_of (records_from l n 0) in
      let passed = q reset reset_well_formed (record { lines = refl; waiting = refl }) in
      let held = t _ _ (r _ _ (passed _ _ (p (some_grid false s) (drop sheet_length s) (holds_some false s b h)))) in
      let is : s₄ ≡ sheet_bytes 4 (row_of (day_from begun xs)) ++ drop sheet_length s = pass_sheet xs (items_loadless (records_from l n 0)) (some_grid false s) false s₄ (drop sheet_length s) held in
      let all : sheet_bytes 4 (row_of (day_from begun xs)) ++ drop sheet_length s ≡ sheet_bytes 4 (row_of (day_from begun (items l))) ++ drop sheet_length s =
      ap (λ k. sheet_bytes 4 (row_of (day_from begun (map item_of (records_from l k 0)))) ++ drop sheet_length s) (all_good_lem l e).count
      in
      ap (told (Ok (Some n))) (is ∙ all) ∙ ap (λ u. made_by u l s) (sym e)
