-- How adding ends: refused, with the tally as it was, or counted.
use Rattle.basics.proofs.Prelude.{◌≡◌, refl, sym, ap, ◌∙◌, true, List, map, ℕ, ◌+◌, ◌%◌, ◌^◌, ◌≤◌, arith, length, drop, Bytes, part_below}
use Rattle.images.specs.Image.{decode, numbers_in}
use Rattle.traces.specs.{Trace.good, Trace.trace_test, Played.records_from}
use Rattle.sheets.specs.Day.{item_of}
use Rattle.passes.specs.tallies.{Grid.Puts, Grid.put, Marks.all_marked, Marks.day_marks, Following.FollowsDay}
use Rattle.passes.specs.tallies.Tally.{tally_length, numbers_of, counted_in, tally_bytes, TallyTest, sound, tally_test}
use Rattle.passes.specs.tallies.Tallying.{over_tally, unless_tally, unless_trace}
use Rattle.passes.proofs.{laws.Bytes.tally_is}
use Rattle.fields.{specs.inplace.Passed.Passed, proofs.inplace.Passing.here}
use Rattle.std.proofs.Common.{Ok, None}
use Rattle.images.specs.Form.{Form}
use Rattle.ledger.{specs.watch.Kept.lines_of, specs.declared.watch.Watched.Watched, proofs.follow.Loops.some_grid, proofs.follow.Loops.holds_some, proofs.follow.Reaching.all_good_lem}
use Rattle.pch_pic_tally.specs.{adding.Ended.ends_as, adding.Ended.add_by, adding.Ended.added_to, adding.Ended.Keeps, adding.Ended.CountsFrom}

-- ---- the count

module _ (t : List ℕ) (y : Bytes t) (h : tally_length ≤ length t) where
  -- the number read is that of the records so far
  pub so_far : {x : ℕ} → x ≡ counted_in t % 2 ^ 64 → x ≡ counted_in t
  so_far e = let b = part_below t 5120 8 y (omega (arith, h)) in omega (arith, e, b)

  pub counts : (l : List ℕ) (n : ℕ) (w : Watched) {base : ℕ} → base ≡ counted_in t → {t₁ t₂ : List ℕ} → FollowsDay true (lines_of w) w.waiting t t₁ base (map item_of (records_from l n 0))
      → Puts true t₁ t₂ 64 0 (base + n) → CountsFrom l n w t t₂
  counts l n w {base} e {t₁} {t₂} f p d well stands =
      let passed = f d well stands (some_grid true t) (drop tally_length t) (holds_some true t y h) in
      let held = p (base + n) refl ((λ z. absurd (omega (arith, z))), (λ z q. absurd (omega (arith, z)))) _ (drop tally_length t) passed in
      tally_is t₂ (drop tally_length t) _ held
      ∙ ap (λ k. over_tally (tally_bytes (put (all_marked (numbers_of t) (day_marks k d (map item_of (records_from l n 0)))) 64 0 (k + n))) t) e

-- ---- of a good trace

module _ (l i t : List ℕ) {first n : ℕ} (e : trace_test l ≡ good first n) where
  left : {x : TallyTest} → x ≡ tally_test t → add_by (unless_tally x) l i t ≡ added_to l i t
  left f = ap (λ x. add_by (unless_tally x) l i t) f ∙ ap (λ x. add_by (unless_trace x (unless_tally (tally_test t))) l i t) (sym e)

  pub counted : {f : Form} → Passed f i → sound ≡ tally_test t → (w : Watched) → Keeps i w → {t₂ : List ℕ} → CountsFrom l n w t t₂ → ends_as (Ok None) t₂ ≡ added_to l i t
  counted p f w k {t₂} c =
      let at = here p in
      let is = c (decode i) at.well (k (decode i) (numbers_in i) at) in
      let all = ap (λ m. over_tally (tally_bytes (put (all_marked (numbers_of t) (day_marks (counted_in t) (decode i) (map item_of (records_from l m 0)))) 64 0 (counted_in t + m))) t) (all_good_lem l e).count in
      ap (ends_as (Ok None)) (is ∙ all) ∙ left f
