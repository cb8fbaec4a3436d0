-- 02, C-21: what was offered, less what was dropped and what waits at the end, is what was drained. Stated of the sheet's total.
use Rattle.basics.proofs.Prelude.{◌≡◌, refl, sym, ap, subst, ◌∙◌, List, [], ℕ, zero, suc, ◌+◌, zero-add, length}
use Rattle.rules.specs.{Account.tally, Device.reset}
use Rattle.laws.proofs.laws.Images.{reset_well_formed}
use Rattle.plain.{specs.Events.waiting, specs.Sequence.load_of, proofs.laws.Following.loaded_run, proofs.demands.History.same_history}
use Rattle.traces.specs.Played.{records}
use Rattle.sheets.specs.{Day.items, Day.begun, Day.day_of, Sheet.Row, Sheet.row_of, Sheet.total_below}
use Rattle.passes.specs.{Slots.NoLoad, days.Accounts.drained_in, days.Accounts.at_last}
use Rattle.passes.proofs.laws.{Passing.no_load_well, Passing.same_begun, Days.items_loadless}
use Rattle.passes.proofs.days.laws.{Flow.was_offered, Flow.was_dropped, Flow.Flows, Flow.day_flows, Inputs.FewNotes, Inputs.few_history, Inputs.sum_below, Inputs.all_of_each}

total_offered : (k : ℕ) (f : ℕ → Row) → (total_below k f).offered ≡ sum_below k (λ n. (f n).offered)
unfolding total_below sum_below
total_offered zero f = refl
total_offered (suc k) f = ap (λ j. j + (f k).offered) (total_offered k f)

total_dropped : (k : ℕ) (f : ℕ → Row) → (total_below k f).dropped ≡ sum_below k (λ n. (f n).dropped)
unfolding total_below sum_below
total_dropped zero f = refl
total_dropped (suc k) f = ap (λ j. j + (f k).dropped) (total_dropped k f)

module _ (l : List ℕ) where
  abbrev none : NoLoad (items l)
  none = items_loadless (records l)

  few : FewNotes (at_last l).history
  unfolding begun load_of
  few = subst FewNotes (sym (same_history begun reset reset_well_formed (items l) (no_load_well (items l) none))) (few_history (items l) (record { device = reset; call = 0; history = [] }) none tt)

  offered_all : (total_below 64 (row_of (day_of l))).offered ≡ tally was_offered (at_last l).history
  unfolding row_of
  offered_all = total_offered 64 (row_of (day_of l)) ∙ all_of_each was_offered (at_last l).history few

  dropped_all : (total_below 64 (row_of (day_of l))).dropped ≡ tally was_dropped (at_last l).history
  unfolding row_of
  dropped_all = total_dropped 64 (row_of (day_of l)) ∙ all_of_each was_dropped (at_last l).history few

  flows : Flows (at_last l).history (length (waiting (at_last l).queue)) (0 + drained_in (day_of l).moments)
  unfolding tally
  flows = day_flows (items l) begun (loaded_run reset) 0 same_begun reset_well_formed none (record { is = refl })

  -- Of any trace: the events offered are those dropped, those that wait at the end, and those that its records drained.
  pub offered_are_drained : (total_below 64 (row_of (day_of l))).offered
      ≡ (total_below 64 (row_of (day_of l))).dropped + length (waiting (at_last l).queue) + drained_in (day_of l).moments
  offered_are_drained = offered_all ∙ flows.is ∙ (λ i. sym dropped_all i + length (waiting (at_last l).queue) + zero-add (drained_in (day_of l).moments) i)
