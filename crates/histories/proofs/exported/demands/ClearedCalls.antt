-- 01, Easy to get wrong, of exported calls: 'Re-asserting a cleared input whose line is still high: it needs a new raise.'
use Rattle.basics.proofs.Prelude.{◌≡◌, sym, ap, ◌∙◌, true, false, ◌&&◌, List, [], ◌∷◌, ℕ, ◌+◌, ◌<◌, arith, eqb, on}
use Rattle.rules.specs.{Ring.Event, Ring.dropped, Device.Call, Device.none, Device.step, Numbering.value_with, History.history, Account.asserts_among}
use Rattle.images.specs.Image.{numbers_in}
use Rattle.calls.{proofs.laws.Requests.input_is, proofs.laws.Requests.asked_is, specs.Calls.poll, specs.Calls.asked_by, specs.Calls.answered, specs.Calls.Outcome}
use Rattle.histories.specs.{Premises.Along, Demands.Clears, Demands.Unraised, Demands.asserts_of, Demands.CarriedAlone, Demands.ring_acts}
use Rattle.histories.specs.exported.Exported.{Exported, left_by, is_done, is_load, Underway, carried_on, carried_through, NoLoads, done_call, done_calls, current, in_image, Faithful, returned_by, drained_by}
use Rattle.histories.proofs.{laws.Draining.all_accounted, exported.laws.Chains.handed, exported.laws.Chains.calls_split}
use Rattle.histories.proofs.{laws.Latches.quiet_until_raised, laws.Latches.poll_finds_none, laws.Latches.call_unlatches, laws.Carriers.asserts_within, exported.laws.Readings.read_as}
use Rattle.histories.proofs.demands.Cleared.{no_assert_until_raised}
use Rattle.histories.proofs.exported.demands.FromCalls.{image_holds_device, faithful_through, image_holds_history}
use Rattle.rules.specs.Device as device

-- In a history under way the done call x clears the input i, and none of the calls after it is a load or a raise of i.
module _ (h : Underway) (f : Faithful h) (i : ℕ) (b : i < 64) (x : Exported) (later : List Exported) (c : Call) (n : NoLoads h (x ∷ later)) (e : done_call x ≡ c ∷ [])
    (s : Clears i (in_image h) c) (p : Along (Unraised i) (in_image (carried_on h x)) (done_calls later)) where
  met : in_image (carried_on h x) ≡ (step (in_image h) c).after
  unfolding history carried_through NoLoads done_calls
  met = image_holds_history h f (x ∷ []) (n.0, tt) ∙ (λ j. (history (sym (image_holds_device h f) j) (calls_split [] x [] c e j)).after)

  -- Then from x on they make no assert of i, whatever its line, the masks and the polls do.
  pub cleared_makes_no_assert : asserts_of i (history (in_image h) (done_calls (x ∷ later))).made ≡ 0
  unfolding done_calls
  cleared_makes_no_assert =
      rw (calls_split [] x later c e) (no_assert_until_raised i b (in_image h) c (done_calls later) s (rw met at p))

  -- In the image left last it is not latched,
  pub cleared_stays_unlatched : on (in_image (carried_through h (x ∷ later))).core.lines.irr i ≡ false
  unfolding carried_through NoLoads
  cleared_stays_unlatched =
      let from = faithful_through h f (x ∷ []) (n.0, tt) in
      rw (image_holds_history (carried_on h x) from later n.1, ← image_holds_device (carried_on h x) from)
      (quiet_until_raised i b (in_image (carried_on h x)) (done_calls later) p (rw met (call_unlatches i b (in_image h) c s))).unlatched

  -- and a poll of it there, if it is done, answers that it returns nothing.
  pub cleared_polled_in_vain : (y : Exported) → y.asked ≡ poll i → is_done y ≡ true → is_load (carried_through h (x ∷ later)).left y ≡ false
      → (left_by y).answer ≡ answered 0 none y.answer
  cleared_polled_in_vain y a t l =
      let u = carried_through h (x ∷ later) in
      let still = faithful_through h f (x ∷ later) n in
      let r = handed u y still t l in
      let is = input_is i (device.poll i) r.call (asked_is (sym (ap asked_by a) ∙ r.passes)) in
      let off = ap (λ d. on d.core.lines.irr i) (sym (image_holds_device u still)) ∙ cleared_stays_unlatched in
      ap (λ (o : Outcome). o.answer) r.left
      ∙ ap (λ v. answered 0 v y.answer) (ap (value_with (current u) (numbers_in y.given)) is ∙ poll_finds_none i b (current u) (numbers_in y.given) off)

  -- Where no other input carries the vector v from x on, each assert of v that a host reads from then, that waits at last or that was lost is one that
  -- waited at first.
  pub cleared_asserts_had_waited : (v : ℕ) → Along (CarriedAlone i v) (in_image h) (done_calls (x ∷ later))
      → (lost : List Event) → lost ≡ dropped (in_image h).ring (ring_acts (in_image h) (done_calls (x ∷ later)))
      → asserts_among v (returned_by (x ∷ later)) + asserts_among v (drained_by (x ∷ later)) + asserts_among v (in_image (carried_through h (x ∷ later))).ring.waiting
      + asserts_among v lost ≡ asserts_among v (in_image h).ring.waiting
  cleared_asserts_had_waited v alone lost is =
      let cs = done_calls (x ∷ later) in
      let r = read_as h f (x ∷ later) n in
      rw (image_holds_history h f (x ∷ later) n, r.returned, r.drained, ← image_holds_device h f)
      (omega (
        arith,
        all_accounted (λ y. y.asserted && eqb y.vector v) (in_image h) cs lost is,
        asserts_within i v (in_image h) cs alone,
        cleared_makes_no_assert,
      ))
