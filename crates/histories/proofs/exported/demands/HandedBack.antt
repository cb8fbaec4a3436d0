-- Demand 3 of what exported calls hand back. What a host reads in answer areas and event buffers is what the history returns and drains, in order
-- (Readings); so the account holds of the events that it has read, those that still wait in the image and those dropped, and so do service and order.
use Rattle.basics.proofs.Prelude.{◌≡◌, refl, sym, ap, ap₂, subst, ◌∙◌, Bool, true, false, not, ◌&&◌, List, [], ◌∷◌, ◌++◌, ℕ, ◌+◌, ◌<◌, min, arith, eqb, lit≤, length, get_or, Bytes, on}
use Rattle.rules.specs.{Lines.Made, Ring.Event, Ring.dropped, Device.Device, Device.Call, Device.level, Device.step, Device.reset, History.history}
use Rattle.rules.{specs.Account.carrying, specs.Account.asserts, specs.Account.deasserts, specs.Account.asserts_among, specs.Account.deasserts_among, proofs.laws.Counts.tally_nil}
use Rattle.images.specs.{Form.Form, Image.decode}
use Rattle.calls.specs.Calls.{asked_by}
use Rattle.histories.specs.Premises.{Along, Admitted}
use Rattle.histories.specs.Demands.{in_service, Eligible, Spared, Undisturbed, polls_or_raises, as_event, found_by, ring_acts, returned_in}
use Rattle.histories.specs.exported.Exported.{Exported, is_reset, is_load, Underway, carried_on, carried_through, NoLoads, done_call, done_calls, GivenBytes, current, in_image, Faithful, after_reset, at_load, returned_by, drained_by, Balances}
use Rattle.histories.proofs.{laws.Draining.all_accounted, exported.laws.Chains.faithful_after_reset, exported.laws.Chains.faithful_at_load, exported.laws.Chains.calls_split}
use Rattle.histories.proofs.{laws.WellFormed.history_well, exported.laws.Readings.read_as, demands.Account.none_served, demands.Account.asserts_match_service_from}
use Rattle.histories.proofs.demands.{Service.in_service_from_the_poll_on, Service.in_service_once_raised, Order.drained_in_turn, Order.drops_counted}
use Rattle.histories.proofs.exported.demands.FromCalls.{a_load_begins, image_holds_device, image_holds_history, history_since_load}

-- ---- what is read

-- The events that a host reads in the answer areas of exported calls are those that their history returned, and the events that it reads in the event
-- buffers of their drains are those that it drained, all in order.
pub returned_is_read : (h : Underway) → Faithful h → (xs : List Exported) → NoLoads h xs → returned_by xs ≡ returned_in (history (current h) (done_calls xs)).made
returned_is_read h f xs n = (read_as h f xs n).returned

pub drained_is_read : (h : Underway) → Faithful h → (xs : List Exported) → NoLoads h xs → drained_by xs ≡ (history (current h) (done_calls xs)).drained
drained_is_read h f xs n = (read_as h f xs n).drained

-- ---- the account

account : (v : ℕ) (d : Device) (h : Underway) → Faithful h → current h ≡ d → (xs : List Exported) → NoLoads h xs → Along Admitted d (done_calls xs)
    → (lost : List Event) → lost ≡ dropped d.ring (ring_acts d (done_calls xs)) → Balances v d xs lost (in_image (carried_through h xs))
account v d h f e xs n p lost is =
    let cs = done_calls xs in
    let r = read_as h f xs n in
    let ups : Event → Bool = λ x. x.asserted && eqb x.vector v in
    let downs : Event → Bool = λ x. not x.asserted && eqb x.vector v in
    rw (image_holds_history h f xs n, r.returned, r.drained, e)
    (omega (arith, asserts_match_service_from v d cs p, all_accounted ups d cs lost is, all_accounted downs d cs lost is))

-- From any history under way, over exported calls of which none is a load: for each vector the account is balanced between the device in the image left at
-- first and the one in the image left last. Beside the ISR of the first count the events that wait in it, since they may be read later.
pub account_under_way : (v : ℕ) (h : Underway) → Faithful h → (xs : List Exported) → NoLoads h xs → Along Admitted (in_image h) (done_calls xs)
    → (lost : List Event) → lost ≡ dropped (in_image h).ring (ring_acts (in_image h) (done_calls xs))
    → Balances v (in_image h) xs lost (in_image (carried_through h xs))
account_under_way v h f = account v (in_image h) h f (sym (image_holds_device h f))

-- With loads and resets anywhere among the calls: since the last of them, asserts made and the inputs in service with v where it began come to deasserts made
-- and the inputs in service with v in the image left last.
pub account_since_load : (v : ℕ) (h : Underway) (xs : List Exported) → Faithful h → GivenBytes xs → let u = carried_through h xs in
    Along Admitted u.began u.calls
    → let made = (history u.began u.calls).made in
    asserts v made + carrying v u.began.core ≡ deasserts v made + carrying v (in_image u).core
account_since_load v h xs f b p =
    let u = carried_through h xs in
    rw (image_holds_device u (history_since_load h xs f b)) (asserts_match_service_from v u.began u.calls p)

-- 'A load begins a new history: counts of demand 3 start there from the loaded ISR' (01, Saved image). The call x, in any history, is a load of bytes, and
-- of the calls after it none is a load: the account is balanced between the loaded device, with the events that wait in it, and the one in the image left
-- last.
pub account_from_load : (v : ℕ) (h : Underway) (x : Exported) → is_load h.left x ≡ true → is_reset (asked_by x.asked) ≡ false → Bytes x.given
    → (xs : List Exported) → NoLoads (carried_on h x) xs → let d = decode x.given in Along Admitted d (done_calls (x ∷ xs))
    → (lost : List Event) → lost ≡ dropped d.ring (ring_acts d (done_calls (x ∷ xs))) → Balances v d (x ∷ xs) lost (in_image (carried_through h (x ∷ xs)))
unfolding history carried_through NoLoads
account_from_load v h x l s b xs n p lost is =
    let d = decode x.given in
    let r = a_load_begins h x l s in
    let later = subst (λ u. NoLoads u xs) r.2 n in
    let whole = account v d (at_load x.given) (faithful_at_load x.given b r.0) refl (x ∷ xs) (r.1, later) p lost is in
    subst (λ u. Balances v d (x ∷ xs) lost (in_image (carried_through u xs))) (sym r.2) whole

module _ (v : ℕ) (form : Form) (xs : List Exported) (n : NoLoads (after_reset form) xs) (p : Along Admitted reset (done_calls xs)) where
  -- From a reset on, in any form, for each vector: the asserts read in answer areas, those read in event buffers, those that wait in the image left last and those
  -- dropped come to as many deasserts, and the inputs that in that image are in service and carry it.
  pub account_of_calls : (lost : List Event) → lost ≡ dropped reset.ring (ring_acts reset (done_calls xs))
      → let left = in_image (carried_through (after_reset form) xs) in
      asserts_among v (returned_by xs) + asserts_among v (drained_by xs) + asserts_among v left.ring.waiting + asserts_among v lost
      ≡ deasserts_among v (returned_by xs) + deasserts_among v (drained_by xs) + deasserts_among v left.ring.waiting + deasserts_among v lost
      + carrying v left.core
  unfolding history
  account_of_calls lost is =
      let no-assert = tally_nil (λ (x : Event). x.asserted && eqb x.vector v) in
      let no-deassert = tally_nil (λ (x : Event). not x.asserted && eqb x.vector v) in
      omega (arith, account v reset (after_reset form) (faithful_after_reset form) refl xs n p lost is, none_served v, no-assert, no-deassert)

  -- While the drop count is 0 none was dropped: every event is in what was handed back or in the image.
  pub account_without_drops :
      let left = in_image (carried_through (after_reset form) xs) in
      left.ring.drops ≡ 0
      → asserts_among v (returned_by xs) + asserts_among v (drained_by xs) + asserts_among v left.ring.waiting
      ≡ deasserts_among v (returned_by xs) + deasserts_among v (drained_by xs) + deasserts_among v left.ring.waiting + carrying v left.core
  unfolding history
  account_without_drops e =
      let none_dropped_lem = sym (ap (λ d. d.ring.drops) (image_holds_history (after_reset form) (faithful_after_reset form) xs n)) ∙ e in
      let none = nothing (dropped reset.ring (ring_acts reset (done_calls xs))) (omega (arith, drops_counted reset (done_calls xs) (lit≤ tt), none_dropped_lem)) in
      let no-assert = tally_nil (λ (x : Event). x.asserted && eqb x.vector v) in
      let no-deassert = tally_nil (λ (x : Event). not x.asserted && eqb x.vector v) in
      omega (arith, account_of_calls [] (sym none), no-assert, no-deassert)
    where
      nothing : (es : List Event) → length es ≡ 0 → es ≡ []
      nothing [] z = λ i. []
      nothing (x ∷ es) z = absurd (omega arith)

-- ---- service and order

module _ (h : Underway) (f : Faithful h) where
  -- In the image left at first the input i is latched and unmasked; none of the exported calls from there on is a load, and none lowers, clears or masks
  -- it. Of them x is done and is a poll or raise of i, and no write after x reaches ISR. Then i is in service in the image left last.
  pub service_of_calls : (i : ℕ) → i < 64 → Eligible i (in_image h).core.lines → (before : List Exported) (x : Exported) (later : List Exported) (c : Call)
      → NoLoads h (before ++ (x ∷ later)) → Along (Spared i) (in_image h) (done_calls before) → done_call x ≡ c ∷ [] → polls_or_raises i c ≡ true
      → Along (Undisturbed i) (history (in_image h) (done_calls before ++ (c ∷ []))).after (done_calls later)
      → in_service i (in_image (carried_through h (before ++ (x ∷ later)))).core.lines ≡ true
  service_of_calls i b r before x later c n p e a q =
      let met = image_holds_device h f in
      rw (image_holds_history h f (before ++ (x ∷ later)) n, calls_split before x later c e, ← met)
      (in_service_from_the_poll_on i b (in_image h) (done_calls before) c (done_calls later) r p a q)

  -- The same where the raise is what latches it: in the image left at first i is unmasked, and x is done and raises it.
  pub service_once_raised : (i : ℕ) → i < 64 → on (in_image h).core.lines.mask i ≡ false → (x : Exported) (later : List Exported)
      → NoLoads h (x ∷ later) → done_call x ≡ level i true ∷ []
      → Along (Undisturbed i) (step (in_image h) (level i true)).after (done_calls later)
      → in_service i (in_image (carried_through h (x ∷ later))).core.lines ≡ true
  unfolding done_calls
  service_once_raised i b m x later n e p =
      rw (image_holds_history h f (x ∷ later) n, calls_split [] x later (level i true) e, ← image_holds_device h f)
      (in_service_once_raised i b (in_image h) (done_calls later) m p)

  -- The done call x makes the event m and offers it, and m finds k waiting, fewer than 16. Then m is the (k+1)th event that a host reads in the event
  -- buffers of the drains from there on, once it reads so many.
  pub order_of_calls : (x : Exported) (later : List Exported) (c : Call) → NoLoads h (x ∷ later) → done_call x ≡ c ∷ []
      → (earlier : List Made) (m : Made) (rest : List Made) → (step (in_image h) c).made ≡ earlier ++ (m ∷ rest) → m.offered ≡ true
      → (k : ℕ) → length (found_by (in_image h) earlier).waiting ≡ k → k < 16
      → k < length (drained_by (x ∷ later)) → (e : Event) → get_or (drained_by (x ∷ later)) k e ≡ as_event m
  unfolding done_calls
  order_of_calls x later c n o earlier m rest is off k found small many e =
      let calls_are = ap₂ (λ d cs. (history d cs).drained) (sym (image_holds_device h f)) (calls_split [] x later c o) in
      let read = drained_is_read h f (x ∷ later) n ∙ calls_are in
      rw read (drained_in_turn (in_image h) c earlier m rest is off k found small (done_calls later) (rw read at many) e)

  -- The drop count in the image left last is that in the image left at first and the events dropped since, up to the stop.
  pub drops_of_calls : (xs : List Exported) → NoLoads h xs
      → (in_image (carried_through h xs)).ring.drops ≡ min ((in_image h).ring.drops + length (dropped (in_image h).ring (ring_acts (in_image h) (done_calls xs)))) 4294967295
  drops_of_calls xs n =
      let well = history_well h.began h.calls f.began in
      rw (image_holds_history h f xs n, image_holds_device h f) (drops_counted (current h) (done_calls xs) well.drops)
