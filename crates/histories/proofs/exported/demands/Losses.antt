-- What writes say of the events that they dropped (02, C-15), added up, against the drop count: over histories, and over exported calls of what a host reads
-- in the answer areas of done writes. The count rises by the sum while it stays below its stop, and otherwise by what fits below the stop.
use Rattle.basics.proofs.Prelude.{◌≡◌, sym, ap, subst, ◌∙◌, true, false, List, ◌∷◌, ℕ, ◌+◌, ◌-◌, ◌<◌, ◌≤◌, min, arith, lit≤, Bytes}
use Rattle.rules.specs.{Device.Device, Device.Call, Device.reset, Numbering.value_with, History.history}
use Rattle.images.specs.{Form.Form, Form.one, Image.decode, Image.numbers_in}
use Rattle.calls.specs.Calls.{asked_by, answered, present_in, value_in, Outcome}
use Rattle.histories.specs.Demands.{BelowStop, losses_in}
use Rattle.histories.specs.exported.Exported.{Exported, left_by, is_done, is_reset, is_load, Underway, carried_on, carried_through, NoLoads, done_call, done_calls, GivenBytes, current, in_image, Faithful, after_reset, at_load, losses_read}
use Rattle.histories.proofs.{laws.WellFormed.history_well, exported.laws.Chains.done_call_lem, exported.laws.Chains.faithful_after_reset, exported.laws.Chains.faithful_at_load}
use Rattle.histories.proofs.{exported.laws.Dropping.tells, exported.laws.Dropping.losses_dropped, exported.laws.Dropping.losses_read_lem, demands.Order.drops_counted}
use Rattle.histories.proofs.exported.demands.FromCalls.{a_load_begins, image_holds_device, image_holds_history, history_since_load}
use Rattle.calls.specs.Calls as request

-- ---- histories

-- a count that has not come to its stop is below 4,294,967,295
pub below_the_stop : (d : Device) → BelowStop d → d.ring.drops < 4294967295
below_the_stop d h = omega (arith, h)

module _ (d : Device) (cs : List Call) (within : d.ring.drops ≤ 4294967295) where
  -- From any device whose count is not past its stop: the count after is that before and the sum of what the writes say, up to the stop.
  pub losses_counted : (history d cs).after.ring.drops ≡ min (d.ring.drops + losses_in d cs) 4294967295
  losses_counted = drops_counted d cs within ∙ ap (λ n. min (d.ring.drops + n) 4294967295) (losses_dropped d cs)

  -- 'The sum over a history equals the rise of the drop count while that is below its stop' (02, C-15)
  pub losses_are_the_rise : (history d cs).after.ring.drops < 4294967295 → d.ring.drops + losses_in d cs ≡ (history d cs).after.ring.drops
  losses_are_the_rise below = omega (arith, losses_counted)

  -- and where the sum is as much as fits below the stop or more, the rise is what fits
  pub rise_is_what_fits : 4294967295 - d.ring.drops ≤ losses_in d cs → d.ring.drops + (4294967295 - d.ring.drops) ≡ (history d cs).after.ring.drops
  rise_is_what_fits full = omega (arith, losses_counted, within)

-- ---- one write

-- A done write, whatever image it is given, says how many events it dropped: its answer area has a value, and that is the number.
pub write_tells : (x : Exported) (base size address width v : ℕ) → x.asked ≡ request.write base size address width v → is_done x ≡ true
    → (present_in (left_by x).answer ≡ true) × (value_in (left_by x).answer ≡ losses_in (decode x.given) (done_call x))
unfolding losses_in
write_tells x base size address width v q t =
    let d = decode x.given in
    let r = done_call_lem (after_reset one) x t (ap (λ k. is_reset (asked_by k)) q) in
    let answer : (left_by x).answer ≡ answered 0 (value_with d (numbers_in x.given) r.call) x.answer = ap (λ (o : Outcome). o.answer) r.left in
    let says = tells d (numbers_in x.given) base size address width v r.call x.answer (sym (ap asked_by q) ∙ r.passes) in
    (rw answer says.present, rw (answer, t, r.passes) (omega (arith, says.amount)))

-- ---- exported calls

module _ (h : Underway) (f : Faithful h) (xs : List Exported) (n : NoLoads h xs) where
  -- What a host adds up, of the values that it reads in the answer areas of done writes, is what the writes of the history say.
  pub losses_are_read : losses_read xs ≡ losses_in (in_image h) (done_calls xs)
  losses_are_read = losses_read_lem h f xs n ∙ ap (λ d. losses_in d (done_calls xs)) (sym (image_holds_device h f))

  first_not_past : (in_image h).ring.drops ≤ 4294967295
  first_not_past = rw (image_holds_device h f) (history_well h.began h.calls f.began).drops

  -- The drop count in the image left last is that in the image left at first and what the host has added up, up to the stop.
  pub losses_of_calls : (in_image (carried_through h xs)).ring.drops ≡ min ((in_image h).ring.drops + losses_read xs) 4294967295
  losses_of_calls =
      rw (image_holds_history h f xs n, losses_read_lem h f xs n, image_holds_device h f)
      (losses_counted (current h) (done_calls xs) (history_well h.began h.calls f.began).drops)

  -- Below the stop the sum is the rise; where it is as much as fits below the stop or more, the rise is what fits.
  pub losses_below_the_stop : (in_image (carried_through h xs)).ring.drops < 4294967295
      → (in_image h).ring.drops + losses_read xs ≡ (in_image (carried_through h xs)).ring.drops
  losses_below_the_stop below = omega (arith, losses_of_calls)

  pub losses_up_to_the_stop : 4294967295 - (in_image h).ring.drops ≤ losses_read xs
      → (in_image h).ring.drops + (4294967295 - (in_image h).ring.drops) ≡ (in_image (carried_through h xs)).ring.drops
  losses_up_to_the_stop full = omega (arith, losses_of_calls, first_not_past)

-- From a reset on, in any form, where the count is 0.
pub losses_from_reset : (form : Form) (xs : List Exported) → NoLoads (after_reset form) xs → (in_image (carried_through (after_reset form) xs)).ring.drops ≡ min (losses_read xs) 4294967295
unfolding history
losses_from_reset form xs n =
    rw (image_holds_history (after_reset form) (faithful_after_reset form) xs n, losses_read_lem (after_reset form) (faithful_after_reset form) xs n)
    (omega (arith, losses_counted reset (done_calls xs) (lit≤ tt)))

-- From a load on, whatever count the loaded image holds; the load's own call is the first that is read.
pub losses_from_load : (h : Underway) (x : Exported) → is_load h.left x ≡ true → is_reset (asked_by x.asked) ≡ false → Bytes x.given
    → (xs : List Exported) → NoLoads (carried_on h x) xs
    → (in_image (carried_through h (x ∷ xs))).ring.drops ≡ min ((decode x.given).ring.drops + losses_read (x ∷ xs)) 4294967295
unfolding carried_through NoLoads
losses_from_load h x l s b xs n =
    let r = a_load_begins h x l s in
    let later = subst (λ u. NoLoads u xs) r.2 n in
    let whole = losses_of_calls (at_load x.given) (faithful_at_load x.given b r.0) (x ∷ xs) (r.1, later) in
    subst (λ u. (in_image (carried_through u xs)).ring.drops ≡ min ((decode x.given).ring.drops + losses_read (x ∷ xs)) 4294967295) (sym r.2) whole

-- With loads and resets anywhere among the calls: since the last of them.
pub losses_since_load : (h : Underway) (xs : List Exported) → Faithful h → GivenBytes xs → let u = carried_through h xs in
    (in_image u).ring.drops ≡ min (u.began.ring.drops + losses_in u.began u.calls) 4294967295
losses_since_load h xs f b =
    let u = carried_through h xs in
    let g = history_since_load h xs f b in
    rw (image_holds_device u g) (losses_counted u.began u.calls g.began.drops)
