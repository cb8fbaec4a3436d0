-- 02, C-22: 'Under the profile demand 3 must hold from reset with no premise but the absence of loads.' Over calls under the profile, whatever phases they are given, with levels, polls and drains
-- between them and refused calls anywhere: the account, service and order, as a host reads them. What demand 3 asks of writes, none to ISR and none that changes a vector byte in service, the profile sees to.
use Rattle.basics.proofs.Prelude.{◌≡◌, refl, sym, ap, subst, ◌∙◌, true, false, List, [], ◌∷◌, ◌++◌, append-nil, append_assoc, ℕ, ◌+◌, ◌<◌, min, arith, length, get_or, on}
use Rattle.rules.specs.{Lines.Made, Ring.Event, Ring.dropped, Device.Device, Device.Call, Device.level, Device.step, Device.reset, History.history}
use Rattle.rules.specs.Account.{carrying, asserts_among, deasserts_among}
use Rattle.images.specs.{Form.Form, Image.decode}
use Rattle.histories.specs.Premises.{Along, Admitted}
use Rattle.histories.specs.Demands.{in_service, Eligible, Spared, Undisturbed, polls_or_raises, as_event, found_by, ring_acts}
use Rattle.histories.specs.exported.Exported.{Exported, Underway, carried_through, NoLoads, done_call, done_calls, in_image, Faithful, after_reset, drained_by}
use Rattle.histories.proofs.{laws.Folds.along_append, exported.laws.Chains.faithful_after_reset, exported.demands.FromCalls.image_holds_device}
use Rattle.histories.proofs.exported.demands.HandedBack.{account_under_way, account_of_calls, account_without_drops, service_of_calls, service_once_raised, order_of_calls, drops_of_calls}
use Rattle.hoists.specs.Hoisted.{resets, Hoisted, left_by, is_done, exported_as, plain_call, plain_calls, returned_under, drained_under, BalancesUnder, HandedOn, left_after}
use Rattle.hoists.proofs.under_profile.demands.Under.{PlainIs, none, one, plain_is, reads_full, all_admitted}
use Rattle.hoists.proofs.under_profile.demands.Handed.{handed_on_is_no_load, left_through, a_reset_begins_under}

-- ---- the account

-- From any history under way, so from any load too: for each vector the account is balanced. No premise but that none of the calls is a load.
pub account_under_profile : (v : ℕ) (h : Underway) → Faithful h → (xs : List Hoisted) → NoLoads h (plain_calls xs)
    → (lost : List Event) → lost ≡ dropped (in_image h).ring (ring_acts (in_image h) (done_calls (plain_calls xs)))
    → BalancesUnder v (in_image h) xs lost (in_image (carried_through h (plain_calls xs)))
account_under_profile v h f xs n lost is =
    let r = reads_full xs in
    let admitted = subst (λ d. Along Admitted d (done_calls (plain_calls xs))) (sym (image_holds_device h f)) (all_admitted h f xs n) in
    rw (r.returned, r.drained) (account_under_way v h f (plain_calls xs) n admitted lost is)

module _ (v : ℕ) (form : Form) (xs : List Hoisted) (n : NoLoads (after_reset form) (plain_calls xs)) where
  admitted_from_reset : Along Admitted reset (done_calls (plain_calls xs))
  unfolding history
  admitted_from_reset = all_admitted (after_reset form) (faithful_after_reset form) xs n

  -- From a reset on, for each vector: the asserts read in answer areas, those read in event buffers, those that wait in the image left last and those dropped come to as many
  -- deasserts, and the inputs that in that image are in service and carry it.
  pub account_from_reset : (lost : List Event) → lost ≡ dropped reset.ring (ring_acts reset (done_calls (plain_calls xs)))
      → let left = in_image (carried_through (after_reset form) (plain_calls xs)) in
      asserts_among v (returned_under xs) + asserts_among v (drained_under xs) + asserts_among v left.ring.waiting + asserts_among v lost
      ≡ deasserts_among v (returned_under xs) + deasserts_among v (drained_under xs) + deasserts_among v left.ring.waiting + deasserts_among v lost + carrying v left.core
  account_from_reset lost is =
      let r = reads_full xs in
      rw (r.returned, r.drained) (account_of_calls v form (plain_calls xs) n admitted_from_reset lost is)

  -- While the drop count is 0 none was dropped.
  pub account_from_reset_without_drops :
      let left = in_image (carried_through (after_reset form) (plain_calls xs)) in
      left.ring.drops ≡ 0
      → asserts_among v (returned_under xs) + asserts_among v (drained_under xs) + asserts_among v left.ring.waiting
      ≡ deasserts_among v (returned_under xs) + deasserts_among v (drained_under xs) + deasserts_among v left.ring.waiting + carrying v left.core
  account_from_reset_without_drops e =
      let r = reads_full xs in
      rw (r.returned, r.drained) (account_without_drops v form (plain_calls xs) n admitted_from_reset e)

-- As a host has it: x is a reset that is done, and each call after it is given the image that the one before it left, none of them a reset. Then the account holds of the last image.
pub account_of_a_guest : (v : ℕ) (x : Hoisted) → x.asks ≡ resets → is_done x ≡ true → (xs : List Hoisted) → HandedOn (left_by x).image xs
    → (lost : List Event) → lost ≡ dropped reset.ring (ring_acts reset (done_calls (plain_calls xs)))
    → let left = decode (left_after (left_by x).image xs) in
    asserts_among v (returned_under xs) + asserts_among v (drained_under xs) + asserts_among v left.ring.waiting + asserts_among v lost
    ≡ deasserts_among v (returned_under xs) + deasserts_among v (drained_under xs) + deasserts_among v left.ring.waiting + deasserts_among v lost + carrying v left.core
account_of_a_guest v x e d xs o lost is =
    let b = a_reset_begins_under x e d in
    let h = after_reset b.0 in
    let c : HandedOn h.left xs = rw b.1 at o in
    let whole = account_from_reset v b.0 xs (handed_on_is_no_load h xs c) lost is in
    rw (b.1, ← left_through h xs c) whole

-- ---- service

-- what is admitted and spares n does not disturb it
undisturbed : (n : ℕ) (d : Device) (cs : List Call) → Along Admitted d cs → Along (Spared n) d cs → Along (Undisturbed n) d cs
unfolding Along
undisturbed n d [] p q = tt
undisturbed n d (c ∷ cs) p q = (record { no_isr_write = p.0.no_isr_write; not_disturbed = q.0 }, undisturbed n (step d c).after cs p.1 q.1)

plain_append : (xs ys : List Hoisted) → plain_calls (xs ++ ys) ≡ plain_calls xs ++ plain_calls ys
unfolding plain_calls
plain_append [] ys = refl
plain_append (x ∷ xs) ys = ap (λ zs. plain_call x ++ zs) (plain_append xs ys) ∙ sym (append_assoc (plain_call x) (plain_calls xs) (plain_calls ys))

done_append : (xs ys : List Exported) → done_calls (xs ++ ys) ≡ done_calls xs ++ done_calls ys
unfolding done_calls
done_append [] ys = refl
done_append (x ∷ xs) ys = ap (λ zs. done_call x ++ zs) (done_append xs ys) ∙ sym (append_assoc (done_call x) (done_calls xs) (done_calls ys))

module _ (x : Hoisted) (c : Call) (is : done_calls (plain_call x) ≡ c ∷ []) where
  -- the exported call that it is
  record Its : Type 0 where
    call : Exported
    plain : plain_call x ≡ call ∷ []
    makes : done_call call ≡ c ∷ []

  its : Its
  unfolding done_calls
  its = go (plain_is x)
    where
      go : PlainIs x → Its
      go (none e) = absurd (let z = ap length (sym (ap done_calls e) ∙ is) in omega arith)
      go (one q e d f) = record { call = exported_as x q; plain = f; makes = sym (append-nil (done_call (exported_as x q))) ∙ sym (ap done_calls f) ∙ is }

module _ (h : Underway) (f : Faithful h) where
  -- In the image left at first the input i is latched and unmasked; none of the calls from there on is a load, and none lowers, clears or masks it. Of them x is done and is a
  -- poll or raise of i. Then i is in service in the image left last.
  pub service_under_profile : (i : ℕ) → i < 64 → Eligible i (in_image h).core.lines → (before : List Hoisted) (x : Hoisted) (later : List Hoisted) (c : Call)
      → done_calls (plain_call x) ≡ c ∷ [] → polls_or_raises i c ≡ true
      → let ys = plain_calls (before ++ (x ∷ later)) in
      NoLoads h ys → Along (Spared i) (in_image h) (done_calls ys) → in_service i (in_image (carried_through h ys)).core.lines ≡ true
  unfolding plain_calls done_calls
  service_under_profile i b r before x later c is a n p =
      let y = its x c is in
      let d = in_image h in
      let bs = plain_calls before in
      let ls = plain_calls later in
      let whole : plain_calls (before ++ (x ∷ later)) ≡ bs ++ (y.call ∷ ls) = plain_append before (x ∷ later) ∙ ap (λ zs. bs ++ (zs ++ ls)) y.plain in
      let calls : done_calls (bs ++ (y.call ∷ ls)) ≡ (done_calls bs ++ (c ∷ [])) ++ done_calls ls =
      done_append bs (y.call ∷ ls) ∙ ap (λ cs. done_calls bs ++ (cs ++ done_calls ls)) y.makes ∙ sym (append_assoc (done_calls bs) (c ∷ []) (done_calls ls)) in
      let admitted = subst (λ e. Along Admitted e (done_calls (plain_calls (before ++ (x ∷ later))))) (sym (image_holds_device h f)) (all_admitted h f (before ++ (x ∷ later)) n) in
      let spared = rw (whole, calls) at p in
      let left_alone = rw (whole, calls) at (undisturbed i d (done_calls (plain_calls (before ++ (x ∷ later)))) admitted p) in
      let first = (along_append (Spared i) d (done_calls bs) (c ∷ []) (along_append (Spared i) d (done_calls bs ++ (c ∷ [])) (done_calls ls) spared).0).0 in
      rw whole (service_of_calls h f i b r bs y.call ls c (rw whole at n) first y.makes a (along_append (Undisturbed i) d (done_calls bs ++ (c ∷ [])) (done_calls ls) left_alone).1)

  -- The same where the raise is what latches it: in the image left at first i is unmasked, and x is done and raises it.
  pub raised_under_profile : (i : ℕ) → i < 64 → on (in_image h).core.lines.mask i ≡ false → (x : Hoisted) (later : List Hoisted)
      → NoLoads h (plain_calls (x ∷ later)) → done_calls (plain_call x) ≡ level i true ∷ [] → Along (Spared i) (step (in_image h) (level i true)).after (done_calls (plain_calls later))
      → in_service i (in_image (carried_through h (plain_calls (x ∷ later)))).core.lines ≡ true
  unfolding plain_calls done_calls Along
  raised_under_profile i b m x later n is p =
      let y = its x (level i true) is in
      let d = in_image h in
      let ls = plain_calls later in
      let whole : plain_calls (x ∷ later) ≡ y.call ∷ ls = ap (λ zs. zs ++ ls) y.plain in
      let calls : done_calls (y.call ∷ ls) ≡ level i true ∷ done_calls ls = ap (λ cs. cs ++ done_calls ls) y.makes in
      let admitted = subst (λ e. Along Admitted e (done_calls (plain_calls (x ∷ later)))) (sym (image_holds_device h f)) (all_admitted h f (x ∷ later) n) in
      let after : Along Admitted d (level i true ∷ done_calls ls) = rw (whole, calls) at admitted in
      rw whole (service_once_raised h f i b m y.call ls (rw whole at n) y.makes (undisturbed i (step d (level i true)).after (done_calls ls) after.1 p))

  -- ---- order

  -- The done call x makes the event m and offers it, and m finds k waiting, fewer than 16. Then m is the (k+1)th event that a host reads in the event buffers of the drains from
  -- there on, once it reads so many.
  pub order_under_profile : (x : Hoisted) (later : List Hoisted) (c : Call) → NoLoads h (plain_calls (x ∷ later)) → done_calls (plain_call x) ≡ c ∷ []
      → (earlier : List Made) (m : Made) (rest : List Made) → (step (in_image h) c).made ≡ earlier ++ (m ∷ rest) → m.offered ≡ true
      → (k : ℕ) → length (found_by (in_image h) earlier).waiting ≡ k → k < 16
      → k < length (drained_under (x ∷ later)) → (e : Event) → get_or (drained_under (x ∷ later)) k e ≡ as_event m
  unfolding plain_calls
  order_under_profile x later c n is earlier m rest made off k found small many e =
      let y = its x c is in
      let whole : plain_calls (x ∷ later) ≡ y.call ∷ plain_calls later = ap (λ zs. zs ++ plain_calls later) y.plain in
      let read = (reads_full (x ∷ later)).drained ∙ ap drained_by whole in
      rw read (order_of_calls h f y.call (plain_calls later) c (rw whole at n) y.makes earlier m rest made off k found small (rw read at many) e)

  -- The drop count in the image left last is that in the image left at first and the events dropped since, up to the stop.
  pub drops_under_profile : (xs : List Hoisted) → NoLoads h (plain_calls xs)
      → (in_image (carried_through h (plain_calls xs))).ring.drops
      ≡ min ((in_image h).ring.drops + length (dropped (in_image h).ring (ring_acts (in_image h) (done_calls (plain_calls xs))))) 4294967295
  drops_under_profile xs n = drops_of_calls h f (plain_calls xs) n
