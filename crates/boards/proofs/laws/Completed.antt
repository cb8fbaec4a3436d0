-- The premises of a second board from their other side: when everything was drained and nothing dropped, and for how many events the numbers give the order.
use Rattle.basics.proofs.Prelude.{◌≡◌, refl, ap, ◌∙◌, true, List, [], ◌∷◌, ℕ, ◌+◌, ◌<◌, arith, lit≤, length, length-map}
use Rattle.order.specs.Numbered.{number_at}
use Rattle.rules.specs.{Ring.Event, Ring.dropped, Device.Device, Device.Call, Device.reset, History.history, History.from_reset, Account.tally}
use Rattle.images.specs.Form.{Form}
use Rattle.histories.specs.{Premises.Along, Premises.Admitted, Demands.as_event, Demands.ring_acts, Demands.returned_in}
use Rattle.histories.specs.exported.Exported.{Exported, NoLoads, carried_through, done_calls, in_image, after_reset, returned_by, drained_by}
use Rattle.histories.proofs.{laws.Draining.all_accounted, demands.Order.drops_counted, exported.laws.Chains.faithful_after_reset}
use Rattle.histories.proofs.exported.demands.{FromCalls.image_holds_history, HandedBack.returned_is_read, HandedBack.drained_is_read}
use Rattle.boards.specs.Hearing.{in_order_of_making, Complete, most_in_order}
use Rattle.boards.specs.Collected.{AllRead}

tally_all : {A : Type 0} (xs : List A) → tally (λ x. true) xs ≡ length xs
unfolding tally
tally_all [] = refl
tally_all (x ∷ xs) = omega (arith, tally_all xs)

empty : {A : Type 0} (xs : List A) → length xs ≡ 0 → xs ≡ []
empty [] e = refl
empty (x ∷ xs) e = absurd (omega (arith, e))

module _ (f : Form) (xs : List Exported) (n : NoLoads (after_reset f) xs) where
  abbrev cs : List Call
  cs = done_calls xs

  abbrev lost : List Event
  lost = dropped reset.ring (ring_acts reset cs)

  comes : in_image (carried_through (after_reset f) xs) ≡ (from_reset cs).after
  unfolding history
  comes = image_holds_history (after_reset f) (faithful_after_reset f) xs n

  read_all : length (in_order_of_making cs) ≡ length (returned_by xs) + length (drained_by xs) + length (from_reset cs).after.ring.waiting + length lost
  unfolding history tally
  read_all =
      let returned = ap length (returned_is_read (after_reset f) (faithful_after_reset f) xs n) in
      let drained = ap length (drained_is_read (after_reset f) (faithful_after_reset f) xs n) in
      let s = from_reset cs in
      omega (
        arith,
        all_accounted (λ e. true) reset cs lost refl,
        tally_all s.made,
        tally_all (returned_in s.made),
        tally_all s.drained,
        tally_all s.after.ring.waiting,
        tally_all lost,
        length-map s.made as_event,
        returned,
        drained,
      )

  -- where all that was made was read, nothing waits and nothing was dropped
  pub all_read_if_as_many : length (returned_by xs) + length (drained_by xs) ≡ length (in_order_of_making cs) → AllRead (after_reset f) xs
  all_read_if_as_many e =
      let waits : length (from_reset cs).after.ring.waiting ≡ 0 = omega (arith, read_all, e) in
      let drops : (from_reset cs).after.ring.drops ≡ 0 = omega (arith, read_all, e, drops_counted reset cs (lit≤ tt)) in
      record {
        no_loads = n;
        all_drained = ap (λ (d : Device). d.ring.waiting) comes ∙ empty (from_reset cs).after.ring.waiting waits;
        none_dropped = ap (λ (d : Device). d.ring.drops) comes ∙ drops;
      }

  pub complete_if_all : Along Admitted reset cs → length (returned_by xs) + length (drained_by xs) ≡ length (in_order_of_making cs) → Complete (after_reset f) xs
  complete_if_all a e = let r = all_read_if_as_many e in record { no_loads = n; admitted = a; all_drained = r.all_drained; none_dropped = r.none_dropped }

-- the number of an event is its position exactly while there are so many
pub in_order_exactly : (p : ℕ) → (p < most_in_order → number_at 0 p ≡ p) × (number_at 0 p ≡ p → p < most_in_order)
in_order_exactly p = (λ h. omega (arith, h), λ e. omega (arith, e))
