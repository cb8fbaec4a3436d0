-- What the theorems speak of: the events placed in the order of making are those of the history, each at its position and with the fate that the ring gives it.
use Rattle.basics.proofs.Prelude.{◌≡◌, List, map, length}
use Rattle.rules.specs.{Ring.kept, Ring.dropped, Device.Device, Device.Call, Device.up_from, History.history}
use Rattle.histories.specs.Demands.{as_event, ring_acts, returned_in}
use Rattle.order.specs.Fates.{is_returned, is_kept, is_dropped, events_made, with_fate}
use Rattle.order.proofs.laws.{Positions.all_events, Positions.all_positions, Fates.all_returned, Fates.all_kept, Fates.all_dropped}

module _ (d : Device) (cs : List Call) where
  -- They are the events that the calls make, in the order of making, and their positions are 0, 1, .. : each event made has one.
  pub placed_as_made : map (λ x. x.event) (events_made d cs) ≡ (history d cs).made
  placed_as_made = all_events _ d cs

  pub positions_in_order : map (λ x. x.position) (events_made d cs) ≡ up_from 0 (length (history d cs).made)
  positions_in_order = all_positions _ d cs

  -- Those returned are the events that are made and not offered; those kept and those dropped are what the ring keeps and drops of all that the calls offer.
  pub returned_by_fate : map (λ x. as_event x.event) (with_fate is_returned (events_made d cs)) ≡ returned_in (history d cs).made
  returned_by_fate = all_returned _ d cs

  pub kept_by_fate : map (λ x. as_event x.event) (with_fate is_kept (events_made d cs)) ≡ kept d.ring (ring_acts d cs)
  kept_by_fate = all_kept _ d cs

  pub dropped_by_fate : map (λ x. as_event x.event) (with_fate is_dropped (events_made d cs)) ≡ dropped d.ring (ring_acts d cs)
  dropped_by_fate = all_dropped _ d cs
