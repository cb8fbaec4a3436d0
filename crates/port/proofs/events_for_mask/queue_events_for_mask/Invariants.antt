-- `queue_events_for_mask` offers an event for each input of the mask, lowest first: at each turn, what was offered and what is left are all.
use Rattle.basics.proofs.Prelude.{length, on, inputs}
use Rattle.device.specs.state.View.{ring_view}
use Rattle.port.proofs.events_for_mask.{Queue.Queueing}
use Rattle.port.proofs.events_for_mask.queue_events_for_mask.Given as goal

abbrev pub invariant-loop-left : goal.invariant-loop-left
invariant-loop-left l = Queueing l.vectors l.asserted (ring_view l.initial.out) l.mask l.out l.dropped l.left

abbrev pub decreases-loop-left : goal.decreases-loop-left
decreases-loop-left l = length (inputs (on l.left))
