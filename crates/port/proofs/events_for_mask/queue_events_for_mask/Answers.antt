-- `queue_events_for_mask` offers an event for each input of the mask, lowest first: at each turn, what was offered and what is left are all.
use Rattle.basics.proofs.Prelude.{lt_of_le_of_lt, and_le_l, rules, first_below, first_input, without_only_is}
use Rattle.port.proofs.events_for_mask.{Queue.queue_start, Queue.queue_step, Queue.queue_done, Queue.queue_less}
use Rattle.port.proofs.events_for_mask.queue_events_for_mask.Goals as goal

pub loop-left-init : goal.loop-left-init
loop-left-init c = queue_start c.args.vectors.now c.args.asserted c.args.ring c.args.mask (search rules) (search rules)

pub loop-left-smaller : goal.loop-left-smaller
loop-left-smaller c =
    let l = c.loop-left in
    let some_left = c.loop-left-test.true in
    queue_less l.left _ _ (first_input l.left l.invariant.below some_left) (without_only_is l.left _ l.invariant.below (first_below l.left l.invariant.below some_left))

pub loop-left-preserved : goal.loop-left-preserved
loop-left-preserved c =
    let l = c.loop-left in
    let some_left = c.loop-left-test.true in
    queue_step l.invariant c.push_output_event-pushed.result c.lost-dropped.result (first_input l.left l.invariant.below some_left) c.push_output_event-pushed.ensures c.lost-dropped.ensures
    (without_only_is l.left _ l.invariant.below (first_below l.left l.invariant.below some_left)) (lt_of_le_of_lt (and_le_l l.left _) l.invariant.below)

pub returns : goal.returns
returns c = queue_done c.loop-left.invariant c.loop-left-test.false
