-- `push_output_event` is an offer: with room the event is stored behind the newest, without it is counted.
use Rattle.basics.proofs.Prelude.{arith, rules}
use Rattle.port.proofs.push.{Behind.push_room, Behind.kept_room, Behind.push_full, Behind.kept_full}
use Rattle.port.proofs.push.push_output_event.Goals as goal

pub returns-then-out-eq-OUTPUT_QUEUE_CAPACITY : goal.returns-then-out-eq-OUTPUT_QUEUE_CAPACITY
returns-then-out-eq-OUTPUT_QUEUE_CAPACITY c =
    let r = c.args.ring in
    record { is = record { well = search rules; shows = push_full r _ _ (search rules) c.saturating_add.ensures }; kept = kept_full r (search rules) }

pub returns : goal.returns
returns c =
    let r = c.args.ring in
    record { is = record { well = search rules; shows = push_room r _ _ (search rules) (search rules) (omega arith) }; kept = kept_room r (omega arith) }
