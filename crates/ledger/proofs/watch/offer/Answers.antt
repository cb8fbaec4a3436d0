-- `offer`: kept where there is room, else dropped.
use Rattle.passes.proofs.tallies.laws.Turning.{offers_kept, offers_dropped}
use Rattle.ledger.proofs.watch.offer.Goals as goal

pub returns-then-waiting-lt-ROOM : goal.returns-then-waiting-lt-ROOM
returns-then-waiting-lt-ROOM c = offers_kept c.args.n c.args.k c.args.asserted c.if-waiting-lt-ROOM.true c.event.ensures

pub returns : goal.returns
returns c = offers_dropped c.args.n c.args.k c.args.asserted c.if-waiting-lt-ROOM.false c.event-2.ensures
