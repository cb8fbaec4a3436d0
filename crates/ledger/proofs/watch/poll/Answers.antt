-- `poll`: it enters.
use Rattle.ledger.proofs.watch.Moving.{poll_done}
use Rattle.ledger.proofs.watch.poll.Goals as goal

pub returns : goal.returns
returns c = poll_done c.args.n c.args.k c.enter_one.ensures
