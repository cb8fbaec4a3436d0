-- What is kept of the device, as the rules see it.
use Rattle.rules.specs.Lines.{Lines}
use Rattle.ledger.specs.declared.watch.Watched.{Watched}

abbrev pub lines_of : Watched → Lines
lines_of w = record { mask = w.mask; irr = w.irr; isr = w.isr }
