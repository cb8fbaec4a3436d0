-- `close`: the last column becomes whether a wait is not over.
use Rattle.basics.proofs.Prelude.{◌∙◌, arith}
use Rattle.std.proofs.lemmas.Bool.Decides.{nat_tests}
use Rattle.ledger.proofs.totals.Rows.{shuts}
use Rattle.ledger.proofs.totals.close.Goals as goal

pub returns : goal.returns
returns c = shuts c.args.n c.requires.1 c.cell-since.ensures (c.from.ensures ∙ grind (arith, nat_tests)) c.put_cell.ensures
