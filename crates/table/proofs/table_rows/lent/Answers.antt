-- `lent`: the table's rule, computed once over all of its entries.
use Rattle.basics.proofs.Prelude.{refl}
use Rattle.rules.specs.Map.{cell_at}
use Rattle.table.specs.Meaning.{reading, meant}
use Rattle.table.proofs.table_rows.Once.{agrees}
use Rattle.table.proofs.table_rows.lent.Goals as goal

pub returns : goal.returns
unfolding reading meant cell_at
returns c = agrees _ refl tt
