-- `read_run`: by the table that the run lies in.
use Rattle.access.proofs.cells.{Entries.routes_run, Entries.vectors_run}
use Rattle.access.proofs.cells.read_run.Goals as goal

pub returns-then-offset-lt512 : goal.returns-then-offset-lt512
returns-then-offset-lt512 c = let s = c in routes_run s.args.image.now s.args.offset s.args.n s.requires.1 c.if-offset-lt512.true c.routes.ensures

pub returns-else-offset-lt512 : goal.returns-else-offset-lt512
returns-else-offset-lt512 c = let s = c in vectors_run s.args.image.now s.args.offset s.args.n s.requires.1 c.if-offset-lt512.false c.vectors.ensures
