-- `read_four`: at once where they are a run, and else one by one.
use Rattle.basics.proofs.Prelude.{arith, rules}
use Rattle.rules.specs.Access.{read_cell}
use Rattle.laws.proofs.laws.Maps.{at_bytes}
use Rattle.access.proofs.cells.{Entries.four_run, Entries.four_read}
use Rattle.access.proofs.cells.read_four.Goals as goal

pub read_run-requires : goal.read_run-requires
unfolding read_cell
read_run-requires c = (search rules, four_run c.args.offset c.requires.1 c.if-offset-le60.true, omega arith)

pub returns-then-offset-le60 : goal.returns-then-offset-le60
unfolding read_cell
returns-then-offset-le60 c = let r = c in
    let s = r in
    four_read s.args.image.now s.args.offset c.half.ensures r.read_run.ensures

pub overflow_add-offset : goal.overflow_add-offset
unfolding read_cell
overflow_add-offset c = omega (arith, at_bytes _ c.requires.1)

pub overflow_add-offset-2 : goal.overflow_add-offset-2
unfolding read_cell
overflow_add-offset-2 c = omega (arith, at_bytes _ c.requires.1)

pub overflow_add-offset-3 : goal.overflow_add-offset-3
unfolding read_cell
overflow_add-offset-3 c = omega (arith, at_bytes _ c.requires.1)

pub returns : goal.returns
unfolding read_cell
returns c d ns h = omega (arith, c.read_entry-a.ensures d ns h, c.read_entry-b.ensures d ns h, c.read_entry-c.ensures d ns h, c.read_entry-d.ensures d ns h)
